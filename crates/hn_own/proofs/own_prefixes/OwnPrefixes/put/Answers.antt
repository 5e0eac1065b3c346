use Rattle.hn_base.proofs.Names.{◌≡◌, ◌≤◌, List, true, false, not, length, subst, sym, ap, ◌∙◌, rules, tests, IsPartitionPoint, IsPartitionPoint-from_clause}
use Rattle.hn_own.proofs.Names.{OwnPrefix, AreOwnPrefixes, is_prefix, is_before, delegated_without}
use Rattle.hn_own.proofs.PrefixLists.{IsPlaceFor, place_for, AreOwnPrefixes-partitioned, delegated_with-insert}
use Rattle.hn_own.proofs.PrefixOrder.{own-filter, own-with}
use Rattle.hn_own.proofs.own_prefixes.OwnPrefixes.put.Goals as goal

before : (c : goal.In_ok-insert) → AreOwnPrefixes c.args.self.now
before c = rw (← c.self.view_is) c.self.invariant

others : (c : goal.In_ok-insert) → c.leave.new.items.items ≡ delegated_without c.args.own.prefix c.args.self.now
others c = c.leave.ensures.list ∙ ap (delegated_without c.args.own.prefix) (c.in_ok-reserve.ensures.items ∙ c.self.view_is)

place : (c : goal.In_ok-insert) → IsPlaceFor c.args.own.prefix (delegated_without c.args.own.prefix c.args.self.now) c.partition_point-place.result
place c =
    let at = c.args.own.prefix in
    let i = c.partition_point-place.result in
    let list = c.deref.result.now in
    let same : list ≡ delegated_without at c.args.self.now = c.deref.ensures.value ∙ others c in
    let are : AreOwnPrefixes list = subst AreOwnPrefixes (sym same) (own-filter (λ (p : OwnPrefix). not (is_prefix at p)) c.args.self.now (before c)) in
    let parts = IsPartitionPoint-from_clause (λ (p : OwnPrefix). is_before p.prefix at) list i c.partition_point-place.ensures.partitioned
    (AreOwnPrefixes-partitioned c.order_is_total.ensures at list are) (λ a r f k. search (rules, tests)) in
    let within : i ≤ length list = c.partition_point-place.ensures.bound in
    place_for c.order_is_total.ensures at c.args.self.now i (rw (← same) within)
    (subst (λ (xs : List OwnPrefix). IsPartitionPoint (λ p. is_before p.prefix at ≡ true) (λ p. is_before p.prefix at ≡ false) xs i) same parts)

pub invariant_of-self-2 : goal.invariant_of-self-2
invariant_of-self-2 c =
    rw (c.in_ok-insert.ensures.items, others c)
    (rw (delegated_with-insert c.order_is_total.ensures c.args.own c.args.self.now c.partition_point-place.result (place c))
    (own-with c.args.own c.args.self.now c.requires (before c)))

pub returns-clause-put : goal.returns-clause-put
returns-clause-put c =
    rw (c.in_ok-insert.ensures.items, others c) (delegated_with-insert c.order_is_total.ensures c.args.own c.args.self.now c.partition_point-place.result (place c))
