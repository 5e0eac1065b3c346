use Rattle.hn_base.proofs.Names.{◌≡◌, ◌<◌, ◌≤◌, ◌∙◌, List, length, ◌-◌, take, drop, nat_lt, sym, subst, arith, rules, tests, ap, IsNonDecreasingBy, IsPartitionPoint-from_clause, IsPartitionedBy-ltb}
use Rattle.hn_assign.proofs.Names.{length-drop, Advertised, IsFrontUpTo}
use Rattle.std.proofs.Common.{take_all}
use Rattle.hn_assign.proofs.Ranges.{IsBelow, IsFromTo, all_between, are_between}
use Rattle.hn_assign.proofs.index.Index.places_in.Goals as goal

pub returns-then-len-le-FEW : goal.returns-then-len-le-FEW
returns-then-len-le-FEW c =
    let size : c.len-then-len-le-FEW.result ≡ length c.self.inside.advertised.items = omega arith in
    all_between c.args.self.now c.args.outer.now c.len-then-len-le-FEW.result (size ∙ ap length c.self.view_is)

pub returns : goal.returns
returns c =
    let adv = c.args.self.now in
    let outer = c.args.outer.now in
    let items = c.self.inside.advertised.items in
    let xs = c.deref.result.now in
    let ys = c.deref-2.result.now in
    let first = c.bits-first.result in
    let last = c.last_address-last.result in
    let start = c.partition_point-start.result in
    let front = c.front_to-front.result.now in
    let many : 64 < length items = omega arith in
    let here : xs ≡ adv = c.deref.ensures.value ∙ c.self.view_is in
    let there : ys ≡ adv = c.deref-2.ensures.value ∙ c.self.view_is in
    let whole : take (length ys - start) (drop start ys) ≡ drop start adv = take_all (length ys - start) (drop start ys) (let size = length-drop start ys in omega arith) ∙ ap (drop start) there in
    let rises : IsNonDecreasingBy (λ (a : Advertised). a.prefix.bits) adv = subst (IsNonDecreasingBy (λ (a : Advertised). a.prefix.bits)) c.self.view_is (c.self.invariant.ascending many) in
    let below : IsBelow xs first start =
    IsPartitionPoint-from_clause (λ (a : Advertised). nat_lt a.prefix.bits first) xs start c.partition_point-start.ensures.partitioned
    (IsPartitionedBy-ltb (λ (a : Advertised). a.prefix.bits) xs first (subst (IsNonDecreasingBy (λ (a : Advertised). a.prefix.bits)) (sym here) rises)) (λ a r f k. search (rules, tests)) in
    let from_to : IsFromTo outer first last =
    subst (λ n. IsFromTo outer n last) (sym c.bits-first.ensures.value) (subst (IsFromTo outer outer.bits) (sym c.last_address-last.ensures.value) c.inside_is_range.ensures) in
    are_between adv outer first last start front from_to rises
    (subst (λ (zs : List Advertised). IsBelow zs first start) here below)
    (subst (λ (zs : List Advertised). start ≤ length zs) here c.partition_point-start.ensures.bound)
    (subst (λ (zs : List Advertised). IsFrontUpTo zs last front) whole c.front_to-front.ensures)
