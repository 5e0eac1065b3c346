use Rattle.hn_base.proofs.Names.{◌≡◌, ◌↔◌, ◌⊎◌, ◌++◌, ◌∙◌, length, ◌-◌, List, [], Contains, sym, ap, subst, take, drop, take_all, arith}
use Rattle.hn_assign.proofs.Names.{Advertised, length-drop}
use Rattle.hn_assign.specs.Renewed.{IsOfUnchanged}
use Rattle.hn_assign.proofs.GrownByEach.{Of, Grown, grown_none, grown_more}
use Rattle.hn_assign.proofs.renewing.joined.Goals as goal

pub loop-a-init : goal.loop-a-init
loop-a-init c = record {
  within = omega arith;
  those = subst (λ (xs : List Advertised). Grown (IsOfUnchanged c.args.changed.now) c.args.fresh.now [] (xs ++ c.args.fresh.now)) (sym c.in_ok-all.ensures.items)
      (grown_none (IsOfUnchanged c.args.changed.now) c.args.fresh.now);
}

pub loop-a-preserved : goal.loop-a-preserved
loop-a-preserved c = record {
  within = c.in_ok-next.ensures.within;
  those = grown_more (IsOfUnchanged c.args.changed.now) c.args.fresh.now (c.loop-a.all.items ++ drop c.loop-a.next c.args.fresh.now)
      (c.add_known.new.all.items ++ drop c.in_ok-next.next c.args.fresh.now) c.args.known.now c.loop-a.a-index
      c.a-item.result c.loop-a-test.true c.a-item.is c.loop-a.invariant.those c.in_ok-next.ensures.those;
}

pub returns : goal.returns
returns c a =
    let fresh = c.args.fresh.now in
    let next = c.loop-a.next in
    let rest : take (length fresh - next) (drop next fresh) ≡ drop next fresh = take_all (length fresh - next) (drop next fresh) (let size = length-drop next fresh in omega arith) in
    let all : Contains (c.loop-a.all.items ++ drop next fresh) a ↔ (Contains fresh a ⊎ Of (IsOfUnchanged c.args.changed.now) c.args.known.now a) =
    subst (λ (seen : List Advertised). Contains (c.loop-a.all.items ++ drop next fresh) a ↔ (Contains fresh a ⊎ Of (IsOfUnchanged c.args.changed.now) seen a))
    (take_all c.loop-a.a-index c.args.known.now c.loop-a-test.false) (c.loop-a.invariant.those a) in
    subst (λ (xs : List Advertised). Contains xs a ↔ (Contains fresh a ⊎ Of (IsOfUnchanged c.args.changed.now) c.args.known.now a))
    (sym (c.in_ok-extend_from_slice.ensures.items ∙ ap (λ (xs : List Advertised). c.loop-a.all.items ++ xs) rest)) all
