use Rattle.hn_base.proofs.Names.{◌≡◌, List, ◌++◌, ◌∷◌, [], take, sym, subst, ◌+◌, take_all}
use Rattle.hn_assign.proofs.Names.{Advertised, IsBestIfAny, front_more}
use Rattle.hn_assign.proofs.Bests.{best_passed, best_candidate}
use Rattle.hn_assign.proofs.precedence.best.Goals as goal
use Rattle.hn_assign.proofs.precedence.best.Goals.{then-is_eligible, else-is_eligible}

pub loop-a-preserved : goal.loop-a-preserved
loop-a-preserved c =
    let own = c.args.own.0 in
    let common = c.args.common.now in
    let d = c.args.delegated.now in
    let xs = c.args.advertised.now in
    let seen : List Advertised = take c.loop-a.a-index xs in
    let a = c.a-item.result in
    let more : take (c.loop-a.a-index + 1) xs ≡ seen ++ a ∷ [] = front_more xs c.loop-a.a-index a c.loop-a-test.true c.a-item.is in
    subst (λ (ys : List Advertised). IsBestIfAny ys own common d c.if-is_eligible.best) (sym more)
    (elim c.if-is_eligible.branch [
      | then-is_eligible w ↦ subst (IsBestIfAny (seen ++ a ∷ []) own common d) (sym w.best-is)
          (best_candidate own common d seen a c.loop-a.best w.greater_of.result c.loop-a.invariant (c.is_eligible.ensures.0 w.if-is_eligible.true) w.greater_of.ensures)
      | else-is_eligible w ↦ subst (IsBestIfAny (seen ++ a ∷ []) own common d) (sym w.best-is)
          (best_passed own common d seen a c.loop-a.best c.loop-a.invariant (λ h. let yes = c.is_eligible.ensures.1 h in cc (w.if-is_eligible.false, yes)))
    ])

pub returns : goal.returns
returns c =
    subst (λ (xs : List Advertised). IsBestIfAny xs c.args.own.0 c.args.common.now c.args.delegated.now c.loop-a.best)
    (take_all c.loop-a.a-index c.args.advertised.now c.loop-a-test.false) c.loop-a.invariant
