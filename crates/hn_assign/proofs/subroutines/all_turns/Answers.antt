use Rattle.hn_base.proofs.Names.{List, sym, subst, take}
use Rattle.hn_assign.specs.Renewed.{HasOfOthers}
use Rattle.hn_assign.proofs.Renewals.{has_of_others}
use Rattle.hn_assign.proofs.Names.{Advertised, plain_view, Wish, AreAdvertised, AreSteps, front_more}
use Rattle.hn_assign.proofs.MoreSteps.{steps_more, took_more}
use Rattle.hn_assign.proofs.subroutines.all_turns.Goals as goal
use Rattle.hn_assign.proofs.subroutines.all_turns.Goals.{then-branch+in_ok-known, else-branch}

pub loop-wish-preserved : goal.loop-wish-preserved
loop-wish-preserved g c =
    let view = plain_view c.args.view.now in
    let wishes = c.args.wishes.now in
    let i = c.loop-wish.wish-index in
    let took = c.in_ok-step.ensures.step in
    record {
      steps =
          subst (λ (ws : List Wish). AreSteps view ws c.args.ran.now c.step.new.self) (sym (front_more wishes i c.wish-item.result c.loop-wish-test.true c.wish-item.is))
          (steps_more view (take i wishes) c.wish-item.result took.words c.args.ran.now c.loop-wish.ran c.step.new.self c.loop-wish.invariant.steps took.step);
      known = elim c.if-branch.branch [
        | then-branch+in_ok-known w ↦ subst (AreAdvertised view c.step.new.self.held.assigned) (sym w.known-is) w.in_ok-known.ensures
        | else-branch w ↦
            subst (AreAdvertised view c.step.new.self.held.assigned) (sym w.known-is) (c.in_ok-step.ensures.unchanged w.if-branch.false view c.loop-wish.known c.loop-wish.invariant.known)
      ];
      drew = took_more c.words_join.ensures view c.wish-item.result _ _ _ c.loop-wish.ran c.step.new.self c.loop-wish.invariant.drew took;
    }

pub step-requires-clause-known : goal.step-requires-clause-known
step-requires-clause-known g c =
    subst (AreAdvertised (plain_view c.args.view.now) c.loop-wish.ran.held.assigned) (sym c.get.ensures) c.loop-wish.invariant.known

pub gathered_again-requires-clause-known : goal.gathered_again-requires-clause-known
gathered_again-requires-clause-known g c =
    let view = plain_view c.args.view.now in
    subst (λ (known : List Advertised). HasOfOthers view.own view.nodes known) (sym c.get-then-branch.ensures)
    (has_of_others view c.loop-wish.ran.held.assigned c.loop-wish.known c.loop-wish.invariant.known)
