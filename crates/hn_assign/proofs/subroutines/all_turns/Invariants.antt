use Rattle.hn_base.proofs.Names.{take, Took}
use Rattle.hn_assign.proofs.Names.{plain_view, AreAdvertised, AreSteps}
use Rattle.hn_assign.proofs.subroutines.all_turns.Given as goal

abbrev pub invariant-loop-wish : goal.invariant-loop-wish
invariant-loop-wish g l = record {
  steps : AreSteps (plain_view l.view) (take l.wish-index l.wishes) l.fn.ran l.ran;
  known : AreAdvertised (plain_view l.view) l.ran.held.assigned l.known;
  drew : Took (g.D.Draw.words l.fn.draw) l.ran.words (g.D.Draw.words l.draw);
}
