use Rattle.hn_base.proofs.Names.{take, [], Each}
use Rattle.hn_addr.proofs.Names.{seen_by, IsChosenFor, none_chosen, Draws}
use Rattle.hn_addr.proofs.choosing.choose_all.Given as goal

abbrev pub invariant-loop-c : goal.invariant-loop-c
invariant-loop-c g l = record {
  chosen : Each (IsChosenFor (seen_by l.router) l.router.addresses) (take l.c-index l.c-items) none_chosen l.choosing;
  drew : Draws (g.D.Draw.words l.initial.draw) [] (g.D.Draw.words l.draw) l.choosing.words;
}
