use Rattle.std.proofs.Common.{List, subst, sym}
use Rattle.hn_assign.specs.Renewed.{HasOfUnchanged}
use Rattle.hn_assign.specs.declared.advertised.Advertised.{Advertised}
use Rattle.hn_assign.proofs.Renewals.{of_own}
use Rattle.hn_assign.proofs.subroutines.gathered_again.Goals as goal

pub renewed-requires-clause-known : goal.renewed-requires-clause-known
renewed-requires-clause-known c =
    subst (λ (known : List Advertised). HasOfUnchanged c.args.view.now.own.0 c.args.view.now.nodes.now c.in_ok-changed.changed known) (sym c.as_slice.ensures)
    (of_own c.args.view.now.own c.args.view.now.nodes.now c.in_ok-changed.changed c.args.known.now c.in_ok-changed.ensures.those c.requires.known)
