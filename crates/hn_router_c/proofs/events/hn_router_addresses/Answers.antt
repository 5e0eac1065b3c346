use Rattle.hn_base.proofs.Names.{Option, map, sym, subst, arith}
use Rattle.std.specs.Prelude.{IfSome}
use Rattle.hn_router.specs.Act.{Addresses}
use Rattle.hn_kept.specs.Kept.{Kept}
use Rattle.hn_router_c.specs.Calls.{Acted}
use Rattle.hn_router_c.specs.Kinds.{own_address}
use Rattle.hn_router_c.proofs.Refusals.{not_acted}
use Rattle.hn_router_c.proofs.events.hn_router_addresses.Goals as goal

pub returns-then-is_outside_of-clause-acted : goal.returns-then-is_outside_of-clause-acted
returns-then-is_outside_of-clause-acted c =
    subst (λ (held : Option Kept). IfSome c.args.router.now.held (λ before. Acted c.args.now (Addresses (map own_address c.args.list.now)) before held 2))
    (sym c.is_outside_of.ensures.kept) (not_acted _ _ _ _ (omega arith))

pub returns-in_default-clause-acted : goal.returns-in_default-clause-acted
returns-in_default-clause-acted c =
    subst (λ (held : Option Kept). IfSome c.args.router.now.held (λ before. Acted c.args.now (Addresses (map own_address c.args.list.now)) before held 1))
    (sym c.is_outside_of.ensures.kept) (not_acted _ _ _ _ (omega arith))
