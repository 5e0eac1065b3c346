use Rattle.hn_base.proofs.Names.{arith}
use Rattle.hn_router_c.proofs.Refusals.{not_acted}
use Rattle.hn_router_c.proofs.events.hn_router_external.Goals as goal

pub returns-then-valid-preferred-clause-acted : goal.returns-then-valid-preferred-clause-acted
returns-then-valid-preferred-clause-acted c = not_acted _ _ _ _ (omega arith)

pub returns-in_default-clause-acted : goal.returns-in_default-clause-acted
returns-in_default-clause-acted c = not_acted _ _ _ _ (omega arith)
