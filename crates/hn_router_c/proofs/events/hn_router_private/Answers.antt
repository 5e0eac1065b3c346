use Rattle.hn_base.proofs.Names.{arith}
use Rattle.hn_router_c.proofs.Refusals.{not_acted}
use Rattle.hn_router_c.proofs.events.hn_router_private.Goals as goal

pub returns-then-length-gt64-clause-acted : goal.returns-then-length-gt64-clause-acted
returns-then-length-gt64-clause-acted c = not_acted _ _ _ _ (omega arith)
