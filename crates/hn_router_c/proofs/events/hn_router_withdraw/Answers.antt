use Rattle.hn_base.proofs.Names.{arith}
use Rattle.hn_router_c.proofs.Refusals.{not_acted}
use Rattle.hn_router_c.proofs.events.hn_router_withdraw.Goals as goal

pub returns-in_default-clause-acted : goal.returns-in_default-clause-acted
returns-in_default-clause-acted c = not_acted _ _ _ _ (omega arith)
