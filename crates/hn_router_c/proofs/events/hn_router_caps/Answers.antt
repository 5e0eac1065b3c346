use Rattle.hn_base.proofs.Names.{refl}
use Rattle.hn_router_c.proofs.events.hn_router_caps.Goals as goal

pub returns-clause-acted : goal.returns-clause-acted
returns-clause-acted c = λ done. (_, refl, c.happens.ensures.acted)
