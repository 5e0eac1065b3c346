use Rattle.hn_base.proofs.Names.{take, Each}
use Rattle.hn_rules.proofs.Names.{Ran, AtPort, IsPortTick}
use Rattle.hn_rules.proofs.running.Running.tick_ports.Given as goal

abbrev pub invariant-loop-at : goal.invariant-loop-at
invariant-loop-at g l = Ran (Each (λ at. AtPort at IsPortTick) (take l.at-index l.at-items)) (g.D.Draw.words l.fn.draw) (g.D.Draw.words l.draw) l.fn.self l.self
