use Rattle.hn_base.proofs.Names.{take, Each}
use Rattle.hn_rules.proofs.Names.{Ran, AtPort, IsPortRestart}
use Rattle.hn_rules.proofs.running.Running.restart_ports.Given as goal

abbrev pub invariant-loop-at : goal.invariant-loop-at
invariant-loop-at g l = Ran (Each (λ at. AtPort at IsPortRestart) (take l.at-index l.at-items)) (g.D.Draw.words l.fn.draw) (g.D.Draw.words l.draw) l.fn.self l.self
