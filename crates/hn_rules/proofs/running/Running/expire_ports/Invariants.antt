use Rattle.hn_base.proofs.Names.{take, ◌≡◌, false, Each}
use Rattle.hn_rules.proofs.Names.{AtPort, IsPortExpiry}
use Rattle.hn_rules.proofs.running.Running.expire_ports.Given as goal

abbrev pub invariant-loop-at : goal.invariant-loop-at
invariant-loop-at l = record {
  so_far : Each (λ at. AtPort at IsPortExpiry) (take l.at-index l.at-items) l.initial.self l.self;
  untouched : l.touched ≡ false → l.self ≡ l.initial.self;
}
