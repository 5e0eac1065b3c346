use Rattle.hn_senders.proofs.senders.Shape.of.Given as goal
use Rattle.std.specs.Prelude.{◌≡◌, map, take}

-- the prefixes so far
abbrev pub invariant-loop-info : goal.invariant-loop-info
invariant-loop-info l = l.prefixes ≡ map (λ i. i.prefix) (take l.info-index l.info-items)
