use Rattle.hn_base.proofs.Names.{◌≡◌, take}
use Rattle.hn_own.proofs.Names.{published_in}
use Rattle.hn_own.proofs.held_pairs.HeldPairs.published.Given as goal

abbrev pub invariant-loop-c : goal.invariant-loop-c
invariant-loop-c g l = l.published ≡ published_in (take l.c-index l.self.assigned)
