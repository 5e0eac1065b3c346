use Rattle.hn_base.proofs.Names.{◌≡◌, ◌^◌, min, take}
use Rattle.hn_world.proofs.Names.{bytes_of_copies}
use Rattle.hn_world.proofs.copies.bytes_of.Given as goal

abbrev pub invariant-loop-copy : goal.invariant-loop-copy
invariant-loop-copy l = l.bytes ≡ min (bytes_of_copies (take l.copy-index l.copies)) (2 ^ 28)
