use Rattle.hn_base.proofs.Names.{take, ◌<◌, ◌^◌, All}
use Rattle.hn_hash.proofs.Names.{Holds, part_text}
use Rattle.hn_hash.proofs.network_state.network_of.Given as goal

-- the hasher holds the entries of the parts so far, and their numbers were read
abbrev pub invariant-loop-part : goal.invariant-loop-part
invariant-loop-part l = record {
  held : Holds l.hasher (part_text (take l.part-index l.parts));
  numbered : All (λ part. part.number < 2 ^ 32) (take l.part-index l.parts);
}
