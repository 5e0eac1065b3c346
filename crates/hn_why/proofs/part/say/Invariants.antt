use Rattle.hn_base.proofs.Names.{◌≡◌, ◌++◌, take, string_bytes}
use Rattle.hn_why.specs.Parts.{filled_in}
use Rattle.hn_why.proofs.part.say.Given as goal

-- the template is filled in so far
abbrev pub invariant-loop-byte : goal.invariant-loop-byte
invariant-loop-byte l = string_bytes l.text ≡ string_bytes l.fn.text ++ filled_in l.parts (take l.byte-index l.byte-items)
