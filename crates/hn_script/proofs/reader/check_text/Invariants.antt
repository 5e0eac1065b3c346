-- The bytes so far are plain.
use Rattle.hn_base.proofs.Names.{take}
use Rattle.hn_script.proofs.Names.{IsPlain}
use Rattle.hn_script.proofs.reader.check_text.Given as goal

abbrev pub invariant-loop-byte : goal.invariant-loop-byte
invariant-loop-byte l = IsPlain (take l.byte-index l.text)
