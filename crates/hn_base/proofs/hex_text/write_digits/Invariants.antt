use Rattle.hn_base.proofs.Names.{◌≡◌, List, ℕ, ◌++◌, length, HasWritten, IsPlainFormatter}
use Rattle.hn_base.proofs.Names.{encode_lower}
use Rattle.hn_base.proofs.hex_text.write_digits.Given as goal

-- the digits of the bytes before the rest are written
abbrev pub invariant-loop-rest : goal.invariant-loop-rest
invariant-loop-rest g l =
    (front : List ℕ) × (l.bytes ≡ front ++ l.rest)
    × (IsPlainFormatter l.fn.f → HasWritten g.W.Write.write_str_gives l.fn.f (encode_lower front) l.f)

abbrev pub decreases-loop-rest : goal.decreases-loop-rest
decreases-loop-rest g l = length l.rest
