-- The parts of a value that is written, as the program finds them.
use Rattle.std.specs.Prelude.{◌≡◌, length}
use Rattle.hn_typed.specs.declared.writing.Tail.{Tail}
use Rattle.hn_typed.specs.declared.writing.Tail.TheVariants.{Subs, Bytes}
use Rattle.hn_typed.specs.Item.{PlainItem}
use Rattle.hn_typed.specs.Written.{fixed_of, tail_of, zeros_before, zeros_of}

-- what the program found after an item's fixed part is what has to stand there
abbrev pub IsTailOf : Tail → PlainItem → Type 0
IsTailOf (Subs subs) item = (tail_of item ≡ subs.now) × (zeros_of item ≡ zeros_before (length (fixed_of item)) subs.now)
IsTailOf (Bytes bytes) item = (tail_of item ≡ bytes.now) × (zeros_of item ≡ 0)
