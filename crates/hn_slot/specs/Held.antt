-- What a slot owns.
use Rattle.std.specs.Prelude.{Option, Some, None}
use base.Fml.{Fml, ftrue, ffalse}
use denote.RattleType.{RattleType}
use denote.RawPtr.{Ptr, block_ptr, null_ptr}
use Rattle.libc.specs.Heap.{chunk}
use Rattle.std_alloc.specs.Box.Ownership.{box_owns}

-- the place is null
abbrev pub at_null : Ptr → Fml
at_null null_ptr = ftrue
at_null (block_ptr b o) = ffalse

-- a value at a place on the heap, and the right to free its block
abbrev pub heap_owns : (R : RattleType) → Ptr → R.Denot → Fml
heap_owns R at value = box_owns (λ ty place. chunk ty place) R at value

-- No value, where the place is null; or else one at the place, and what owns it there. So C makes a slot that has none by setting
-- it to zero.
unfoldable pub held_by : {A : Type 0} → (Ptr → A → Fml) → Ptr → Option A → Fml
held_by owns at None = at_null at
held_by owns at (Some held) = owns at held
