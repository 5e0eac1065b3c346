-- What a handle of C owns.
use Rattle.std.specs.Prelude.{Option, Some, None}
use base.Fml.{Fml, ftrue, ffalse}
use denote.RawPtr.{Ptr, block_ptr, null_ptr}
use Rattle.libc.specs.Heap.{chunk}
use Rattle.std_alloc.specs.Box.Ownership.{box_owns}
use Rattle.hn_kept.specs.Kept.{Kept}
use Rattle.hn_kept.specs.contracts.keeper.Keeper.{the_row}

-- the place is null
abbrev pub nowhere : Ptr → Fml
nowhere null_ptr = ftrue
nowhere (block_ptr b o) = ffalse

-- No router, where the place is null; or else a router at the place, and the right to free its block. So C makes a handle that
-- has none by setting it to zero.
unfoldable pub held_at : Ptr → Option Kept → Fml
held_at at None = nowhere at
held_at at (Some kept) = box_owns (λ ty place. chunk ty place) the_row at kept
