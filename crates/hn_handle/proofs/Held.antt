-- Handles that have a router, or none, and what the walks of their functions share.
--     one, none          a router, and none, as a handle has them
--     is_null, tested    the place is null if and only if there is no router; and it may be compared with null
use Rattle.hn_handle.proofs.Names.{◌≡◌, refl, sym, subst, Option, IsSome, is_none, Ura, vbool, ent, fst∗, Logic, sem, fact, fact_i, lone, Ptr, block_ptr, null_ptr, ptr_val}
use Rattle.std.proofs.Common.{Bool, true, false, lit<}
use Rattle.std.specs.Prelude.{ℕ, ◌<◌, ◌^◌, zero, Some, None}
use mathlib.Core.Bool.{true≢false}
use mir.Raw.{raw as bare}
use mir.Syntax.{ptr_eq}
use mir.Val.{vnull, op2_val}
use base.Logic.{via, snd∗, never_e, guard, guard_i}
use contract.Monad.{fact_mono, fact_use}
use denote.RawPtr.{Testable}
use Rattle.core.specs.Ptr.{points_to}
use Rattle.libc.specs.Heap.{chunk, chunk_start}
use Rattle.hn_kept.specs.contracts.keeper.Keeper.{the_row}
use Rattle.hn_handle.specs.Held.{held_at}

-- a router, and none, as a handle has them
abbrev pub one : the_row.Denot → Option the_row.Denot
one kept = Some kept

abbrev pub none : Option the_row.Denot
none = None

pub router_of : (held : Option the_row.Denot) → IsSome held → (kept : the_row.Denot) × (held ≡ one kept)
router_of None is = absurd (true≢false (sym is))
router_of (Some kept) is = (kept, refl)

-- what the machine answers of a place
abbrev pub is_null : Ptr → Bool
is_null null_ptr = true
is_null (block_ptr b o) = false

pub answered : (at : Ptr) → op2_val ptr_eq (ptr_val at) vnull ≡ vbool (is_null at)
answered null_ptr = refl
answered (block_ptr b o) = refl

pub record Tells (at : Ptr) (held : Option the_row.Denot) : Type 0 where
  pub testable : Testable at
  pub is : is_null at ≡ is_none held

module _ {M : Type 1} {𝓤 : Ura M} (𝓛 : Logic 𝓤) where
  tells : (at : Ptr) (held : Option the_row.Denot) → ent 𝓤 (sem 𝓛 (held_at at held)) (fact 𝓤 (Tells at held))
  unfolding held_at
  tells null_ptr None = fact_i 𝓤 (Tells null_ptr none) _ (record { testable = lit< tt; is = refl })
  tells (block_ptr b o) None = never_e 𝓤 _
  tells null_ptr (Some kept) =
      via 𝓤 (sem 𝓛 (points_to the_row null_ptr kept)) (fst∗ 𝓤 (sem 𝓛 (points_to the_row null_ptr kept)) (sem 𝓛 (chunk (bare (lone the_row.mir)) null_ptr))) (never_e 𝓤 _)
  tells (block_ptr b o) (Some kept) =
      via 𝓤 (sem 𝓛 (chunk (bare (lone the_row.mir)) (block_ptr b o)))
      (snd∗ 𝓤 (sem 𝓛 (points_to the_row (block_ptr b o) kept)) (sem 𝓛 (chunk (bare (lone the_row.mir)) (block_ptr b o))))
      (via 𝓤 (fact 𝓤 (o ≡ zero)) (chunk_start 𝓛 (bare (lone the_row.mir)) (block_ptr b o))
      (fact_mono 𝓤 (o ≡ zero) (Tells (block_ptr b o) (one kept)) (λ start. record { testable = subst (λ (n : ℕ). n < 2 ^ 63) (sym start) (lit< tt); is = refl })))

  pub tested : (at : Ptr) (held : Option the_row.Denot) → ent 𝓤 (sem 𝓛 (held_at at held)) (guard 𝓤 (Tells at held) (sem 𝓛 (held_at at held)))
  tested at held = fact_use 𝓤 (Tells at held) (tells at held) (guard_i 𝓤 (Tells at held) (sem 𝓛 (held_at at held)))
