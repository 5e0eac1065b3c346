-- Slots that have a value, or none, and what the walks of their functions share.
--     one, none          a value, and none, as a slot has them
--     is_null, tested    the place is null if and only if there is no value; and it may be compared with null
use Rattle.hn_slot.proofs.Names.{◌≡◌, [], ◌∷◌, refl, sym, subst, Option, IsSome, is_none, Ura, vbool, ent, fst∗, Logic, sem, fact, fact_i, lone, Ptr, block_ptr, null_ptr, ptr_val}
use Rattle.std.proofs.Common.{Bool, true, false, lit<}
use Rattle.std.specs.Prelude.{ℕ, ◌<◌, ◌^◌, zero, Some, None}
use mathlib.Core.Bool.{true≢false}
use mir.Raw.{raw as bare}
use mir.Syntax.{Dict, Args, a_type, dcons, dnil, ptr_eq}
use mir.Val.{vnull, op2_val}
use base.Logic.{via, snd∗, never_e, guard, guard_i}
use contract.Monad.{fact_mono, fact_use}
use denote.Param.{bounded}
use denote.RattleType.{RattleType}
use denote.RawPtr.{Testable}
use Rattle.core.specs.Ptr.{points_to}
use Rattle.libc.specs.Heap.{chunk, chunk_start}
use Rattle.hn_slot.specs.Held.{held_by, heap_owns}

-- what a call passes for the type of the value
abbrev pub given_type : RattleType → Dict → Args
given_type V value_drop = bounded (a_type ∷ []) (V, tt) (dcons value_drop dnil)

-- what the machine answers of a place
abbrev pub is_null : Ptr → Bool
is_null null_ptr = true
is_null (block_ptr b o) = false

pub answered : (at : Ptr) → op2_val ptr_eq (ptr_val at) vnull ≡ vbool (is_null at)
answered null_ptr = refl
answered (block_ptr b o) = refl

module _ (R : RattleType) where
  -- a value, and none, as a slot has them
  abbrev pub one : R.Denot → Option R.Denot
  one held = Some held

  abbrev pub none : Option R.Denot
  none = None

  pub value_of : (held : Option R.Denot) → IsSome held → (value : R.Denot) × (held ≡ one value)
  value_of None is = absurd (true≢false (sym is))
  value_of (Some value) is = (value, refl)

  pub record Tells (at : Ptr) (held : Option R.Denot) : Type 0 where
    pub testable : Testable at
    pub is : is_null at ≡ is_none held

  module _ {M : Type 1} {𝓤 : Ura M} (𝓛 : Logic 𝓤) where
    tells : (at : Ptr) (held : Option R.Denot) → ent 𝓤 (sem 𝓛 (held_by (heap_owns R) at held)) (fact 𝓤 (Tells at held))
    unfolding held_by
    tells null_ptr None = fact_i 𝓤 (Tells null_ptr none) _ (record { testable = lit< tt; is = refl })
    tells (block_ptr b o) None = never_e 𝓤 _
    tells null_ptr (Some held) =
        via 𝓤 (sem 𝓛 (points_to R null_ptr held)) (fst∗ 𝓤 (sem 𝓛 (points_to R null_ptr held)) (sem 𝓛 (chunk (bare (lone R.mir)) null_ptr))) (never_e 𝓤 _)
    tells (block_ptr b o) (Some held) =
        via 𝓤 (sem 𝓛 (chunk (bare (lone R.mir)) (block_ptr b o)))
        (snd∗ 𝓤 (sem 𝓛 (points_to R (block_ptr b o) held)) (sem 𝓛 (chunk (bare (lone R.mir)) (block_ptr b o))))
        (via 𝓤 (fact 𝓤 (o ≡ zero)) (chunk_start 𝓛 (bare (lone R.mir)) (block_ptr b o))
        (fact_mono 𝓤 (o ≡ zero) (Tells (block_ptr b o) (one held)) (λ start. record { testable = subst (λ (n : ℕ). n < 2 ^ 63) (sym start) (lit< tt); is = refl })))

    pub tested : (at : Ptr) (held : Option R.Denot) → ent 𝓤 (sem 𝓛 (held_by (heap_owns R) at held)) (guard 𝓤 (Tells at held) (sem 𝓛 (held_by (heap_owns R) at held)))
    tested at held = fact_use 𝓤 (Tells at held) (tells at held) (guard_i 𝓤 (Tells at held) (sem 𝓛 (held_by (heap_owns R) at held)))
