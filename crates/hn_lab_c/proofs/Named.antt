-- A text that is no name names no router.
use Rattle.hn_base.proofs.Names.{◌≡◌, List, ℕ, [], ◌∷◌, true, None, inl, inr, refl, subst, cases_Bool, bytes_eq-Decides, name_text}
use Rattle.std.specs.Prelude.{find}
use Rattle.hn_base.specs.NameText.{IsNameText}
use Rattle.hn_world.specs.Names.{is_named, member_named}
use Rattle.hn_world.specs.declared.member.Member.{Member}
use Rattle.hn_world.specs.declared.parts.Parts.{Parts}

-- a name of a router is one
has_name_text : (name : List ℕ) (m : Member) → is_named name m ≡ true → IsNameText name
has_name_text name m named = subst IsNameText ((bytes_eq-Decides (name_text m.name) name).0 named) m.name.is_name

nobody : (name : List ℕ) → ¬ IsNameText name → (members : List Member) → find (is_named name) members ≡ None
nobody name none [] = refl
nobody name none (m ∷ members) =
    elim (cases_Bool (is_named name m)) [
      | inl named ↦ absurd (none (has_name_text name m named))
      | inr other ↦ rw other (nobody name none members)
    ]

pub no_name : (name : List ℕ) (w : Parts) → ¬ IsNameText name → member_named name w ≡ None
no_name name w none = nobody name none w.members
