-- What is read of all lines is read of those of a version.
use Rattle.hn_base.proofs.Names.{◌≡◌, ◌⊎◌, ℕ, Bool, true, false, not, List, Result, Ok, Err, MatchBool, inl, inr, refl, sym, subst, false≢true}
use Rattle.hn_script.proofs.Names.{Version, One, IsUnknown, FirstWordFault, IsOneOf, IsNoneOf, line_spelling, IsOfVersion, every_line, of_version, Line, Private, Sync, Address, Addresses, Addressed}
use Rattle.hn_script.proofs.Names.{Ula, Ulas, Radv, Solicit}
use Rattle.hn_script.specs.FirstWords.{later_firsts}
use Rattle.hn_script.specs.Reading.{ReadsDraft, AreOfVersion}
use Rattle.hn_script.specs.declared.draft.Draft.{Draft}
use Rattle.hn_script.proofs.LineWords.{is_one_of, one_of, none_of}

fault_of_version : (version : Version) (word : List ℕ) (words : List (List ℕ)) (code : ℕ) → AreOfVersion version word
    → FirstWordFault every_line word words code → FirstWordFault (of_version version) word words code
fault_of_version version word words code are fault = elim fault [
  | inl unknown ↦ inl (λ line of e. unknown.0 line tt e, unknown.1)
  | inr rest ↦ inr (
    λ unknown. rest.0 (λ line _ e. unknown line (are line e) e),
    elim rest.1 [
      | inl miscounted ↦ inl (λ line of e. miscounted.0 line tt e, miscounted.1)
      | inr found ↦ inr (
        λ miscounted. found.0 (λ line _ e. miscounted line (are line e) e),
        elim found.1 [
          | inl malformed ↦ inl (λ line spelled. malformed.0 line (tt, spelled.1, spelled.2), malformed.1)
          | inr never ↦ absurd never.1
        ],
      )
    ],
  )
]

pub draft_of_version : (version : Version) (word : List ℕ) (words : List (List ℕ)) → AreOfVersion version word
    → (r : Result Draft ℕ) → ReadsDraft every_line word words r → ReadsDraft (of_version version) word words r
draft_of_version version word words are (Ok draft) reads =
    (reads.0, λ line drafted. let spelled = reads.1 line drafted in (are line spelled.1, spelled.1, spelled.2))
draft_of_version version word words are (Err code) reads = fault_of_version version word words code are reads

-- ---- the words of version 2 alone

-- a line is of version 1, or begins with a word of version 2 alone
either : (line : Line) → (is_one_of later_firsts (line_spelling line).first ≡ true) ⊎ IsOfVersion One line
either (Private name bits) = inl refl
either (Address name) = inl refl
either (Addresses name) = inl refl
either (Addressed name) = inl refl
either (Ula name) = inl refl
either (Ulas name) = inl refl
either (Sync left right) = inl refl
either (Radv name e) = inl refl
either (Solicit name e) = inl refl
either _ = inr tt

-- and never both
not_both : (line : Line) → is_one_of later_firsts (line_spelling line).first ≡ true → IsOfVersion One line → ⊥
not_both (Private name bits) later of = of
not_both (Address name) later of = of
not_both (Addresses name) later of = of
not_both (Addressed name) later of = of
not_both (Ula name) later of = of
not_both (Ulas name) later of = of
not_both (Sync left right) later of = of
not_both (Radv name e) later of = of
not_both (Solicit name e) later of = of
not_both _ later of = false≢true later

-- so a word is of version 1 where it is none of these, and else unknown in it
pub of_one : (word : List ℕ) (later : Bool) → MatchBool later (IsOneOf later_firsts word) (IsNoneOf later_firsts word)
    → MatchBool (not later) (AreOfVersion One word) (IsUnknown (of_version One) word)
of_one word true one = λ line of e. not_both line (subst (λ first. is_one_of later_firsts first ≡ true) (sym e) (one_of later_firsts word one)) of
of_one word false none = λ line e. elim (either line) [
  | inl later ↦ absurd (none_of later_firsts (line_spelling line).first word later none e)
  | inr of ↦ of
]
