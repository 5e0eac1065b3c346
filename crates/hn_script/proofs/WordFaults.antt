-- What is wrong with the words after a first word, in any language.
use Rattle.hn_base.proofs.Names.{◌≡◌, ℕ, List, length, Err, inl, inr, sym, ap, ◌∙◌, subst, AllZip}
use Rattle.hn_script.proofs.Names.{FirstWordFault, Field, IsField, Language, ReadsFields}

-- some line begins with the word, and all that do have values of one form after it
pub fault_after : {L A : Type 0} (language : Language L) (word : List ℕ) (some : L) → language.has some → (language.spelling some).first ≡ word
    → (count : ℕ) (fields_of : A → List Field) → ((a : A) → length (fields_of a) ≡ count)
    → ((line : L) → language.has line → (language.spelling line).first ≡ word → (a : A) × ((language.spelling line).fields ≡ fields_of a))
    → (words : List (List ℕ)) (code : ℕ) → ReadsFields count fields_of words (Err code) → FirstWordFault language word words code
fault_after language word some has begins count fields_of counted found words code fault =
    inr (
      λ unknown. unknown some has begins,
      elim fault [
        | inl miscounted ↦ inl (
          λ line of e same. let so = found line of e in miscounted.0 (sym same ∙ ap (λ fields. length fields) so.1 ∙ counted so.0),
          miscounted.1,
        )
        | inr malformed ↦ inr (
          λ wrong. malformed.0 (λ same. let so = found some has begins in wrong some has begins (ap (λ fields. length fields) so.1 ∙ counted so.0 ∙ sym same)),
          elim malformed.1 [
            | inl none ↦ inl (
              λ line spelled. let so = found line spelled.0 spelled.1 in none.0 so.0 (subst (λ fields. AllZip IsField fields words) so.1 spelled.2),
              none.1,
            )
            | inr never ↦ absurd never.1
          ],
        )
      ],
    )
