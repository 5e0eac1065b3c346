-- The words of the command line ask for one form.
use Rattle.hn_base.proofs.Names.{◌≡◌, ◌≢◌, ◌⊎◌, inl, inr, ℕ, ◌<◌, List, [], ◌∷◌, length, get_or, codes, Option, None, Some, sym, ap, subst, ◌∙◌, arith, IfNone, get_or-map, name_text}
use Rattle.hn_look.proofs.Names.{Name, Parts, Sees, SeesCalm, SeesTable, SeesWhy, MayStarve, Calm, Log, Table, Why}
use Rattle.std.specs.Prelude.{map}
use Rattle.hn_look.specs.Form.{IsNamed, IsLookWord, AreNamedWords, IsLookFormOf}
use Rattle.hn_look.specs.Look.{SeesLog}
use Rattle.hn_look.specs.declared.words.Form.{Form}

-- the text of the word at a place
pub word_at : {A : Type 0} (text : A → List ℕ) (words : List A) (i : ℕ) (word : A) (found : List ℕ) → i < length words → word ≡ get_or words i word → found ≡ text word
    → get_or (map text words) i [] ≡ found
word_at text words i word found within is found_is = get_or-map text words i word [] within ∙ ap text (sym is) ∙ sym found_is

at : (words more : List (List ℕ)) (i : ℕ) → words ≡ more → get_or words i [] ≡ get_or more i []
at words more i same = ap (λ (found : List (List ℕ)). get_or found i []) same

plain_word : (form : Form) (words : List (List ℕ)) → length words < 3 → IsLookFormOf form words → IsLookWord form (get_or words 1 [])
plain_word Log words few h = at words _ 1 h.1
plain_word (Table name) words few h = absurd (omega (arith, ap length h.2))
plain_word (Why name) words few h = absurd (omega (arith, ap length h.2))
plain_word (Calm name) words few h = absurd (omega (arith, ap length h.2))

named_words : (form : Form) (words : List (List ℕ)) → length words ≡ 3 → IsLookFormOf form words → AreNamedWords form (get_or words 1 []) (get_or words 2 [])
named_words Log words three h = absurd (omega (arith, ap length h.1))
named_words (Table name) words three h = (at words _ 1 h.2, subst (IsNamed name) (sym (at words _ 2 h.2)) h.3)
named_words (Why name) words three h = (at words _ 1 h.2, subst (IsNamed name) (sym (at words _ 2 h.2)) h.3)
named_words (Calm name) words three h = (at words _ 1 h.2, subst (IsNamed name) (sym (at words _ 2 h.2)) h.3)

-- two words are bad usage if the second is no form's, and three if the further one is none's
pub no_plain_form : (r : Option Form) (word : List ℕ) (words : List (List ℕ)) → length words < 3 → get_or words 1 [] ≡ word
    → IfNone r ((form : Form) → IsLookWord form word → ⊥) → IfNone r ((form : Form) → IsLookFormOf form words → ⊥)
no_plain_form None word words few is none = λ form h. none form (subst (IsLookWord form) is (plain_word form words few h))
no_plain_form (Some found) word words few is none = tt

pub no_named_form : (r : Option Form) (word name : List ℕ) (words : List (List ℕ)) → length words ≡ 3 → get_or words 1 [] ≡ word → get_or words 2 [] ≡ name
    → IfNone r ((form : Form) → AreNamedWords form word name → ⊥) → IfNone r ((form : Form) → IsLookFormOf form words → ⊥)
no_named_form None word name words three first second none = λ form h.
    let asks = named_words form words three h in
    none form (subst (λ (w : List ℕ). AreNamedWords form word w) second (subst (λ (w : List ℕ). AreNamedWords form w (get_or words 2 [])) first asks))
no_named_form (Some found) word name words three first second none = tt

-- no other words ask for a form
pub no_form : (words : List (List ℕ)) → length words < 2 ⊎ 3 < length words → (form : Form) → IsLookFormOf form words → ⊥
no_form words many Log h = let long = ap length h.1 in elim many [ inl few ↦ absurd (omega arith) | inr more ↦ absurd (omega arith) ]
no_form words many (Table name) h = let long = ap length h.2 in elim many [ inl few ↦ absurd (omega arith) | inr more ↦ absurd (omega arith) ]
no_form words many (Why name) h = let long = ap length h.2 in elim many [ inl few ↦ absurd (omega arith) | inr more ↦ absurd (omega arith) ]
no_form words many (Calm name) h = let long = ap length h.2 in elim many [ inl few ↦ absurd (omega arith) | inr more ↦ absurd (omega arith) ]

-- ---- what is said of the form that was found is said of the one that is asked for

-- two names of the same words
same_name : (words : List (List ℕ)) (p q a b word other : List ℕ) (m n : Name) → words ≡ p ∷ word ∷ a ∷ [] → words ≡ q ∷ other ∷ b ∷ [] → IsNamed m a → IsNamed n b → name_text m ≡ name_text n
same_name words p q a b word other m n h k first second =
    sym first.text ∙ sym (at words _ 2 h) ∙ at words _ 2 k ∙ second.text

-- the words of two forms differ
other_word : (words : List (List ℕ)) (p q a b word other : List ℕ) → words ≡ p ∷ word ∷ a ∷ [] → words ≡ q ∷ other ∷ b ∷ [] → length word ≢ length other → ⊥
other_word words p q a b word other h k apart = apart (ap length (sym (at words _ 1 h) ∙ at words _ 1 k))

module _ (P : Type 0 → (Parts → ℕ → List ℕ → Type 0) → Type 0) (words : List (List ℕ)) where
  pub as_log : (form : Form) → IsLookFormOf form words → IsLookFormOf Log words → P (MayStarve form) (Sees form) → P ⊥ SeesLog
  as_log Log found asked holds = holds
  as_log (Table name) found asked holds = absurd (omega (arith, ap length (sym found.2 ∙ asked.1)))
  as_log (Why name) found asked holds = absurd (omega (arith, ap length (sym found.2 ∙ asked.1)))
  as_log (Calm name) found asked holds = absurd (omega (arith, ap length (sym found.2 ∙ asked.1)))

  pub as_table : (form : Form) (name : Name) → IsLookFormOf form words → IsLookFormOf (Table name) words → P (MayStarve form) (Sees form) → P (Unit {0}) (SeesTable (name_text name))
  as_table Log name found asked holds = absurd (omega (arith, ap length (sym found.1 ∙ asked.2)))
  as_table (Table other) name found asked holds =
      subst (λ (text : List ℕ). P (Unit {0}) (SeesTable text))
      (same_name words found.0 asked.0 found.1 asked.1 (codes "table") (codes "table") other name found.2 asked.2 found.3 asked.3) holds
  as_table (Why other) name found asked holds =
      absurd (other_word words found.0 asked.0 found.1 asked.1 (codes "why") (codes "table") found.2 asked.2 (λ same. omega arith))
  as_table (Calm other) name found asked holds =
      absurd (other_word words found.0 asked.0 found.1 asked.1 (codes "calm") (codes "table") found.2 asked.2 (λ same. omega arith))

  pub as_why : (form : Form) (name : Name) → IsLookFormOf form words → IsLookFormOf (Why name) words → P (MayStarve form) (Sees form) → P (Unit {0}) (SeesWhy (name_text name))
  as_why Log name found asked holds = absurd (omega (arith, ap length (sym found.1 ∙ asked.2)))
  as_why (Table other) name found asked holds =
      absurd (other_word words found.0 asked.0 found.1 asked.1 (codes "table") (codes "why") found.2 asked.2 (λ same. omega arith))
  as_why (Why other) name found asked holds =
      subst (λ (text : List ℕ). P (Unit {0}) (SeesWhy text))
      (same_name words found.0 asked.0 found.1 asked.1 (codes "why") (codes "why") other name found.2 asked.2 found.3 asked.3) holds
  as_why (Calm other) name found asked holds =
      absurd (other_word words found.0 asked.0 found.1 asked.1 (codes "calm") (codes "why") found.2 asked.2 (λ same. omega arith))

  pub as_calm : (form : Form) (name : Name) → IsLookFormOf form words → IsLookFormOf (Calm name) words → P (MayStarve form) (Sees form) → P (Unit {0}) (SeesCalm (name_text name))
  as_calm Log name found asked holds = absurd (omega (arith, ap length (sym found.1 ∙ asked.2)))
  as_calm (Table other) name found asked holds =
      absurd (other_word words found.0 asked.0 found.1 asked.1 (codes "table") (codes "calm") found.2 asked.2 (λ same. omega arith))
  as_calm (Why other) name found asked holds =
      absurd (other_word words found.0 asked.0 found.1 asked.1 (codes "why") (codes "calm") found.2 asked.2 (λ same. omega arith))
  as_calm (Calm other) name found asked holds =
      subst (λ (text : List ℕ). P (Unit {0}) (SeesCalm text))
      (same_name words found.0 asked.0 found.1 asked.1 (codes "calm") (codes "calm") other name found.2 asked.2 found.3 asked.3) holds
