-- What the words of the command line ask for.
use Rattle.std.specs.Prelude.{◌≡◌, ℕ, List, [], ◌∷◌, codes}
use Rattle.hn_base.specs.Name.{name_text}
use Rattle.hn_base.specs.NameText.{IsNameText}
use Rattle.hn_base.specs.declared.name.Name.{Name}
use Rattle.hn_look.specs.declared.words.Form.{Form}
use Rattle.hn_look.specs.declared.words.Form.TheVariants.{Calm, Log, Table, Why}

-- the word of a form without a name
abbrev pub IsLookWord : Form → List ℕ → Type 0
IsLookWord Log word = word ≡ codes "log"
IsLookWord _ word = ⊥

-- a word is the text of a name
pub record IsNamed (name : Name) (word : List ℕ) : Type 0 where
  pub text : word ≡ name_text name
  pub is_name : IsNameText word

-- the word of a form with a name, and the name
abbrev pub AreNamedWords : Form → List ℕ → List ℕ → Type 0
AreNamedWords Log word name_word = ⊥
AreNamedWords (Table name) word name_word = (word ≡ codes "table") × IsNamed name name_word
AreNamedWords (Why name) word name_word = (word ≡ codes "why") × IsNamed name name_word
AreNamedWords (Calm name) word name_word = (word ≡ codes "calm") × IsNamed name name_word

-- the words of the command line ask for a form: the program's name, and the words of the form
abbrev pub IsLookFormOf : Form → List (List ℕ) → Type 0
IsLookFormOf Log words = (program : List ℕ) × (words ≡ program ∷ codes "log" ∷ [])
IsLookFormOf (Table name) words =
    (program name_word : List ℕ) × (words ≡ program ∷ codes "table" ∷ name_word ∷ []) × IsNamed name name_word
IsLookFormOf (Why name) words =
    (program name_word : List ℕ) × (words ≡ program ∷ codes "why" ∷ name_word ∷ []) × IsNamed name name_word
IsLookFormOf (Calm name) words =
    (program name_word : List ℕ) × (words ≡ program ∷ codes "calm" ∷ name_word ∷ []) × IsNamed name name_word
