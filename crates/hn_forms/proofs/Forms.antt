-- The words of the command line ask for one form.
use Rattle.hn_base.proofs.Names.{◌≡◌, ◌≢◌, ◌⊎◌, inl, inr, ℕ, ◌-◌, ◌^◌, ◌<◌, ◌≤◌, List, [], ◌∷◌, length, get_or, drop, take, zero, suc, map, codes, refl, Bool, true, false, not, Option, None, Some}
use Rattle.hn_base.proofs.Names.{sym, ap, subst, ◌∙◌, arith, IfNone, pointwise, false≢true, get_or-map}
use Rattle.hn_forms.proofs.Names.{IsNumberText, IsFormOf, NodeCall, Lab, Udp, Node, Decode, Watch, Soak}
use Rattle.std.proofs.Common.{nat_eq}
use Rattle.std.specs.Cmp.Lexicographic.{same_text}
use Rattle.hn_forms.specs.Form.{IsPlainWord, IsBasedWord, AreCountedWords}
use Rattle.hn_forms.specs.declared.words.Form.{Form}

-- the text of the word at a place
pub word_at : {A : Type 0} (text : A → List ℕ) (words : List A) (i : ℕ) (word : A) (found : List ℕ) → i < length words → word ≡ get_or words i word
    → found ≡ text word → get_or (map text words) i [] ≡ found
word_at text words i word found within is found_is = get_or-map text words i word [] within ∙ ap text (sym is) ∙ sym found_is

plain_word : (form : Form) (words : List (List ℕ)) → length words < 3 → IsFormOf form words → IsPlainWord form (get_or words 1 [])
plain_word Lab words few h = ap (λ (found : List (List ℕ)). get_or found 1 []) h.1
plain_word (Udp base) words few h = absurd (omega (arith, ap length h.2))
plain_word (Node call) words few h = absurd (omega (arith, ap length h.6))
plain_word Decode words few h = ap (λ (found : List (List ℕ)). get_or found 1 []) h.1
plain_word Watch words few h = ap (λ (found : List (List ℕ)). get_or found 1 []) h.1
plain_word (Soak n seed) words few h = absurd (omega (arith, ap length h.3))

based_words : (form : Form) (words : List (List ℕ)) → length words ≡ 3 → IsFormOf form words → IsBasedWord form (get_or words 1 []) (get_or words 2 [])
based_words Lab words three h = absurd (omega (arith, ap length h.1))
based_words (Udp base) words three h =
    let at : (i : ℕ) → get_or words i [] ≡ get_or (h.0 ∷ codes "udp" ∷ h.1 ∷ []) i [] = λ i. ap (λ (found : List (List ℕ)). get_or found i []) h.2 in
    (at 1, subst (λ (word : List ℕ). IsNumberText 1024 65534 word base) (sym (at 2)) h.3)
based_words (Node call) words three h = absurd (omega (arith, ap length h.6))
based_words Decode words three h = absurd (omega (arith, ap length h.1))
based_words Watch words three h = absurd (omega (arith, ap length h.1))
based_words (Soak n seed) words three h = absurd (omega (arith, ap length h.3))

counted_words : (form : Form) (words : List (List ℕ)) → length words ≡ 4 → IsFormOf form words → AreCountedWords form (get_or words 1 []) (get_or words 2 []) (get_or words 3 [])
counted_words Lab words many h = absurd (omega (arith, ap length h.1))
counted_words (Udp base) words many h = absurd (omega (arith, ap length h.2))
counted_words (Node call) words many h = absurd (omega (arith, ap length h.6))
counted_words Decode words many h = absurd (omega (arith, ap length h.1))
counted_words Watch words many h = absurd (omega (arith, ap length h.1))
counted_words (Soak n seed) words many h =
    let at : (i : ℕ) → get_or words i [] ≡ get_or (h.0 ∷ codes "soak" ∷ h.1 ∷ h.2 ∷ []) i [] = λ i. ap (λ (found : List (List ℕ)). get_or found i []) h.3 in (
      at 1,
      subst (λ (word : List ℕ). IsNumberText 2 32 word n) (sym (at 2)) h.4,
      subst (λ (word : List ℕ). IsNumberText 0 (2 ^ 64 - 1) word seed) (sym (at 3)) h.5,
    )

-- two words are bad usage if the second is no form's, and three and four if the further ones are none's
pub no_plain_form : (r : Option Form) (word : List ℕ) (words : List (List ℕ)) → length words < 3 → get_or words 1 [] ≡ word
    → IfNone r ((form : Form) → IsPlainWord form word → ⊥) → IfNone r ((form : Form) → IsFormOf form words → ⊥)
no_plain_form None word words few is none = λ form h. none form (subst (IsPlainWord form) is (plain_word form words few h))
no_plain_form (Some found) word words few is none = tt

pub no_based_form : (r : Option Form) (word base : List ℕ) (words : List (List ℕ)) → length words ≡ 3 → get_or words 1 [] ≡ word → get_or words 2 [] ≡ base
    → IfNone r ((form : Form) → IsBasedWord form word base → ⊥) → IfNone r ((form : Form) → IsFormOf form words → ⊥)
no_based_form None word base words three first second none = λ form h.
    let asks = based_words form words three h in
    none form (subst (λ (w : List ℕ). IsBasedWord form word w) second (subst (λ (w : List ℕ). IsBasedWord form w (get_or words 2 [])) first asks))
no_based_form (Some found) word base words three first second none = tt

pub no_counted_form : (r : Option Form) (word count chance : List ℕ) (words : List (List ℕ)) → length words ≡ 4 → get_or words 1 [] ≡ word → get_or words 2 [] ≡ count → get_or words 3 [] ≡ chance
    → IfNone r ((form : Form) → AreCountedWords form word count chance → ⊥) → IfNone r ((form : Form) → IsFormOf form words → ⊥)
no_counted_form None word count chance words many first second third none = λ form h.
    let P : List ℕ → List ℕ → List ℕ → Type 0 = AreCountedWords form in
    let asks = counted_words form words many h in
    none form (subst (λ (w : List ℕ). P word count w) third (subst (λ (w : List ℕ). P word w (get_or words 3 [])) second
    (subst (λ (w : List ℕ). P w (get_or words 2 []) (get_or words 3 [])) first asks)))
no_counted_form (Some found) word count chance words many first second third none = tt

-- ---- the words of `node`

told : (same : Bool) → false ≡ not same → true ≡ same
told true h = refl
told false h = absurd (false≢true h)

pub same_word : (xs ys : List ℕ) → false ≡ not (pointwise nat_eq xs ys) → xs ≡ ys
same_word xs ys h = same_text xs ys (told (pointwise nat_eq xs ys) h)

take_all : {A : Type 0} (n : ℕ) (xs : List A) → n ≡ length xs → take n xs ≡ xs
take_all zero [] all = refl
take_all zero (x ∷ xs) all = absurd (omega arith)
take_all (suc n) [] all = absurd (omega arith)
take_all (suc n) (x ∷ xs) all = ap (λ (rest : List _). x ∷ rest) (take_all n xs (omega arith))

-- six words and those after these
pub six_first : {A : Type 0} (text : A → List ℕ) (words : List A) → 6 ≤ length words →
    map text words ≡ get_or (map text words) 0 [] ∷ get_or (map text words) 1 [] ∷ get_or (map text words) 2 [] ∷ get_or
    (map text words) 3 [] ∷ get_or (map text words) 4 [] ∷ get_or (map text words) 5 [] ∷ map text (take (length words - 6) (drop 6 words))
six_first text [] many = absurd (omega arith)
six_first text (a ∷ []) many = absurd (omega arith)
six_first text (a ∷ b ∷ []) many = absurd (omega arith)
six_first text (a ∷ b ∷ c ∷ []) many = absurd (omega arith)
six_first text (a ∷ b ∷ c ∷ d ∷ []) many = absurd (omega arith)
six_first text (a ∷ b ∷ c ∷ d ∷ e ∷ []) many = absurd (omega arith)
six_first text (a ∷ b ∷ c ∷ d ∷ e ∷ f ∷ rest) many = ap (λ (xs : List _). text a ∷ text b ∷ text c ∷ text d ∷ text e ∷ text f ∷ map text xs) (sym (take_all _ rest (omega arith)))

-- other words than two, three or four ask for `node` or for nothing
node_alone : (words : List (List ℕ)) → length words ≢ 2 → length words ≢ 3 → length words ≢ 4 → ((call : NodeCall) → IsFormOf (Node call) words → ⊥) → (form : Form) → IsFormOf form words → ⊥
node_alone words two three four none Lab h = two (ap length h.1)
node_alone words two three four none (Udp base) h = three (ap length h.2)
node_alone words two three four none (Node call) h = none call h
node_alone words two three four none Decode h = two (ap length h.1)
node_alone words two three four none Watch h = two (ap length h.1)
node_alone words two three four none (Soak n seed) h = four (ap length h.3)

pub no_other_form : (r : Option Form) (words : List (List ℕ)) → length words < 2 ⊎ 4 < length words
    → IfNone r ((call : NodeCall) → IsFormOf (Node call) words → ⊥) → IfNone r ((form : Form) → IsFormOf form words → ⊥)
no_other_form None words (inl few) none = node_alone words (λ h. omega arith) (λ h. omega arith) (λ h. omega arith) none
no_other_form None words (inr many) none = node_alone words (λ h. omega arith) (λ h. omega arith) (λ h. omega arith) none
no_other_form (Some found) words other none = tt
