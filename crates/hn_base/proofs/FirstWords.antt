-- The first words of a stream, and words taken from one place of it.
use Rattle.hn_base.proofs.Names.{◌≡◌, ◌∙◌, ◌+◌, ◌-◌, ◌<◌, ℕ, zero, suc, List, [], ◌∷◌, ◌++◌, length, get_or, drop, refl, sym, ap, subst, inl, inr, arith, length-append, cases_lt, common_steps}
use Rattle.hn_base.proofs.Names.{same_number_lists, get_or_append_left, drop-append_seam, get_or-append_seam, Begins}
use Rattle.std.proofs.lemmas.List.{get_or-append_right}
use Rattle.hn_base.proofs.FrontOfList.{head_is}

-- where some words and others begin a stream, the former do
pub begins_front : (xs ys : List ℕ) (stream : ℕ → ℕ) → Begins (xs ++ ys) stream → Begins xs stream
begins_front xs ys stream begins i within =
    let h = begins i (omega (arith, length-append xs ys)) in
    grind (arith, common_steps)

-- where the next word of a stream comes behind its first, they are its first words too
pub begins_next : (taken : List ℕ) (stream : ℕ → ℕ) → Begins taken stream → Begins (taken ++ stream (length taken) ∷ []) stream
begins_next taken stream begins i within =
    elim (cases_lt i (length taken)) [
      | inl before ↦ get_or_append_left taken (stream (length taken) ∷ []) 0 i before ∙ begins i before
      | inr past ↦
          let last : length taken ≡ i = omega (arith, within, past, length-append taken (stream (length taken) ∷ [])) in
          subst (λ (k : ℕ). ◌≡◌ {A = ℕ} (get_or (taken ++ stream (length taken) ∷ []) k 0) (stream k)) last (get_or-append_seam taken (stream (length taken)) [] 0)
    ]

-- the words after some are those of the rest of the stream
pub begins_back : (xs ys : List ℕ) (stream : ℕ → ℕ) → Begins (xs ++ ys) stream → Begins ys (λ i. stream (length xs + i))
begins_back xs ys stream begins i within =
    let h = begins (length xs + i) (omega (arith, length-append xs ys)) in
    grind (arith, common_steps)

-- the words of a stream, and then those of the stream that goes on after them
pub begins_both : (xs ys : List ℕ) (stream : ℕ → ℕ) → Begins xs stream → Begins ys (λ i. stream (length xs + i)) → Begins (xs ++ ys) stream
begins_both xs ys stream first rest i within = elim (cases_lt i (length xs)) [
  | inl below ↦ get_or_append_left xs ys 0 i below ∙ first i below
  | inr from ↦
      let long : i < length xs + length ys = subst (λ (n : ℕ). i < n) (length-append xs ys) within in
      let place : length xs + (i - length xs) ≡ i = omega arith in
      get_or-append_right xs ys (length xs) i 0 refl from ∙ rest (i - length xs) (omega arith) ∙ ap stream place
]

-- a stream begins with as many words as one likes
pub words_first : (n : ℕ) (stream : ℕ → ℕ) → (words : List ℕ) × (length words ≡ n) × Begins words stream
words_first zero stream = ([], refl, λ i within. absurd (omega (arith, within)))
words_first (suc n) stream =
    let (before, many, begins) = words_first n stream in (
      before ++ stream (length before) ∷ [],
      omega (arith, many, length-append before (stream (length before) ∷ [])),
      begins_next before stream begins,
    )

pub begins_along : (xs ys : List ℕ) (stream : ℕ → ℕ) → xs ≡ ys → Begins xs stream → Begins ys stream
begins_along xs ys stream same begins = subst (λ (ws : List ℕ). Begins ws stream) same begins

-- ---- as many words of one stream are the same

same_begins : (xs ys : List ℕ) (stream : ℕ → ℕ) → length xs ≡ length ys → Begins xs stream → Begins ys stream → xs ≡ ys
same_begins xs ys stream same a b = same_number_lists xs ys same (λ k within. a k within ∙ sym (b k (omega arith)))

-- those that were taken from the same place
pub same_taken : (before xs ys : List ℕ) (stream : ℕ → ℕ) → length xs ≡ length ys
    → Begins (before ++ xs) stream → Begins (before ++ ys) stream → xs ≡ ys
same_taken before xs ys stream same a b =
    let whole = same_begins (before ++ xs) (before ++ ys) stream (omega (arith, length-append before xs, length-append before ys)) a b in
    sym (drop-append_seam before xs) ∙ ap (drop (length before)) whole ∙ drop-append_seam before ys

-- one word at the same place
pub same_word : (before : List ℕ) (v w : ℕ) (stream : ℕ → ℕ)
    → Begins (before ++ v ∷ []) stream → Begins (before ++ w ∷ []) stream → v ≡ w
same_word before v w stream p q = head_is (same_taken before (v ∷ []) (w ∷ []) stream refl p q)
