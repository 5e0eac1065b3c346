-- The first words of a stream.
use Rattle.hn_base.proofs.Names.{[], inl, inr, ◌≡◌, ◌∙◌, ◌+◌, ◌-◌, ℕ, List, ◌++◌, length, Some, ap, zero-add, length-append, arith, cases_lt, common_steps, same_Some, Begins, IsAt, Took}

-- words that stand in the stream after others
begins_both : (xs ys : List ℕ) (stream : ℕ → ℕ) → Begins xs stream → Begins ys (λ i. stream (length xs + i)) → Begins (xs ++ ys) stream
begins_both xs ys stream first rest i within =
    let len = length-append xs ys in
    elim (cases_lt i (length xs)) [
      | inl less ↦ (let h = first i less in grind (arith, common_steps))
      | inr more ↦ (let h = rest (i - length xs) (omega (arith, more)) in let at : length xs + (i - length xs) ≡ i = omega (arith, more) in grind (arith, common_steps))
    ]

-- a draw that tells the stream moves by its first words
pub took_first : (words : List ℕ) (f : ℕ → ℕ) → Begins words f → Took (Some f) words (Some (λ place. f (length words + place)))
took_first words f begins before stream at =
    let told : f ≡ (λ place. stream (length before + place)) = same_Some f (λ place. stream (length before + place)) at.rest in
    record {
      begins = begins_both before words stream at.begins (λ i within. begins i within ∙ ap (λ (g : ℕ → ℕ). g i) told);
      rest = ap (λ (g : ℕ → ℕ). Some (λ (place : ℕ). g (length words + place))) told ∙ ap Some (λ i place. stream (further before words place i));
    }
  where
    further : (xs ys : List ℕ) (place : ℕ) → length xs + (length ys + place) ≡ length (xs ++ ys) + place
    further xs ys place = omega (arith, length-append xs ys)

-- where it moved by some words, these are the first ones
pub first_told : (f g : ℕ → ℕ) (words : List ℕ) → Took (Some f) words (Some g) → IsAt (Some g) f words
first_told f g words drew = drew [] f (record { begins = λ i within. absurd (omega arith); rest = ap Some (simp zero-add) })
