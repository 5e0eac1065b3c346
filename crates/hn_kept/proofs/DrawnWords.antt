-- Words of a generator, but that a word may be that of the place of a preferred prefix.
use Rattle.hn_base.proofs.Names.{◌≡◌, ℕ, zero, suc, List, [], ◌∷◌, ◌++◌, length, sym, subst, arith, inl, inr, ◌⊎◌, Begins}
use Rattle.hn_base.proofs.AscendingLists.{nothing_in}
use Rattle.rand_chacha.specs.ChaCha.{ChaCha, next_word}
use Rattle.hn_kept.specs.declared.preferred.Preferred.{Preferred}
use Rattle.hn_kept.specs.Words.{chacha_after, chacha_word, listed_word, IsOfPlace, AreDrawn}

pub none_drawn : (preferred : List Preferred) (g : ChaCha) → AreDrawn preferred g []
unfolding AreDrawn
none_drawn preferred g = tt

-- the first ones of a stream that begins with such words are such
pub drawn_first : (preferred : List Preferred) (listed : List ℕ) (g : ChaCha) (taken : List ℕ) → AreDrawn preferred g listed → Begins taken (listed_word listed g) → AreDrawn preferred g taken
unfolding AreDrawn listed_word chacha_word chacha_after
drawn_first preferred listed g [] drawn begins = tt
drawn_first preferred [] g (w ∷ ws) drawn begins =
    (inl (begins 0 (omega arith)), drawn_first preferred [] ((next_word 10 g).1) ws tt (λ i within. begins (suc i) (omega (arith, within))))
drawn_first preferred (x ∷ xs) g (w ∷ ws) drawn begins =
    let same : w ≡ x = begins 0 (omega arith) in (
      subst (λ (v : ℕ). (v ≡ (next_word 10 g).0) ⊎ IsOfPlace preferred v) (sym same) drawn.0,
      drawn_first preferred xs ((next_word 10 g).1) ws drawn.1 (λ i within. begins (suc i) (omega (arith, within))),
    )

-- with one more of the generator's, or of a preferred place, they are such
pub drawn_more : (preferred : List Preferred) (g : ChaCha) (words : List ℕ) (w : ℕ) → AreDrawn preferred g words → (w ≡ chacha_word g (length words)) ⊎ IsOfPlace preferred w
    → AreDrawn preferred g (words ++ w ∷ [])
unfolding AreDrawn chacha_word chacha_after
drawn_more preferred g [] w drawn of = (of, tt)
drawn_more preferred g (x ∷ xs) w drawn of = (drawn.0, drawn_more preferred ((next_word 10 g).1) xs w drawn.1 of)

-- with nothing preferred they are the generator's
pub drawn_of_none : (g : ChaCha) (words : List ℕ) → AreDrawn [] g words → Begins words (chacha_word g)
unfolding AreDrawn chacha_word chacha_after
drawn_of_none g [] drawn i within = absurd (omega (arith, within))
drawn_of_none g (w ∷ ws) drawn zero within = elim drawn.0 [
  | inl own ↦ own
  | inr of ↦ absurd (nothing_in of.0 of.1)
]
drawn_of_none g (w ∷ ws) drawn (suc i) within = drawn_of_none ((next_word 10 g).1) ws drawn.1 i (omega (arith, within))
