-- The words of the cipher ChaCha with 20 rounds, which are ten double rounds.
use Rattle.std.specs.Prelude.{◌≡◌, ℕ, zero, suc, ◌⊎◌, List, [], ◌∷◌, Contains}
use Rattle.rand_chacha.specs.ChaCha.{ChaCha, next_word}
use Rattle.hn_kept.specs.declared.preferred.Preferred.{Preferred}
use Rattle.hn_kept.specs.Preferred.{word_of}

-- a generator after some words were taken
unfoldable pub chacha_after : ℕ → ChaCha → ChaCha
chacha_after zero g = g
chacha_after (suc taken) g = chacha_after taken ((next_word 10 g).1)

-- the word at a place of a generator's stream, from place 0
unfoldable pub chacha_word : ChaCha → ℕ → ℕ
chacha_word g place = (next_word 10 (chacha_after place g)).0

-- The word at a place of a stream that begins with listed words and goes on with a generator's, as if those had been its first.
unfoldable pub listed_word : List ℕ → ChaCha → ℕ → ℕ
listed_word [] g place = chacha_word g place
listed_word (w ∷ ws) g zero = w
listed_word (w ∷ ws) g (suc place) = listed_word ws ((next_word 10 g).1) place

-- the word of the place of a preferred prefix
abbrev pub IsOfPlace : List Preferred → ℕ → Type 0
IsOfPlace preferred word = (f : Preferred) × Contains preferred f × (word ≡ word_of f)

-- each word is the generator's next one, or that of the place of a preferred prefix, which is taken in its stead
unfoldable pub AreDrawn : List Preferred → ChaCha → List ℕ → Type 0
AreDrawn preferred g [] = Unit {0}
AreDrawn preferred g (w ∷ ws) = ((w ≡ (next_word 10 g).0) ⊎ IsOfPlace preferred w) × AreDrawn preferred ((next_word 10 g).1) ws
