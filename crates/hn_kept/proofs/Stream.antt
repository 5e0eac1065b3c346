-- Streams of words, word by word: those of a generator, and those that begin with listed words.
use Rattle.std.specs.Prelude.{◌≡◌, zero, suc, Some}
use Rattle.hn_base.proofs.Names.{ℕ, ◌+◌, ◌<◌, ◌≤◌, List, [], ◌∷◌, ◌++◌, length, take, get_or, refl, sym, ap, subst, ◌∙◌, inl, inr, arith, zero-add, Option, Begins, IsAt, Took, length-append, same_Some}
use Rattle.hn_base.proofs.Names.{cases_lt, length-take-le, get_or-take, get_or_append_left, get_or-append_seam, same_number_lists}
use Rattle.hn_base.proofs.FirstWords.{begins_both}
use Rattle.rand_chacha.specs.ChaCha.{ChaCha, next_word}
use Rattle.hn_kept.specs.Words.{chacha_after, chacha_word, listed_word}

pub first_word : (g : ChaCha) → (next_word 10 g).0 ≡ chacha_word g 0
unfolding chacha_after chacha_word
first_word g = refl

pub later_words : (g : ChaCha) → Some (chacha_word ((next_word 10 g).1)) ≡ Some (λ place. chacha_word g (suc place))
unfolding chacha_after chacha_word
later_words g = refl

-- ---- listed words

first_listed : (w : ℕ) (ws : List ℕ) (g : ChaCha) → w ≡ listed_word (w ∷ ws) g 0
unfolding listed_word
first_listed w ws g = refl

later_listed : (w : ℕ) (ws : List ℕ) (g : ChaCha) → Some (listed_word ws ((next_word 10 g).1)) ≡ Some (λ place. listed_word (w ∷ ws) g (suc place))
unfolding listed_word
later_listed w ws g = refl

first_unlisted : (g : ChaCha) → (next_word 10 g).0 ≡ listed_word [] g 0
unfolding listed_word chacha_after chacha_word
first_unlisted g = refl

later_unlisted : (g : ChaCha) → Some (listed_word [] ((next_word 10 g).1)) ≡ Some (λ place. listed_word [] g (suc place))
unfolding listed_word chacha_after chacha_word
later_unlisted g = refl

-- a listed word is taken
pub takes_listed : (ls : List ℕ) (w : ℕ) (ws : List ℕ) (g : ChaCha) → ls ≡ w ∷ ws → w ≡ listed_word ls g 0
takes_listed ls w ws g is = first_listed w ws g ∙ ap (λ (xs : List ℕ). listed_word xs g 0) (sym is)

pub leaves_listed : (ls : List ℕ) (w : ℕ) (ws : List ℕ) (g h : ChaCha) → ls ≡ w ∷ ws → h ≡ (next_word 10 g).1
    → Some (listed_word ws h) ≡ Some (λ place. listed_word ls g (suc place))
leaves_listed ls w ws g h is moved =
    ap (λ (k : ChaCha). Some (listed_word ws k)) moved ∙ later_listed w ws g ∙ ap (λ (xs : List ℕ). Some (λ place. listed_word xs g (suc place))) (sym is)

-- one of the generator's is taken, where none is listed
empty : (ls : List ℕ) → length ls ≡ 0 → ls ≡ []
empty [] none = refl
empty (w ∷ ws) none = absurd (omega (arith, none))

pub takes_own : (ls : List ℕ) (w : ℕ) (g : ChaCha) → length ls ≡ 0 → w ≡ (next_word 10 g).0 → w ≡ listed_word ls g 0
takes_own ls w g none is = is ∙ first_unlisted g ∙ ap (λ (xs : List ℕ). listed_word xs g 0) (sym (empty ls none))

pub leaves_own : (ls : List ℕ) (g h : ChaCha) → length ls ≡ 0 → h ≡ (next_word 10 g).1 → Some (listed_word ls h) ≡ Some (λ place. listed_word ls g (suc place))
leaves_own ls g h none moved =
    ap (λ (xs : List ℕ). Some (listed_word xs h)) (empty ls none) ∙ ap (λ (k : ChaCha). Some (listed_word [] k)) moved ∙ later_unlisted g
    ∙ ap (λ (xs : List ℕ). Some (λ place. listed_word xs g (suc place))) (sym (empty ls none))

-- listed words begin their stream
pub begins_listed : (ws : List ℕ) (g : ChaCha) → Begins ws (listed_word ws g)
unfolding listed_word
begins_listed [] g i within = absurd (omega (arith, within))
begins_listed (w ∷ ws) g zero within = refl
begins_listed (w ∷ ws) g (suc i) within = begins_listed ws ((next_word 10 g).1) i (omega (arith, within))

-- behind the listed words come the generator's own
pub own_behind : (ls : List ℕ) (g : ChaCha) (i : ℕ) → length ls ≤ i → listed_word ls g i ≡ chacha_word g i
unfolding listed_word chacha_word chacha_after
own_behind [] g i past = refl
own_behind (w ∷ ws) g zero past = absurd (omega (arith, past))
own_behind (w ∷ ws) g (suc i) past = own_behind ws ((next_word 10 g).1) i (omega (arith, past))

-- the first words of such a stream may be listed in the stead of fewer
pub more_listed : (ls words : List ℕ) (g : ChaCha) (n : ℕ) → Begins words (listed_word ls g) → length ls ≤ n → n ≤ length words → Begins words (listed_word (take n words) g)
more_listed ls words g n begins more few i within =
    let many : length (take n words) ≡ n = length-take-le n words few in
    elim (cases_lt i n) [
      | inl below ↦ sym (get_or-take n words i 0 below) ∙ begins_listed (take n words) g i (omega (arith, many, below))
      | inr past ↦ begins i within ∙ own_behind ls g i (omega (arith, more, past)) ∙ sym (own_behind (take n words) g i (omega (arith, many, past)))
    ]

-- one word more may be
pub one_listed : (ls words : List ℕ) (g : ChaCha) (w : ℕ) → Begins words (listed_word ls g) → length ls < length words → w ≡ get_or words (length ls) 0
    → Begins words (listed_word (ls ++ w ∷ []) g)
one_listed ls words g w begins more is i within =
    let many = length-append ls (w ∷ []) in
    elim (cases_lt i (length ls)) [
      | inl below ↦ begins i within ∙ sym (begins_listed ls g i below) ∙ sym (get_or_append_left ls (w ∷ []) 0 i below) ∙ begins_listed (ls ++ w ∷ []) g i (omega (arith, many, below))
      | inr past ↦ elim (cases_lt (length ls) i) [
        | inl behind ↦ begins i within ∙ own_behind ls g i past ∙ sym (own_behind (ls ++ w ∷ []) g i (omega (arith, many, behind)))
        | inr upto ↦
            let last : length ls ≡ i = omega (arith, past, upto) in
            subst (λ (k : ℕ). ◌≡◌ {A = ℕ} (get_or words k 0) (listed_word (ls ++ w ∷ []) g k)) last
            (sym is ∙ sym (get_or-append_seam ls w [] 0) ∙ begins_listed (ls ++ w ∷ []) g (length ls) (omega (arith, many)))
      ]
    ]

-- the first words are the listed ones
pub same_front : (ls words : List ℕ) (g : ChaCha) (n : ℕ) → Begins words (listed_word ls g) → n ≤ length ls → n ≤ length words → take n words ≡ take n ls
same_front ls words g n begins listed few =
    let many : length (take n words) ≡ n = length-take-le n words few in
    let as_many : length (take n ls) ≡ n = length-take-le n ls listed in
    same_number_lists (take n words) (take n ls) (many ∙ sym as_many) (λ k within.
    let below : k < n = omega (arith, within, many) in
    get_or-take n words k 0 below ∙ begins k (omega (arith, below, few)) ∙ sym (begins_listed ls g k (omega (arith, below, listed))) ∙ sym (get_or-take n ls k 0 below))

-- ---- a generator that passes over words

pub after_none : (g : ChaCha) → g ≡ chacha_after 0 g
unfolding chacha_after
after_none g = refl

one_more : (n : ℕ) (g : ChaCha) → chacha_after (suc n) g ≡ (next_word 10 (chacha_after n g)).1
unfolding chacha_after
one_more zero g = refl
one_more (suc n) g = one_more n ((next_word 10 g).1)

pub after_one_more : (n : ℕ) (first g next : ChaCha) → g ≡ chacha_after n first → next ≡ (next_word 10 g).1 → next ≡ chacha_after (n + 1) first
after_one_more n first g next is moved =
    let more : suc n ≡ n + 1 = omega arith in
    moved ∙ ap (λ (h : ChaCha). (next_word 10 h).1) is ∙ sym (one_more n first) ∙ ap (λ (m : ℕ). chacha_after m first) more

pub word_after : (n place : ℕ) (g : ChaCha) → chacha_word (chacha_after n g) place ≡ chacha_word g (n + place)
unfolding chacha_after chacha_word
word_after zero place g = let same : place ≡ 0 + place = omega arith in ap (chacha_word g) same
word_after (suc n) place g =
    let same : suc (n + place) ≡ suc n + place = omega arith in
    word_after n place ((next_word 10 g).1) ∙ ap (chacha_word g) same

-- ---- what was taken

-- words that were taken from a stream begin it
pub begins_taken : (stream : ℕ → ℕ) (told_after : Option (ℕ → ℕ)) (words : List ℕ) → Took (Some stream) words told_after → Begins words stream
begins_taken stream told_after words took =
    let at : IsAt (Some stream) stream [] = record { begins = λ i less. absurd (omega (arith, less)); rest = ap Some (simp zero-add) } in
    (took [] stream at).begins

-- the first words of a generator were taken, and it goes on after them
pub took_first : (g : ChaCha) (words : List ℕ) → Begins words (chacha_word g) → Took (Some (chacha_word g)) words (Some (chacha_word (chacha_after (length words) g)))
took_first g words begins before stream at =
    let same : (place : ℕ) → chacha_word g place ≡ stream (length before + place) = λ place i. (same_Some _ _ at.rest) i place in
    let later : (place : ℕ) → chacha_word (chacha_after (length words) g) place ≡ stream (length (before ++ words) + place) = λ place.
    let there : length before + (length words + place) ≡ length (before ++ words) + place = omega (arith, length-append before words) in
    word_after (length words) place g ∙ same (length words + place) ∙ ap stream there in
    record {
      begins = begins_both before words stream at.begins (λ i within. begins i within ∙ same i);
      rest = ap Some (λ i place. later place i);
    }
