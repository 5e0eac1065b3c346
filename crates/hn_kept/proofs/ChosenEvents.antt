-- An event that happened over the words that were chosen for it.
use Rattle.hn_base.proofs.Names.{◌≡◌, ◌≢◌, ◌∙◌, ℕ, List, [], ◌∷◌, length, refl, sym, ap, subst, arith, Option, Some, Took, Begins}
use Rattle.rand_chacha.specs.ChaCha.{ChaCha}
use Rattle.hn_pair.specs.Pair.{IsAscending}
use Rattle.hn_router.specs.Act.{PlainEvent, Tick, Happened}
use Rattle.hn_router.specs.Laws.{OneResult}
use Rattle.hn_kept.specs.declared.preferred.Preferred.{Preferred}
use Rattle.hn_kept.specs.Preferred.{preferred_pair}
use Rattle.hn_kept.specs.Words.{chacha_after, listed_word, AreDrawn}
use Rattle.hn_kept.specs.Choosing.{AreBest, AreChosen}
use Rattle.hn_kept.specs.Kept.{Kept, Acts, asked_of}
use Rattle.hn_kept.proofs.Stream.{begins_taken}
use Rattle.hn_kept.proofs.DrawnWords.{drawn_first}
use Rattle.hn_kept.proofs.Choosings.{best_of_none, best_of_chosen}

-- over listed words, of which each is the generator's or that of a preferred place, and which are chosen in a tick
pub acts_over : OneResult → (now : ℕ) (event : PlainEvent) (k after : Kept) (listed : List ℕ) (g : ChaCha) (told_after : Option (ℕ → ℕ))
    → g ≡ k.words → Happened now event k.router after.router after.done → Took (Some (listed_word listed g)) after.done.words told_after
    → IsAscending preferred_pair k.preferred → AreDrawn k.preferred k.words listed → (event ≡ Tick → k.preferred ≢ [] → AreChosen (asked_of now event k) listed)
    → after.words ≡ chacha_after (length after.done.words) k.words → after.told ≡ k.told → after.preferred ≡ k.preferred
    → Acts now event k after
acts_over one now event k after listed g told_after same happened took ascends drawn chosen words told preferred = record {
  happened = happened;
  drew = drew;
  words = words;
  ascends = ascends;
  best = λ tick. best k.preferred refl tick;
  told = told;
  preferred = preferred;
}
  where
    begins : Begins after.done.words (listed_word listed k.words)
    begins =
        begins_taken (listed_word listed k.words) told_after after.done.words
        (subst (λ (h : ChaCha). Took (Some (listed_word listed h)) after.done.words told_after) same took)

    drew : AreDrawn k.preferred k.words after.done.words
    drew = drawn_first k.preferred listed k.words after.done.words drawn begins

    best : (all : List Preferred) → k.preferred ≡ all → event ≡ Tick → AreBest (asked_of now event k) after.done.words
    best [] none tick = best_of_none (asked_of now event k) after.done.words none drew
    best (f ∷ fs) is tick =
        let some : k.preferred ≢ [] = λ none. let nothing = ap (λ (xs : List Preferred). length xs) (sym is ∙ none) in absurd (omega (arith, nothing)) in
        best_of_chosen one (asked_of now event k) listed (chosen tick some) after.router after.done happened begins
