-- The stream of a generator, word by word.
use Rattle.std.specs.Prelude.{◌≡◌, suc, Some}
use Rattle.hn_base.proofs.Names.{refl}
use Rattle.rand_pcg.specs.Lcg.{Lcg, state_after}
use Rattle.rand_pcg.specs.Pcg.{pcg32}
use Rattle.hn_io.specs.Pcg.{pcg_word}

pub first_word : (g : Lcg) → (pcg32 g).0 ≡ pcg_word g 0
unfolding state_after pcg_word
first_word g = refl

pub later_words : (g : Lcg) → Some (pcg_word ((pcg32 g).1)) ≡ Some (λ place. pcg_word g (suc place))
unfolding state_after pcg_word
later_words g = refl
