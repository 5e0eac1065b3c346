use Rattle.std.specs.Prelude.{ℕ}
use Rattle.rand_pcg.specs.Lcg.{Lcg, state_after}
use Rattle.rand_pcg.specs.Pcg.{multiplier_64, output_xsh_rr}

-- the word at a place of a generator's stream, from place 0
unfoldable pub pcg_word : Lcg → ℕ → ℕ
pcg_word g place = output_xsh_rr (state_after 64 multiplier_64 g.increment place g.state)
