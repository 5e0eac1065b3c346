use Rattle.hn_base.proofs.Names.{◌≡◌}
use Rattle.hn_kept.specs.Words.{chacha_after}
use Rattle.hn_kept.proofs.words.ChaChaWords.pass.Given as goal

abbrev pub invariant-loop : goal.invariant-loop
invariant-loop l = l.self ≡ chacha_after l.counter l.initial.self
