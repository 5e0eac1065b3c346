use Rattle.hn_base.proofs.Names.{◌≡◌, take}
use Rattle.hn_rules.proofs.Names.{with_words}
use Rattle.hn_rules.proofs.running.Running.took_words.Given as goal

abbrev pub invariant-loop-word : goal.invariant-loop-word
invariant-loop-word l = l.self ≡ with_words (take l.word-index l.words) l.fn.self
