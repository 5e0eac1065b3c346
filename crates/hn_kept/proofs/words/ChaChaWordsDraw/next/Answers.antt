use Rattle.hn_base.proofs.Names.{◌∙◌, ap, ℕ, suc, Some}
use Rattle.rand_chacha.specs.ChaCha.{ChaCha}
use Rattle.hn_kept.specs.Words.{chacha_word}
use Rattle.hn_kept.proofs.Stream.{first_word, later_words}
use Rattle.hn_kept.proofs.words.ChaChaWordsDraw.next.Goals as goal

pub returns-clause-word : goal.returns-clause-word
returns-clause-word c = ap (λ (p : ℕ × ChaCha). p.0) c.next_word.ensures ∙ (first_word c.self.inside.generator ∙ ap (λ g. chacha_word g 0) c.self.view_is)

pub returns-clause-rest : goal.returns-clause-rest
returns-clause-rest c = ap (λ (p : ℕ × ChaCha). Some (chacha_word p.1)) c.next_word.ensures ∙ (later_words c.self.inside.generator ∙ ap (λ g. Some (λ place. chacha_word g (suc place))) c.self.view_is)
