use Rattle.hn_base.proofs.Names.{◌∙◌, ap, ℕ, suc, Some}
use Rattle.rand_pcg.specs.Lcg.{Lcg}
use Rattle.hn_io.specs.Pcg.{pcg_word}
use Rattle.hn_io.proofs.GeneratorWords.{first_word, later_words}
use Rattle.hn_io.proofs.pcg.PcgDraw.next.Goals as goal

pub returns-clause-word : goal.returns-clause-word
returns-clause-word c = ap (λ (p : ℕ × Lcg). p.0) c.next_word.ensures ∙ (first_word c.self.inside.generator ∙ ap (λ g. pcg_word g 0) c.self.view_is)

pub returns-clause-rest : goal.returns-clause-rest
returns-clause-rest c =
    ap (λ (p : ℕ × Lcg). Some (pcg_word p.1)) c.next_word.ensures
    ∙ (later_words c.self.inside.generator ∙ ap (λ g. Some (λ place. pcg_word g (suc place))) c.self.view_is)
