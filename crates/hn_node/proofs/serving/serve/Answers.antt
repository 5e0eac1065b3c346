use Rattle.hn_base.proofs.Names.{◌≡◌, ◌∙◌, ◌++◌, List, Err, sym, ap, subst, count_by, Took}
use Rattle.hn_node.proofs.Names.{Logged, is_tick, logged_words}
use Rattle.hn_node.proofs.Ticked.{turns_tick}
use Rattle.hn_node.proofs.serving.serve.Goals as goal

pub returns-in-Ok-clause-ticks : goal.returns-in-Ok-clause-ticks
returns-in-Ok-clause-ticks g c = λ ended.
    let whole = c.in-Ok.ensures.ok in
    let log : c.served.result.log ≡ whole.0 = c.served.ensures.log ∙ whole.2.log ∙ ap (λ (l : List Logged). l ++ whole.0) c.new.ensures in
    ap (λ (l : List Logged). count_by is_tick l) log ∙ turns_tick _ _ _ _ _ _ _ whole.1

pub returns-in-Ok-clause-words : goal.returns-in-Ok-clause-words
returns-in-Ok-clause-words g c =
    let whole = c.in-Ok.ensures.ok in
    let log : c.served.result.log ≡ whole.0 = c.served.ensures.log ∙ whole.2.log ∙ ap (λ (l : List Logged). l ++ whole.0) c.new.ensures in
    subst (λ (l : List Logged). Took (g.D.Draw.words c.args.draw.now) (logged_words l) (g.D.Draw.words c.turns.new.draw)) (sym log) whole.2.words

pub returns-in-Err-Failed-clause-words : goal.returns-in-Err-Failed-clause-words
returns-in-Err-Failed-clause-words g c =
    let cut = c.in-Err-Failed.ensures.cut (ap Err c.in-Err-Failed.field-0-is) in
    let log : c.served-in-Err-Failed.result.log ≡ cut.0 = c.served-in-Err-Failed.ensures.log ∙ cut.3.log ∙ ap (λ (l : List Logged). l ++ cut.0) c.new.ensures in
    subst (λ (l : List Logged). Took (g.D.Draw.words c.args.draw.now) (logged_words l) (g.D.Draw.words c.turns.new.draw)) (sym log) cut.3.words
