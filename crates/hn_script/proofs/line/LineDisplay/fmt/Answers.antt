-- The first word, and then the values after it, are the text of the line.
use Rattle.hn_base.proofs.Names.{◌++◌, refl, sym, ap, ◌∙◌, has_written_append}
use Rattle.hn_script.proofs.Names.{line_spelling, values_text}
use Rattle.std.proofs.Output.{has_written_of_eq}
use Rattle.hn_script.proofs.Printed.{line_is}
use Rattle.hn_script.proofs.line.LineDisplay.fmt.Goals as goal

pub returns-clause-writes : goal.returns-clause-writes
returns-clause-writes g c = λ plain ok.
    let word = c.in_ok-write_str.ensures.writes plain refl in
    let values = c.write_values.ensures word.plain ok in
    let values_so = values_text (line_spelling c.args.self.now).fields in
    has_written_of_eq _ _ _ _ _ (ap (λ first. first ++ values_so) c.word.ensures ∙ sym (line_is c.args.self.now)) (has_written_append _ _ _ _ _ _ word values)
