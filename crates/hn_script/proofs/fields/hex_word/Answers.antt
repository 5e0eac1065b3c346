use Rattle.hn_base.proofs.Names.{◌∙◌, length, sym, eqb-true}
use Rattle.hn_script.proofs.HexWords.{no_empty_hex_word}
use Rattle.hn_script.proofs.fields.hex_word.Goals as goal

pub returns-then-is_empty-clause-none : goal.returns-then-is_empty-clause-none
returns-then-is_empty-clause-none c = λ found.
    no_empty_hex_word found c.args.word.now (eqb-true (length c.args.word.now) 0 (sym c.is_empty.ensures ∙ c.if-is_empty.true))
