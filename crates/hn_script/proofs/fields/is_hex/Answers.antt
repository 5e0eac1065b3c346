-- Digits of an even count are what decodes.
use Rattle.hn_base.proofs.Names.{arith, nat_tests}
use Rattle.hn_script.proofs.HexWords.{even_digits, hex_cases}
use Rattle.hn_script.proofs.fields.is_hex.Goals as goal

pub returns-then-word-ne0 : goal.returns-then-word-ne0
returns-then-word-ne0 c = λ bytes h. let even = even_digits c.args.word.now bytes h in grind (arith, nat_tests)

pub returns : goal.returns
returns c = hex_cases c.has_hex_digits.result c.args.word.now c.if-word-ne0.false c.has_hex_digits.ensures
