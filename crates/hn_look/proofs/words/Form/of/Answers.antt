use Rattle.hn_base.proofs.Names.{arith, length-map}
use Rattle.hn_look.proofs.Names.{string_bytes}
use Rattle.hn_look.proofs.Forms.{word_at, no_plain_form, no_named_form}
use Rattle.hn_look.proofs.words.Form.of.Goals as goal

pub returns-in-len2-clause-none : goal.returns-in-len2-clause-none
returns-in-len2-clause-none c =
    let words = c.args.words.now in
    let long = length-map words string_bytes in
    no_plain_form c.plain.result _ _ (omega arith) (word_at string_bytes words 1 _ _ (omega arith) c.form-item.is c.as_str.ensures.value) c.plain.ensures.none

pub returns-in-len3-clause-none : goal.returns-in-len3-clause-none
returns-in-len3-clause-none c =
    let words = c.args.words.now in
    let long = length-map words string_bytes in
    no_named_form c.named.result _ _ _ (omega arith) (word_at string_bytes words 1 _ _ (omega arith) c.form-item-then-words-lt4.is c.as_str-in-len3.ensures.value)
    (word_at string_bytes words 2 _ _ (omega arith) c.name-item.is c.as_str-in-len3-2.ensures.value) c.named.ensures.none
