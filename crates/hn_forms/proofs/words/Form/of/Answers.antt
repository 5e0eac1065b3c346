use Rattle.hn_base.proofs.Names.{inl, inr, arith, ltb-true, ltb-false, length-map}
use Rattle.hn_forms.proofs.Names.{string_bytes}
use Rattle.hn_forms.proofs.Forms.{word_at, no_plain_form, no_based_form, no_counted_form, no_other_form}
use Rattle.hn_forms.proofs.words.Form.of.Goals as goal
use Rattle.hn_forms.proofs.words.Form.of.Goals.{in_default-via-then-words-lt2, in_default-via-else-words-lt2+else-words-lt3+else-words-lt4+else-words-lt5}

pub returns-in-len2-clause-none : goal.returns-in-len2-clause-none
returns-in-len2-clause-none c =
    let words = c.args.words.now in
    let long = length-map words string_bytes in
    no_plain_form c.named.result _ _ (omega arith) (word_at string_bytes words 1 _ _ (omega arith) c.form-item.is c.as_str.ensures.value) c.named.ensures.none

pub returns-in-len3-clause-none : goal.returns-in-len3-clause-none
returns-in-len3-clause-none c =
    let words = c.args.words.now in
    let long = length-map words string_bytes in
    no_based_form c.based.result _ _ _ (omega arith)
    (word_at string_bytes words 1 _ _ (omega arith) c.form-item-then-words-lt4.is c.as_str-in-len3.ensures.value)
    (word_at string_bytes words 2 _ _ (omega arith) c.base-item.is c.as_str-in-len3-2.ensures.value)
    c.based.ensures.none

pub returns-in-len4-clause-none : goal.returns-in-len4-clause-none
returns-in-len4-clause-none c =
    let words = c.args.words.now in
    let long = length-map words string_bytes in
    no_counted_form c.counted.result _ _ _ _ (omega arith)
    (word_at string_bytes words 1 _ _ (omega arith) c.form-item-then-words-lt5.is c.as_str-in-len4.ensures.value)
    (word_at string_bytes words 2 _ _ (omega arith) c.count-item.is c.as_str-in-len4-2.ensures.value)
    (word_at string_bytes words 3 _ _ (omega arith) c.seed-item.is c.as_str-in-len4-3.ensures.value)
    c.counted.ensures.none

pub returns-in_default-clause-none : goal.returns-in_default-clause-none
returns-in_default-clause-none c =
    let words = c.args.words.now in
    let long = length-map words string_bytes in
    elim c.in_default.branch [
      | in_default-via-then-words-lt2 w ↦ no_other_form c.of_node.result _ (inl (omega (arith, ltb-true))) c.of_node.ensures.none
      | in_default-via-else-words-lt2+else-words-lt3+else-words-lt4+else-words-lt5 w ↦ no_other_form c.of_node.result _ (inr (omega (arith, ltb-false))) c.of_node.ensures.none
    ]
