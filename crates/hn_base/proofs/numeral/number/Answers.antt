use Rattle.hn_base.proofs.Names.{◌≡◌, ◌<◌, ◌≤◌, ◌+◌, ◌*◌, ◌^◌, length, take, get_or, ap, sym, subst, ◌∙◌, arith, digit_value, length-take}
use Rattle.std.proofs.lemmas.Int.Digits.{digits_more, digits_value_more}
use Rattle.hn_base.proofs.NumeralLemmas.{step_fits, not_numeral, IfNone_since}
use Rattle.hn_base.proofs.numeral.number.Goals as goal

pub overflow_mul-value : goal.overflow_mul-value
overflow_mul-value c =
    let ds = take c.loop-byte.byte-index c.args.text.now in
    let short : length ds ≤ 31 = omega (arith, length-take c.loop-byte.byte-index c.args.text.now) in
    let base : c.from-base.result ≡ c.args.radix = c.from-base.ensures in
    let fits : c.loop-byte.value * c.args.radix + 0 < 2 ^ 128 =
    step_fits c.args.radix ds c.loop-byte.value 0 (omega arith) short c.loop-byte.invariant.digits c.loop-byte.invariant.value (omega arith) in
    rw base (omega arith)

pub overflow_add-value : goal.overflow_add-value
overflow_add-value c =
    let ds = take c.loop-byte.byte-index c.args.text.now in
    let short : length ds ≤ 31 = omega (arith, length-take c.loop-byte.byte-index c.args.text.now) in
    let base : c.from-base.result ≡ c.args.radix = c.from-base.ensures in
    let digit : c.from-in-loop-byte.result < c.args.radix = omega (arith, c.in_ok-digit.ensures.value) in
    let fits : c.loop-byte.value * c.args.radix + c.from-in-loop-byte.result < 2 ^ 128 =
    step_fits c.args.radix ds c.loop-byte.value c.from-in-loop-byte.result (omega arith) short c.loop-byte.invariant.digits c.loop-byte.invariant.value digit in
    rw base (omega arith)

pub returns-in_err-digit-clause-none : goal.returns-in_err-digit-clause-none
returns-in_err-digit-clause-none c =
    IfNone_since c.from_residual.result _ (not_numeral c.args.radix c.args.most c.args.text.now c.loop-byte.byte-index c.loop-byte-test.true
    (λ lt. c.in_err-digit.ensures.value (rw c.from.ensures lt)))

pub loop-byte-preserved : goal.loop-byte-preserved
loop-byte-preserved c =
    let i = c.loop-byte.byte-index in
    let text = c.args.text.now in
    let radix = c.args.radix in
    let is : c.from-in-loop-byte.result ≡ digit_value (get_or text i 0) = c.from-in-loop-byte.ensures ∙ c.in_ok-digit.ensures.value.1 ∙ ap digit_value c.from.ensures in
    let lt : digit_value (get_or text i 0) < radix = subst (λ b. digit_value b < radix) c.from.ensures c.in_ok-digit.ensures.value.0 in
    record {
      digits = digits_more radix text i c.loop-byte-test.true c.loop-byte.invariant.digits lt;
      value = ap (λ b. c.loop-byte.value * b + c.from-in-loop-byte.result) c.from-base.ensures ∙ ap (λ d. c.loop-byte.value * radix + d) is
          ∙ ap (λ v. v * radix + digit_value (get_or text i 0)) c.loop-byte.invariant.value ∙ sym (digits_value_more radix text i c.loop-byte-test.true);
    }
