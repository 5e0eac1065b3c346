use Rattle.hn_base.proofs.Names.{◌+◌, ◌≤◌, ◌++◌, ◌∷◌, [], Some, length, ap, sym, ◌∙◌, append_assoc, length-append, arith}
use Rattle.hn_base.proofs.NumeralLemmas.{number_below}
use Rattle.hn_prefix.proofs.ReadLemmas.{none_alone, one_alone, none_first, one_first}
use Rattle.hn_prefix.proofs.parse.+read_groups.Goals as goal

pub returns-in_err-number-clause-every : goal.returns-in_err-number-clause-every
returns-in_err-number-clause-every t c =
    λ gs h some _. absurd (none_alone c.args.text.now gs c.in_default.ensures.none c.in_err-number.ensures.none h some)

pub returns-in_default-clause-every : goal.returns-in_default-clause-every
returns-in_default-clause-every t c =
    λ gs h some _.
    let one = one_alone c.args.text.now gs c.in_ok-number.field-0 c.in_default.ensures.none c.in_ok-number.ensures.found h some in
    ap Some (c.push.ensures ∙ ap (λ ns. c.args.groups ++ ns) (sym one))

pub returns-in_err-number-2-clause-every : goal.returns-in_err-number-2-clause-every
returns-in_err-number-2-clause-every t c =
    λ gs h some _. absurd (none_first c.args.text.now c.in-Some.digits.now c.in-Some.rest.now gs c.in-Some.ensures.found c.in_err-number-2.ensures.none h some)

pub returns-clause-every : goal.returns-clause-every
returns-clause-every t c =
    λ gs h some room.
    let before = c.args.groups in
    let n = c.in_ok-number-2.field-0 in
    let one = one_first c.args.text.now c.in-Some.digits.now c.in-Some.rest.now gs n c.in-Some.ensures.found c.in_ok-number-2.ensures.found h some in
    let fits : length c.push-2.new.self + length one.0 ≤ 8 = omega (arith, ap length c.push-2.ensures, length-append before (n ∷ []), ap length one.1) in
    let later = c.read_groups.ensures.every one.0 one.2 one.3 fits in
    later ∙ ap Some (ap (λ ns. ns ++ one.0) c.push-2.ensures ∙ append_assoc before (n ∷ []) one.0 ∙ ap (λ ns. before ++ ns) (sym one.1))

pub overflow_cast-branch : goal.overflow_cast-branch
overflow_cast-branch t c = omega (arith, number_below 16 4 c.args.text.now c.in_ok-number.field-0 4 (omega arith) (omega arith) c.in_ok-number.ensures.found)

pub overflow_cast-branch-2 : goal.overflow_cast-branch-2
overflow_cast-branch-2 t c = omega (arith, number_below 16 4 c.in-Some.digits.now c.in_ok-number-2.field-0 4 (omega arith) (omega arith) c.in_ok-number-2.ensures.found)
