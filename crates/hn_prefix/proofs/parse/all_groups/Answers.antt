use Rattle.hn_base.proofs.Names.{◌≡◌, ◌+◌, ◌-◌, ◌++◌, length, replicate, Some, ap, sym, ◌∙◌, arith, none-some, same_Some}
use Rattle.hn_prefix.proofs.ReadLemmas.{without_gap, with_gap}
use Rattle.hn_prefix.proofs.parse.all_groups.Goals as goal

pub returns-in_err-groups-clause-every : goal.returns-in_err-groups-clause-every
returns-in_err-groups-clause-every c =
    λ gs h.
    let all = without_gap c.args.text.now gs c.in_default.ensures.none h in
    absurd (none-some gs (c.in_err-groups.ensures.every gs all.0 (omega (arith, all.1))))

pub returns-then-len-eq8-clause-every : goal.returns-then-len-eq8-clause-every
returns-then-len-eq8-clause-every c =
    λ gs h.
    let all = without_gap c.args.text.now gs c.in_default.ensures.none h in
    c.in_ok-groups.ensures.every gs all.0 (omega (arith, all.1))

pub returns-else-len-eq8-clause-every : goal.returns-else-len-eq8-clause-every
returns-else-len-eq8-clause-every c =
    λ gs h.
    let all = without_gap c.args.text.now gs c.in_default.ensures.none h in
    let same = same_Some _ _ (c.in_ok-groups.ensures.every gs all.0 (omega (arith, all.1))) in
    absurd (c.if-len-eq8.false (c.len.ensures ∙ ap length same ∙ all.1))

pub returns-in_err-groups-2-clause-every : goal.returns-in_err-groups-2-clause-every
returns-in_err-groups-2-clause-every c =
    λ gs h.
    let parts = with_gap c.args.text.now c.in-Some.left.now c.in-Some.right.now gs c.in-Some.ensures.found h in
    absurd (none-some parts.0 (c.in_err-groups-2.ensures.every parts.0 parts.2 (omega (arith, parts.4))))

pub returns-in_err-right-clause-every : goal.returns-in_err-right-clause-every
returns-in_err-right-clause-every c =
    λ gs h.
    let parts = with_gap c.args.text.now c.in-Some.left.now c.in-Some.right.now gs c.in-Some.ensures.found h in
    absurd (none-some parts.1 (c.in_err-right.ensures.every parts.1 parts.3 (omega (arith, parts.4))))

pub returns-then-count-ge8-clause-every : goal.returns-then-count-ge8-clause-every
returns-then-count-ge8-clause-every c =
    λ gs h.
    let parts = with_gap c.args.text.now c.in-Some.left.now c.in-Some.right.now gs c.in-Some.ensures.found h in
    let left = same_Some _ _ (c.in_ok-groups-2.ensures.every parts.0 parts.2 (omega (arith, parts.4))) in
    let right = same_Some _ _ (c.in_ok-right.ensures.every parts.1 parts.3 (omega (arith, parts.4))) in
    absurd (omega (arith, parts.4, ap length left, ap length right))

pub returns-clause-every : goal.returns-clause-every
returns-clause-every c =
    λ gs h.
    let parts = with_gap c.args.text.now c.in-Some.left.now c.in-Some.right.now gs c.in-Some.ensures.found h in
    let left = same_Some _ _ (c.in_ok-groups-2.ensures.every parts.0 parts.2 (omega (arith, parts.4))) in
    let right = same_Some _ _ (c.in_ok-right.ensures.every parts.1 parts.3 (omega (arith, parts.4))) in
    let sum : c.len-2.result + c.len-3.result ≡ length parts.0 + length parts.1 = omega (arith, ap length left, ap length right) in
    let zeros = replicate (8 - (length parts.0 + length parts.1)) 0 in
    let front : c.push_zeros.new.self ≡ parts.0 ++ zeros = c.push_zeros.ensures ∙ ap (λ n. c.in_ok-groups-2.groups ++ replicate (8 - n) 0) sum ∙ ap (λ ns. ns ++ zeros) left in
    ap Some (c.push_all.ensures ∙ ap (λ ns. ns ++ c.as_slice.result.now) front ∙ ap (λ ns. (parts.0 ++ zeros) ++ ns) (c.as_slice.ensures ∙ right) ∙ sym parts.5)
