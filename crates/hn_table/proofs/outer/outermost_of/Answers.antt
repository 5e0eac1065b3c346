use Rattle.hn_base.proofs.Names.{IsPrefix}
use Rattle.hn_table.proofs.Outers.{shorter}
use Rattle.hn_table.proofs.outer.outermost_of.Goals as goal

pub loop-outer-init : goal.loop-outer-init
loop-outer-init c = (c.len.ensures.valid, c.requires, λ address inside. inside)

pub loop-outer-smaller : goal.loop-outer-smaller
loop-outer-smaller c =
    let p = c.loop-outer.outermost in
    let q = c.in-Some.outer in
    let found = c.in-Some.ensures.found in
    let valid_p = c.loop-outer.invariant.0 in
    let valid_q : IsPrefix q = c.len-in-Some.ensures.valid in
    shorter p q (c.within_is_not_shorter.ensures p q valid_p valid_q found.inside) ((c.prefixes_are_ranges.ensures.within q p valid_q valid_p).0 found.inside) found.different

pub loop-outer-preserved : goal.loop-outer-preserved
loop-outer-preserved c =
    let found = c.in-Some.ensures.found in
    (c.len-in-Some.ensures.valid, found.candidate, λ address inside. found.inside address (c.loop-outer.invariant.2 address inside))

pub returns-clause-outermost : goal.returns-clause-outermost
returns-clause-outermost c = record { candidate = c.loop-outer.invariant.1; not_inside = c.in_default.ensures.none }

pub returns-clause-inside : goal.returns-clause-inside
returns-clause-inside c = c.loop-outer.invariant.2
