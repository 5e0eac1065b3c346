use Rattle.hn_base.proofs.Names.{sym, subst, string_bytes, IfOk-weaker}
use Rattle.hn_calm.specs.Home.{FindsUncalm}
use Rattle.hn_calm.proofs.CalmTexts.{calm_said_of, restless_said_of, uncalm_said_of, no_rest}
use Rattle.hn_calm.proofs.calm.calm_text.Goals as goal

pub returns-then-not-branch : goal.returns-then-not-branch
returns-then-not-branch c =
    let r = c.in-Some.r.now in
    let there = sym (rw c.in-Some.is at c.member.ensures) in
    let law = c.in_ok-rests.ensures r there in
    IfOk-weaker c.restless_so.result _ _
    (λ text told. restless_said_of c.args.name.now c.args.world.now.parts r there (string_bytes text) (λ rests. no_rest c.in_ok-rests.field-0 c.if-not-branch.true (law.1 rests)) told.0 told.1 told.2)
    c.restless_so.ensures

pub returns-in-Some-2 : goal.returns-in-Some-2
returns-in-Some-2 c =
    let r = c.in-Some.r.now in
    let w = c.args.world.now.parts in
    let there = sym (rw c.in-Some.is at c.member.ensures) in
    let law = c.in_ok-rests.ensures r there in
    IfOk-weaker c.uncalm_so.result _ _
    (λ text told. uncalm_said_of c.args.name.now w r there (string_bytes text) (law.0 c.if-not-branch.false) c.in-Some-2.missing
    (subst (FindsUncalm w r) c.in-Some-2.is c.in_ok-missing.ensures) told)
    c.uncalm_so.ensures

pub returns-in_ok-end-in-None : goal.returns-in_ok-end-in-None
returns-in_ok-end-in-None c =
    let r = c.in-Some.r.now in
    let w = c.args.world.now.parts in
    let there = sym (rw c.in-Some.is at c.member.ensures) in
    let law = c.in_ok-rests.ensures r there in
    IfOk-weaker c.calm_so.result _ _
    (λ text told. calm_said_of c.args.name.now w r there (string_bytes text) c.requires (law.0 c.if-not-branch.false)
    (subst (FindsUncalm w r) c.in-None.is c.in_ok-missing.ensures) c.in_ok-end-in-None.end c.in_ok-end-in-None.ensures told)
    c.calm_so.ensures
