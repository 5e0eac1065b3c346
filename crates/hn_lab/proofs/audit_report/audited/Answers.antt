use Rattle.hn_base.proofs.Names.{rules, ◌≡◌, IsTrue, true, false, inl, inr, refl}
use Rattle.hn_lab.proofs.Names.{IsQuietByRules, IsSettledByRules}
use Rattle.hn_lab.proofs.audit_report.audited.Goals as goal

pub returns-then-not-branch-2 : goal.returns-then-not-branch-2
returns-then-not-branch-2 c =
    let w = c.args.world.now.parts in
    let m = c.args.member.now in
    let yes : c.in_ok-settled.field-0 ≡ true = search rules in
    let no : c.in_ok-quiet.field-0 ≡ false = search rules in
    let settled : IsSettledByRules w m = (c.in_ok-settled.ensures m c.requires.named).0 yes in
    let busy : ¬ IsQuietByRules w m = λ quiet. let rests : IsTrue c.in_ok-quiet.field-0 = (c.in_ok-quiet.ensures.quiet m c.requires.named).1 quiet in absurd cc in
    inr (inl (settled, busy, refl))
