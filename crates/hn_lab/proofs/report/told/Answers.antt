use Rattle.hn_base.proofs.Names.{sym, subst, IfOk, IfOk-weaker}
use Rattle.hn_lab.proofs.Names.{Report, Tells, IsAbout, IsReport}
use Rattle.hn_lab.proofs.report.told.Goals as goal

pub returns-in-Some : goal.returns-in-Some
returns-in-Some c =
    let w = c.args.world.now.parts in
    let name = c.in-Router.name in
    let m = c.in-Some.member.now in
    subst (λ (r : Report). IfOk c.told_about.result (IsReport r w)) (sym c.in-Router.is)
    (IfOk-weaker c.told_about.result (IsAbout c.in-Router.about name w m) (Tells name w (IsAbout c.in-Router.about name w)) (λ lines are. (m, sym c.in-Some.ensures, are)) c.told_about.ensures)
