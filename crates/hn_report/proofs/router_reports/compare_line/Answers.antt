use Rattle.hn_base.proofs.Names.{append_assoc}
use Rattle.hn_report.proofs.Names.{string_bytes}
use Rattle.hn_report.proofs.TextReports.{compares}
use Rattle.hn_report.proofs.router_reports.compare_line.Goals as goal

pub returns : goal.returns
returns c =
    compares c.args.left.now c.args.right.now c.args.world.now.parts c.in_ok-agreement.agreement c.reach_the_same.result (string_bytes c.in_ok-format.field-0) c.requires
    c.in_ok-agreement.ensures.compared c.reach_the_same.ensures (simp append_assoc (rw (← c.in_ok-text.ensures) c.in_ok-format.ensures.ok))
