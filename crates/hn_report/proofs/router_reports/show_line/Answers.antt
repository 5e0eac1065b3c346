use Rattle.hn_base.proofs.Names.{◌≡◌, append_assoc, length, IfOk-weaker}
use Rattle.hn_report.proofs.Names.{string_bytes}
use Rattle.hn_report.proofs.TextReports.{shown, shows}
use Rattle.hn_report.proofs.router_reports.show_line.Goals as goal

pub returns : goal.returns
returns c =
    let name = c.args.name.now in
    let text = shown name c.id-id.result c.number-number.result (length c.reach.result.now) c.len-held.result c.yes_no-running.result.now in
    IfOk-weaker c.format.result (λ line. string_bytes line ≡ text) _
    (λ line is. shows name c.args.member.now c.id-id.result c.number-number.result c.reach.result.now c.table.result.now c.len-held.result c.yes_no-running.result.now
    (string_bytes line) c.id-id.ensures c.number-number.ensures c.reach.ensures c.table.ensures c.len-held.ensures c.yes_no-running.ensures is)
    (simp append_assoc (simp append_assoc at c.format.ensures.ok))
