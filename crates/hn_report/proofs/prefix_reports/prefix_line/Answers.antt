use Rattle.hn_base.proofs.Names.{◌≡◌, append_assoc, IfOk-weaker}
use Rattle.hn_report.proofs.Names.{string_bytes}
use Rattle.hn_report.proofs.PrefixTexts.{assigned_text, assigned_so}
use Rattle.hn_report.proofs.prefix_reports.prefix_line.Goals as goal

pub returns : goal.returns
returns c =
    let name = c.args.name.now in
    let published = string_bytes c.in_ok-published.published in
    let text = assigned_text name c.args.c.now.endpoint.0 c.text-delegated.result c.text-prefix.result published c.yes_no-applied.result.now in
    IfOk-weaker c.format.result (λ line. string_bytes line ≡ text) _
    (λ line is. assigned_so name c.args.c.now c.text-delegated.result c.text-prefix.result published c.yes_no-applied.result.now
    (string_bytes line) c.text-delegated.ensures c.text-prefix.ensures c.in_ok-published.ensures c.yes_no-applied.ensures is)
    (simp append_assoc (simp append_assoc at c.format.ensures.ok))
