use Rattle.hn_base.proofs.Names.{◌≡◌, List, sym, subst, IfOk-weaker}
use Rattle.hn_deleg.specs.Used.{AreUsable}
use Rattle.hn_deleg.specs.declared.delegated.Delegated.{Delegated}
use Rattle.hn_report.specs.PrefixReports.{used_lines, AreUsedLines}
use Rattle.hn_rules.specs.Seen.{seen_by}
use Rattle.hn_report.proofs.prefix_reports.used_lines.Goals as goal

pub returns : goal.returns
returns c =
    let name = c.args.name.now in
    let m = c.args.member.now in
    let used = c.as_slice.result.now in
    let usable = subst (λ (l : List Delegated). AreUsable (seen_by m.router) l) (sym c.as_slice.ensures) c.in_ok-used.ensures in
    IfOk-weaker c.lines_on.result (λ lines. lines ≡ used_lines name used) (AreUsedLines name m)
    (λ lines is. record { used = used; are_usable = usable; lines_are = is }) c.lines_on.ensures
