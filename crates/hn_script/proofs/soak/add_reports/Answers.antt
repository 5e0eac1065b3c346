use Rattle.hn_base.proofs.Names.{on_ok_weaker}
use Rattle.hn_script.specs.Soak.{report_texts}
use Rattle.hn_script.proofs.SoakTexts.{first_name, compare_line, audit_line, used_line, prefixes_line, mail_line, show_line, adds_one, adds_then}
use Rattle.hn_script.proofs.soak.add_reports.Goals as goal

pub returns : goal.returns
unfolding report_texts
returns c =
    let first = first_name _ c.in_ok-first.ensures in
    let last = c.in_ok-last.ensures in
    let one = adds_one _ _ _ _ (compare_line _ _ _ first last) c.in_ok-push.ensures.ok in
    let two = adds_then _ _ _ _ _ _ one (audit_line _ _ first) c.in_ok-push-2.ensures.ok in
    let three = adds_then _ _ _ _ _ _ two (used_line _ _ first) c.in_ok-push-3.ensures.ok in
    let four = adds_then _ _ _ _ _ _ three (prefixes_line _ _ first) c.in_ok-push-4.ensures.ok in
    let five = adds_then _ _ _ _ _ _ four (prefixes_line _ _ last) c.in_ok-push-5.ensures.ok in
    let six = adds_then _ _ _ _ _ _ five mail_line c.in_ok-push-6.ensures.ok in
    let seven = adds_then _ _ _ _ _ _ six (show_line _ _ first) c.in_ok-push-7.ensures.ok in
    on_ok_weaker c.push-8.result (λ added. adds_then _ _ _ _ _ _ seven (show_line _ _ last) added) c.push-8.ensures.ok
