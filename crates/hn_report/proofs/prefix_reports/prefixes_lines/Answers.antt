use Rattle.hn_base.proofs.Names.{◌≡◌, ◌∙◌, List, refl, ap, append_assoc}
use Rattle.hn_report.proofs.Names.{string_bytes, Assigned}
use Rattle.hn_pair.specs.declared.held.Held.{Held}
use Rattle.hn_report.proofs.PrefixTexts.{assigned_head, assigned_lines, all_assigned}
use Rattle.hn_report.proofs.prefix_reports.prefixes_lines.Goals as goal

pub returns : goal.returns
returns c =
    let name = c.args.name.now in
    let assigned = c.as_slice-assigned.result.now in
    let assigned_is = c.as_slice-assigned.ensures.value ∙ ap (λ (h : Held). h.assigned) c.held.ensures in
    let head : string_bytes c.in_ok-format.field-0 ≡ assigned_head name assigned = simp append_assoc c.in_ok-format.ensures.ok in
    all_assigned name assigned (string_bytes c.in_ok-format.field-0) c.new-lines.result c.push.new.self c.add_prefix_lines.new.lines
    c.add_prefix_lines.new.lines c.new-lines.ensures c.in_ok-push.ensures c.in_ok-add_prefix_lines.ensures refl head
    ∙ ap (λ (a : List Assigned). assigned_lines name a) assigned_is
