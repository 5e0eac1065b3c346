use Rattle.hn_base.proofs.Names.{◌≡◌, ◌∷◌, [], append_assoc, IfOk-weaker}
use Rattle.hn_report.proofs.Names.{string_bytes}
use Rattle.hn_report.specs.UlaLines.{ula_line}
use Rattle.hn_report.proofs.ula_lines.ula_line.Goals as goal

pub returns : goal.returns
returns c =
    let line_is : string_bytes c.in_ok-format.field-0 ≡ ula_line c.args.name.now c.args.decided.now = simp append_assoc (rw (← c.in_ok-text.ensures) c.in_ok-format.ensures.ok) in
    IfOk-weaker c.of.result (λ lines. lines ≡ string_bytes c.in_ok-format.field-0 ∷ []) _ (λ lines is. rw (← line_is) is) c.of.ensures
