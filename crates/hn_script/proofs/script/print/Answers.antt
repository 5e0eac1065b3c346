-- Each line is added with its LF, until all are.
use Rattle.hn_base.proofs.Names.{ℕ, List, ◌∷◌, [], ◌++◌, map, sym, ap, ◌∙◌, arith, append_assoc, take_all}
use Rattle.hn_script.proofs.Names.{line_text, ended, first_line, Line}
use Rattle.hn_script.proofs.Printed.{printed_more}
use Rattle.hn_script.proofs.script.print.Goals as goal

pub loop-line-preserved : goal.loop-line-preserved
loop-line-preserved c =
    let first = first_line c.args.script.now.version in
    let line = c.loop-line-item.result in
    let text = line_text line.1 in
    c.in_ok-write.ensures.bytes ∙ ap (λ (t : List ℕ). t ++ (text ++ 10 ∷ [])) c.loop-line.invariant
    ∙ sym (append_assoc _ text (10 ∷ []))
    ∙ sym (printed_more first c.as_slice-line-items.result.now c.loop-line.line-index line (omega arith) c.loop-line-item.is)

pub returns : goal.returns
returns c =
    let first = first_line c.args.script.now.version in
    let all = take_all c.loop-line.line-index c.as_slice-line-items.result.now (omega arith) ∙ c.as_slice-line-items.ensures in
    c.from.ensures ∙ ap (λ v. v.items) c.into_bytes.ensures.value ∙ c.loop-line.invariant
    ∙ ap (λ (lines : List (ℕ × Line)). ended (first ∷ map (λ (l : ℕ × Line). line_text l.1) lines)) all
