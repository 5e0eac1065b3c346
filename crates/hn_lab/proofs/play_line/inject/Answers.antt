use Rattle.hn_base.proofs.Names.{◌∙◌, ℕ, List, Some, None, inl, ap, subst}
use Rattle.hn_lab.proofs.Names.{WEvent, Refused, EventNotes, EventEnds, Leaves, OtherEnds, injection, ThenProcess, stage_of, note_lines, TellsLines}
use Rattle.hn_script.specs.declared.line.Line.TheVariants as line
use Rattle.hn_play.proofs.RunAnswers.{no_memory, answer_on}
use Rattle.hn_play.proofs.RunStops.{lines_left}
use Rattle.hn_lab.proofs.play_line.inject.Goals as goal

pub returns-in_err-notes : goal.returns-in_err-notes
returns-in_err-notes c route text =
    let p = stage_of c.args.playing.now route text in
    let a = stage_of c.noted.new.self route text in
    let ev = c.injection-event.result in
    let ends = OtherEnds (line.Inject c.args.name c.args.endpoint c.args.how c.args.bytes) in
    answer_on (EventEnds ev) ends p p a (λ code h. let so = subst (λ (e : WEvent). EventEnds e (Some (Refused code)) p a) c.injection-event.ensures h in (so.0, inl so.1))
    (λ notes. EventNotes ev notes None) (Leaves ends) c.in_err-notes.field-0.0 c.from_residual.result c.from_residual.ensures.1 (c.in_err-notes.ensures.ends route text)

pub returns-in_err-note_lines : goal.returns-in_err-note_lines
returns-in_err-note_lines c route text =
    no_memory _ (OtherEnds (line.Inject c.args.name c.args.endpoint c.args.how c.args.bytes)) c.from_residual-in_err-note_lines.result _ _ c.from_residual-in_err-note_lines.ensures.1

pub returns : goal.returns
returns c route text =
    let p = stage_of c.args.playing.now route text in
    let a = stage_of c.noted.new.self route text in
    let notes = c.in_ok-notes.notes in
    let event = injection c.args.name c.args.endpoint c.args.how c.args.bytes in
    let happened = subst (λ (e : WEvent). EventNotes e notes None p a) c.injection-event.ensures (c.in_ok-notes.ensures.ends route text) in
    let lines_are = c.in_ok-note_lines.ensures ∙ ap (note_lines (Some c.args.name)) c.as_slice.ensures in
    lines_left (EventNotes event notes) (OtherEnds (line.Inject c.args.name c.args.endpoint c.args.how c.args.bytes)) c.in_ok-note_lines.field-0 p a
    (λ stop at h. (notes, subst (λ (lines : List (List ℕ)). ThenProcess (EventNotes event notes) (TellsLines lines) stop p at) lines_are h)) happened
