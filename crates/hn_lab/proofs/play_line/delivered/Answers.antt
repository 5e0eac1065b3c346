use Rattle.hn_base.proofs.Names.{rules, ◌≡◌, ◌∙◌, ℕ, List, [], Option, inl, refl, ap, subst, option_map}
use Rattle.hn_lab.proofs.Names.{Name, NoMemory, Cut, DeliveryEnds, OtherEnds, receiver, ThenProcess, stage_of, note_lines, TellsLines}
use Rattle.hn_script.specs.declared.line.Line.TheVariants as line
use Rattle.hn_play.proofs.RunDeliveries.{delivered_left, receiver_is}
use Rattle.hn_play.proofs.RunStops.{leaving_on, starved, stopped_within, lines_left}
use Rattle.hn_play.specs.Delivery.{Delivers}
use Rattle.hn_world.specs.Refusal.{copy_at}
use Rattle.hn_world.specs.declared.copies.CopyInfo.{CopyInfo}
use Rattle.hn_lab.proofs.play_line.delivered.Goals as goal

pub returns-in_err-notes-clause-ends : goal.returns-in_err-notes-clause-ends
returns-in_err-notes-clause-ends g c text =
    let p = stage_of c.args.playing.now (g.C.Carrier.route c.args.carrier.now c.args.outside.now) text in
    let a = stage_of c.deliver.new.playing (g.C.Carrier.route c.args.carrier.now c.deliver.new.outside) text in
    let why = c.in_err-notes.field-0.0 in
    let ends = OtherEnds (line.Deliver c.args.copy) in
    leaving_on ends why c.from_residual.result p a c.from_residual.ensures.1 (stopped_within (Delivers c.args.copy) ends why p p a (λ at h. (h.0, inl h.1)) refl (c.in_err-notes.ensures.ends text))

pub returns-in_err-note_lines-clause-ends : goal.returns-in_err-note_lines-clause-ends
returns-in_err-note_lines-clause-ends g c text =
    let p = stage_of c.args.playing.now (g.C.Carrier.route c.args.carrier.now c.args.outside.now) text in
    let a = stage_of c.deliver.new.playing (g.C.Carrier.route c.args.carrier.now c.deliver.new.outside) text in
    let ends = OtherEnds (line.Deliver c.args.copy) in
    leaving_on ends (Cut NoMemory) c.from_residual-in_err-note_lines.result p a c.from_residual-in_err-note_lines.ensures.1 (starved ends p a ([], inl (inl refl))
    (delivered_left c.args.copy c.in_ok-notes.notes p a (c.in_ok-notes.ensures.ends text)))

pub returns-clause-ends : goal.returns-clause-ends
returns-clause-ends g c text =
    let p = stage_of c.args.playing.now (g.C.Carrier.route c.args.carrier.now c.args.outside.now) text in
    let a = stage_of c.deliver.new.playing (g.C.Carrier.route c.args.carrier.now c.deliver.new.outside) text in
    let copy = c.args.copy in
    let notes = c.in_ok-notes.notes in
    let name_is : c.map-name.result ≡ option_map (λ (i : CopyInfo). i.to) c.copy_info.result = search rules in
    let same : c.map-name.result ≡ receiver p.world copy = name_is ∙ ap (option_map (λ (i : CopyInfo). i.to)) c.copy_info.ensures.info ∙ receiver_is p.world (copy_at p.world copy) in
    let lines_are = c.in_ok-note_lines.ensures ∙ ap (note_lines c.map-name.result) c.as_slice.ensures ∙ ap (λ (name : Option Name). note_lines name notes) same in
    lines_left (DeliveryEnds copy notes) (OtherEnds (line.Deliver copy)) c.in_ok-note_lines.field-0 p a
    (λ stop at h. (notes, subst (λ (lines : List (List ℕ)). ThenProcess (DeliveryEnds copy notes) (TellsLines lines) stop p at) lines_are h)) (c.in_ok-notes.ensures.ends text)
