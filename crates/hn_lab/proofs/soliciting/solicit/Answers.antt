use Rattle.hn_base.proofs.Names.{◌∙◌, List, inl, inr, refl, sym, ap}
use Rattle.hn_lab.proofs.Names.{Playing, Sending, stage_of, stream_words}
use Rattle.hn_lab.proofs.Solicitings.{is_solicited, solicit_left}
use Rattle.hn_lab.proofs.soliciting.solicit.Goals.{in-Some-place_of, in_default-place_of}
use Rattle.hn_lab.proofs.soliciting.solicit.Goals as goal

pub returns-in-Some : goal.returns-in-Some
returns-in-Some c route text = inl (sym c.unless_elects.ensures ∙ c.in-Some.is, refl)

pub returns : goal.returns
returns c route text =
    let p = stage_of c.args.playing.now route text in
    let a = stage_of c.match-place_of.playing route text in
    solicit_left c.args.name.now c.args.endpoint c.new.result p a (sym c.unless_elects.ensures ∙ c.in_default.is)
    (elim c.match-place_of.branch [
      | in-Some-place_of w ↦ (
        refl,
        inr (is_solicited c.args.name.now c.args.endpoint w.in-Some-place_of.place w.at.result.now w.moment.result w.next.result w.solicit.new.self (stream_words w.next.new.self) p a
            (record { is_first = sym c.place_of.ensures ∙ w.in-Some-place_of.is; is_there = w.at.ensures }) w.moment.ensures.moment w.next.ensures.word w.solicit.ensures w.next.ensures.rest
            (ap (λ (q : Playing). stage_of q route text) w.playing-is
            ∙ ap (λ (l : List Sending). record p { senders = l; words = stream_words w.next.new.self }) (w.set.ensures w.at.result.now w.at.ensures))),
      )
      | in_default-place_of w ↦ (refl, inl (sym c.place_of.ensures ∙ w.in_default-place_of.is, ap (λ (q : Playing). stage_of q route text) w.playing-is))
    ]) c.new.ensures
