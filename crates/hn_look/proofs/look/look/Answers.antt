use Rattle.hn_base.proofs.Names.{List, ℕ, Err, inl, inr, subst, Appends, err_from_is_err_and}
use Rattle.hn_look.proofs.Names.{world_parts, AppendsPart, Sees, MayStarve}
use Rattle.hn_look.proofs.Looks.{whole_look, cut_look, cut_line, written_line}
use Rattle.hn_look.proofs.Refusals.{line_found}
use Rattle.hn_look.proofs.look.look.Goals as goal

pub returns-in_err-status-clause-looked : goal.returns-in_err-status-clause-looked
returns-in_err-status-clause-looked g c =
    let fault = c.in_err-status.field-0.0 in
    let starving = MayStarve c.args.form.now in
    let sees = Sees c.args.form.now in
    let world = (world_parts c.args.played.now.world) in
    let transcript = c.args.transcript.now in
    let status = c.args.played.now.status in
    let passed = err_from_is_err_and c.from_residual.result c.from_residual.ensures.1 in
    rw (passed.1, passed.2) (elim c.requires.ended [
      | inl zero ↦ whole_look starving sees world transcript status zero (Err fault) _ _ c.in_err-status.ensures.looked
      | inr two ↦ let ends = c.requires.refused two in cut_look starving sees world transcript c.pieces_append.ensures status two ends.0 ends.1 fault _ _ c.in_err-status.ensures.looked
    ])

pub returns-in_err-write_piece-clause-looked : goal.returns-in_err-write_piece-clause-looked
returns-in_err-write_piece-clause-looked g c =
    let sink = g.K.Sink in
    let fault = c.in_err-write_piece.field-0.0 in
    let two = c.if-played-ne-REFUSED.false in
    let ends = c.requires.refused two in
    let found = line_found c.args.transcript.now ends.0 _ ends.1 c.refusal_of.ensures in
    let part = subst (AppendsPart (sink.held c.see_any.new.out) (sink.held c.write_piece.new.out)) found c.in_err-write_piece.ensures.cut in
    let passed = err_from_is_err_and c.from_residual-in_err-write_piece.result c.from_residual-in_err-write_piece.ensures.1 in
    rw (passed.1, passed.2) (cut_line (MayStarve c.args.form.now) (Sees c.args.form.now) (world_parts c.args.played.now.world) c.args.transcript.now c.pieces_append.ensures
    c.args.played.now.status two ends.0 ends.1 c.in_ok-status.status _ _ _ c.in_ok-status.ensures.looked fault part)

pub returns-clause-looked : goal.returns-clause-looked
returns-clause-looked g c =
    let sink = g.K.Sink in
    let two = c.if-played-ne-REFUSED.false in
    let ends = c.requires.refused two in
    let found = line_found c.args.transcript.now ends.0 _ ends.1 c.refusal_of.ensures in
    let wrote = subst (λ (xs : List ℕ). Appends (sink.held c.see_any.new.out) (sink.held c.write_piece.new.out) xs) found c.in_ok-write_piece.ensures.ok in
    written_line (MayStarve c.args.form.now) (Sees c.args.form.now) (world_parts c.args.played.now.world) c.args.transcript.now c.pieces_append.ensures
    c.args.played.now.status two ends.0 ends.1 c.in_ok-status.status _ _ _
    c.in_ok-status.ensures.looked wrote
