use Rattle.hn_base.proofs.Names.{◌≡◌, ◌∙◌, ◌++◌, [], ap, sym, append_assoc, ◌+◌, take-append-drop}
use Rattle.hn_forms.proofs.Names.{append-nil}
use Rattle.std.proofs.lemmas.Result.{on_err_weaker}
use Rattle.hn_base.proofs.Results.{on_err}
use Rattle.hn_forms.proofs.Streams.{AppendsPart-more}
use Rattle.hn_forms.proofs.output.write_lines.Goals as goal

pub loop-end-preserved : goal.loop-end-preserved
loop-end-preserved g c =
    let before = c.loop-end.invariant in
    let line = c.split_at.result.0.now in
    let after = c.split_at.result.1.now in
    let split : c.loop-end.rest.now ≡ line ++ after =
    rw (c.split_at.ensures.front, c.split_at.ensures.back) (sym (take-append-drop (c.in-Some.end + 1) c.loop-end.rest.now))
    in
    let parts = ap (λ xs. before.written.0 ++ xs) split ∙ sym (append_assoc before.written.0 line after) in
    record {
      written = (before.written.0 ++ line, before.written.1 ∙ parts, c.pieces_append.ensures _ _ _ before.written.0 line before.written.2 c.in_ok-write_piece.ensures.ok);
      no_fault = c.in_ok-write_piece.ensures.caused.counts.stays (λ failed. cc) ∙ before.no_fault;
      reliable = λ never. (c.in_ok-write_piece.ensures.caused.reliable (before.reliable never)).0;
    }

pub returns-in_err-write_piece-clause-cut : goal.returns-in_err-write_piece-clause-cut
returns-in_err-write_piece-clause-cut g c =
    let before = c.loop-end.invariant.written in
    let line = c.split_at.result.0.now in
    let after = c.split_at.result.1.now in
    let split : c.loop-end.rest.now ≡ line ++ after =
    rw (c.split_at.ensures.front, c.split_at.ensures.back) (sym (take-append-drop (c.in-Some.end + 1) c.loop-end.rest.now))
    in
    on_err c.from_residual.result _ (AppendsPart-more c.pieces_append.ensures _ _ _ before.0 line after c.args.text.now before.2 c.in_err-write_piece.ensures.cut
    (before.1 ∙ ap (λ xs. before.0 ++ xs) split))

pub returns-clause-cut : goal.returns-clause-cut
returns-clause-cut g c =
    let before = c.loop-end.invariant.written in
    let rest = c.loop-end.rest.now in
    on_err_weaker c.write_piece-2.result
    (λ cut. AppendsPart-more c.pieces_append.ensures _ _ _ before.0 rest [] c.args.text.now before.2 cut (before.1 ∙ ap (λ xs. before.0 ++ xs) (sym (append-nil rest))))
    c.write_piece-2.ensures.cut
