use Rattle.hn_base.proofs.Names.{◌∙◌, ◌++◌, ℕ, List, append_assoc, subst, Appends, err_from_is_err_and}
use Rattle.hn_forms.proofs.Names.{NoMemory, tlvs_line}
use Rattle.hn_forms.proofs.Streams.{AppendsFront-none, part_is_cut}
use Rattle.hn_forms.proofs.Cut.{cut_in_first_line, cut_among_lines}
use Rattle.hn_forms.proofs.decode_form.write_tlvs.Goals as goal

pub loop-at-preserved : goal.loop-at-preserved
loop-at-preserved g c =
    let before = c.loop-at.invariant in
    let front = tlvs_line c.args.count in
    let lines = before.written.0 in
    let next = c.in_ok-at.ensures.written in
    let sink = g.K.Sink in
    let Grew : List ℕ → Type 0 = λ text. Appends (sink.held c.args.out.now) (sink.held c.write_next.new.out) text in
    let more : Grew (front ++ lines ++ next.0) = c.pieces_append.ensures _ _ _ (front ++ lines) next.0 before.written.2 next.2 in
    record {
      written = (lines ++ next.0, next.1 lines before.written.1, subst Grew (append_assoc front lines next.0) more);
      no_fault = c.in_ok-at.ensures.caused.counts.stays (λ failed. cc) ∙ before.no_fault;
      reliable = λ never. (c.in_ok-at.ensures.caused.reliable (before.reliable never)).0;
    }

pub returns-in_default-clause-cut : goal.returns-in_default-clause-cut
returns-in_default-clause-cut g c =
    let octets = c.args.octets.now in
    let begins = c.lines_make_the_text.ensures.begins octets (c.requires.0, c.requires.1) in
    cut_in_first_line c.pieces_append.ensures c.lines_go_on.ensures octets c.args.count c.requires begins NoMemory _ _ (AppendsFront-none (g.K.Sink.held c.args.out.now) (tlvs_line c.args.count))

pub returns-in_err-write_piece-clause-cut : goal.returns-in_err-write_piece-clause-cut
returns-in_err-write_piece-clause-cut g c =
    let octets = c.args.octets.now in
    let begins = c.lines_make_the_text.ensures.begins octets (c.requires.0, c.requires.1) in
    let fault = c.in_err-write_piece.field-0.0 in
    let first = c.as_bytes.ensures.value ∙ c.in-Ok.ensures in
    let cut = part_is_cut fault _ _ (tlvs_line c.args.count) (rw first at c.in_err-write_piece.ensures.cut) in
    let passed = err_from_is_err_and c.from_residual.result c.from_residual.ensures.1 in
    rw (passed.1, passed.2) (cut_in_first_line c.pieces_append.ensures c.lines_go_on.ensures octets c.args.count c.requires begins fault _ _ cut)

pub returns-in_err-at-clause-cut : goal.returns-in_err-at-clause-cut
returns-in_err-at-clause-cut g c =
    let before = c.loop-at.invariant.written in
    let fault = c.in_err-at.field-0.0 in
    let passed = err_from_is_err_and c.from_residual-in_err-at.result c.from_residual-in_err-at.ensures.1 in
    rw (passed.1, passed.2) (cut_among_lines c.pieces_append.ensures c.lines_go_on.ensures c.args.octets.now before.0 c.loop-at.at c.args.count
    c.requires before.1 fault _ _ _ before.2 c.in_err-at.ensures.cut)
