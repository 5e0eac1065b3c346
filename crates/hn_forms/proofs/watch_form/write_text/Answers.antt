use Rattle.hn_base.proofs.Names.{◌∙◌, ℕ, List, subst, sym, Appends, err_from_is_err_and}
use Rattle.hn_forms.proofs.Names.{append-nil, watch_line}
use Rattle.hn_forms.proofs.Streams.{part_is_cut}
use Rattle.hn_forms.proofs.WatchTexts.{text_all, grows, cut_first, cut_later}
use Rattle.hn_forms.proofs.watch_form.write_text.Goals as goal

pub returns-in_err-write_piece-clause-cut : goal.returns-in_err-write_piece-clause-cut
returns-in_err-write_piece-clause-cut g c =
    let line = watch_line c.args.datagrams c.args.malformed in
    let fault = c.in_err-write_piece.field-0.0 in
    let first = c.as_bytes.ensures.value ∙ c.in-Ok.ensures in
    let cut = part_is_cut fault _ _ line (rw first at c.in_err-write_piece.ensures.cut) in
    let passed = err_from_is_err_and c.from_residual.result c.from_residual.ensures.1 in
    rw (passed.1, passed.2) (cut_first c.pieces_append.ensures c.args.datagrams c.args.malformed c.args.seen.now fault _ _ cut)

pub loop-one-init : goal.loop-one-init
loop-one-init g c =
    let sink = g.K.Sink in
    let first = c.as_bytes.ensures.value ∙ c.in-Ok.ensures ∙ sym (append-nil (watch_line c.args.datagrams c.args.malformed)) in
    record {
      written = subst (λ (xs : List ℕ). Appends (sink.held c.args.out.now) (sink.held c.write_piece.new.out) xs) first c.in_ok-write_piece.ensures.ok;
      no_fault = c.in_ok-write_piece.ensures.caused.counts.stays (λ failed. cc);
      reliable = λ never. (c.in_ok-write_piece.ensures.caused.reliable never).0;
    }

pub loop-one-preserved : goal.loop-one-preserved
loop-one-preserved g c =
    let before = c.loop-one.invariant in
    let sink = g.K.Sink in
    record {
      written = grows c.pieces_append.ensures c.args.datagrams c.args.malformed c.args.seen.now c.loop-one.one-index _ (sink.held c.args.out.now)
          (sink.held c.loop-one.out) (sink.held c.write_seen.new.out)
          c.loop-one-test.true before.written c.in_ok-write_seen.ensures.written;
      no_fault = c.in_ok-write_seen.ensures.caused.counts.stays (λ failed. cc) ∙ before.no_fault;
      reliable = λ never. (c.in_ok-write_seen.ensures.caused.reliable (before.reliable never)).0;
    }

pub returns-in_err-write_seen-clause-cut : goal.returns-in_err-write_seen-clause-cut
returns-in_err-write_seen-clause-cut g c =
    let fault = c.in_err-write_seen.field-0.0 in
    let passed = err_from_is_err_and c.from_residual-in_err-write_seen.result c.from_residual-in_err-write_seen.ensures.1 in
    rw (passed.1, passed.2) (cut_later c.pieces_append.ensures c.args.datagrams c.args.malformed c.args.seen.now c.loop-one.one-index _ fault _ _ _
    c.loop-one-test.true c.loop-one.invariant.written c.in_err-write_seen.ensures.cut)

pub returns-clause-written : goal.returns-clause-written
returns-clause-written g c =
    let sink = g.K.Sink in
    let whole = text_all c.args.datagrams c.args.malformed c.args.seen.now c.loop-one.one-index c.loop-one-test.false in
    subst (λ (xs : List ℕ). Appends (sink.held c.args.out.now) (sink.held c.loop-one.out) xs) whole c.loop-one.invariant.written
