use Rattle.hn_base.proofs.Names.{◌∙◌, List, ℕ, refl, subst, rules, Appends, err_from_is_err_and}
use Rattle.hn_look.proofs.Names.{AppendsPart}
use Rattle.hn_look.proofs.Replays.{begins, piece_is, goes_further, cut_in_it, starved_here, all_told}
use Rattle.hn_look.proofs.Streams.{part_is_cut}
use Rattle.hn_look.proofs.log.write_trace.Goals as goal

pub loop-traced-init : goal.loop-traced-init
loop-traced-init g c =
    let sink = g.K.Sink in
    record {
      on_the_way = begins c.args.world.now.parts _ _ (sink.held c.args.out.now) c.without_trace-replay.ensures c.language_version.ensures c.is_replayed.ensures;
      no_fault = refl;
      reliable = λ never. never;
    }

pub loop-traced-preserved : goal.loop-traced-preserved
loop-traced-preserved g c =
    let sink = g.K.Sink in
    let before = c.loop-traced.invariant in
    let told = c.in-Ok.ensures.told in
    let piece = piece_is _ _ _ told.0 c.as_bytes.ensures.value told.2 (search rules) in
    let wrote = subst (λ (xs : List ℕ). Appends (sink.held c.loop-traced.out) (sink.held c.write_piece.new.out) xs) piece c.in_ok-write_piece.ensures.ok in
    record {
      on_the_way = goes_further c.args.world.now.parts c.loop-traced.replay.parts c.loop-traced.traced-index c.traced-item.result (sink.held c.args.out.now) (sink.held c.loop-traced.out) (rw
          c.requires at c.loop-traced-test.true) (rw c.requires at c.traced-item.is) before.on_the_way
          c.push_again.new.replay.parts told.0 c.in-Ok.ensures.same told.1 c.pieces_append.ensures (sink.held c.write_piece.new.out) wrote;
      no_fault = c.in_ok-write_piece.ensures.caused.counts.stays (λ failed. cc) ∙ before.no_fault;
      reliable = λ never. (c.in_ok-write_piece.ensures.caused.reliable (before.reliable never)).0;
    }

pub returns-in_err-write_piece-clause-cut : goal.returns-in_err-write_piece-clause-cut
returns-in_err-write_piece-clause-cut g c =
    let sink = g.K.Sink in
    let fault = c.in_err-write_piece.field-0.0 in
    let told = c.in-Ok.ensures.told in
    let piece = piece_is _ _ _ told.0 c.as_bytes.ensures.value told.2 (search rules) in
    let part = subst (AppendsPart (sink.held c.loop-traced.out) (sink.held c.write_piece.new.out)) piece c.in_err-write_piece.ensures.cut in
    let passed = err_from_is_err_and c.from_residual.result c.from_residual.ensures.1 in
    rw (passed.1, passed.2) (cut_in_it c.args.world.now.parts c.loop-traced.replay.parts c.loop-traced.traced-index c.traced-item.result (sink.held c.args.out.now) (sink.held
    c.loop-traced.out) (rw c.requires at c.loop-traced-test.true) (rw c.requires at c.traced-item.is) c.loop-traced.invariant.on_the_way
    c.push_again.new.replay.parts told.0 c.in-Ok.ensures.same told.1 c.pieces_append.ensures fault (sink.held c.write_piece.new.out) (part_is_cut fault _ _ told.0 part))

pub returns-in_default-clause-cut : goal.returns-in_default-clause-cut
returns-in_default-clause-cut g c =
    let sink = g.K.Sink in
    starved_here c.args.world.now.parts c.loop-traced.replay.parts c.loop-traced.traced-index (sink.held c.args.out.now) (sink.held c.loop-traced.out) c.loop-traced.invariant.on_the_way

pub returns-clause-written : goal.returns-clause-written
returns-clause-written g c =
    let sink = g.K.Sink in
    all_told c.args.world.now.parts c.loop-traced.replay.parts c.loop-traced.traced-index (sink.held c.args.out.now) (sink.held c.loop-traced.out) (rw c.requires at
    c.loop-traced-test.false) c.loop-traced.invariant.on_the_way
