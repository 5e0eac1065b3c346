use Rattle.hn_base.proofs.Names.{◌∙◌, None, Some, subst, arith}
use Rattle.hn_play.proofs.Names.{Name, EachProcess, TickEnds, stage_of, EndsAt}
use Rattle.hn_play.proofs.RunEach.{each_further, each_stopped, each_done}
use Rattle.hn_play.proofs.RunWrites.{writing_on}
use Rattle.hn_play.proofs.rounds.ticks_of.Goals as goal

pub returns-in_err-tick-clause-ends : goal.returns-in_err-tick-clause-ends
returns-in_err-tick-clause-ends g c route text =
    let sink = g.K.Sink in
    let xs = c.args.names.now in
    let p = stage_of c.args.playing.now route text in
    let b = stage_of c.loop-name.playing route text in
    let a = stage_of c.tick.new.playing route text in
    let done = c.loop-name.invariant.ticked route text in
    let why = c.in_err-tick.field-0.0 in
    writing_on (EachProcess TickEnds xs) why c.from_residual.result p a _ _ c.from_residual.ensures.1
    (each_stopped TickEnds xs p b _ _ c.loop-name.name-index c.name-item.result c.loop-name-test.true done a _ why
    (subst (λ (name : Name). EndsAt (TickEnds name) (Some why) (record b { text = done.at.text }) (record a { text = done.at.text })
    (sink.held c.loop-name.out) (sink.held c.tick.new.out)) c.name-item.is (c.in_err-tick.ensures.ends route done.at.text)))

pub loop-name-preserved : goal.loop-name-preserved
loop-name-preserved g c =
    let sink = g.K.Sink in
    let xs = c.args.names.now in
    let before = c.loop-name.invariant in
    record {
      ticked = λ route text.
          let p = stage_of c.args.playing.now route text in
          let b = stage_of c.loop-name.playing route text in
          let a = stage_of c.tick.new.playing route text in
          let done = before.ticked route text in
          each_further TickEnds xs p b _ _ c.loop-name.name-index c.name-item.result c.loop-name-test.true done a _
          (subst (λ (name : Name). EndsAt (TickEnds name) None (record b { text = done.at.text }) (record a { text = done.at.text })
          (sink.held c.loop-name.out) (sink.held c.tick.new.out)) c.name-item.is (c.in_ok-tick.ensures.ends route done.at.text));
      kept = let more = c.in_ok-tick.ensures.entered in let kept = before.kept in omega arith;
      no_fault = c.in_ok-tick.ensures.sink_caused.counts.stays (λ failed. cc) ∙ before.no_fault;
      reliable = λ never. (c.in_ok-tick.ensures.sink_caused.reliable (before.reliable never)).0;
    }

pub returns-clause-ends : goal.returns-clause-ends
returns-clause-ends g c route text =
    let p = stage_of c.args.playing.now route text in
    let b = stage_of c.loop-name.playing route text in
    each_done TickEnds c.args.names.now p b _ _ c.loop-name.name-index c.loop-name-test.false (c.loop-name.invariant.ticked route text)
