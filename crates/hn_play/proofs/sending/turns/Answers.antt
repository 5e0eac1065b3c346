use Rattle.hn_base.proofs.Names.{◌∙◌}
use Rattle.hn_play.proofs.Names.{EpId, EachProcess, TurnEnds, stage_of}
use Rattle.hn_play.proofs.RunEach.{each_further, each_stopped, each_done}
use Rattle.hn_play.proofs.RunWrites.{writing_on}
use Rattle.hn_play.proofs.sending.turns.Goals as goal

pub returns-in_err-turn-clause-ends : goal.returns-in_err-turn-clause-ends
returns-in_err-turn-clause-ends g c route text =
    let name = c.args.name.now in
    let xs = c.args.endpoints.now in
    let p = stage_of c.args.playing.now route text in
    let b = stage_of c.loop-endpoint.playing route text in
    let a = stage_of c.turn.new.playing route text in
    let done = c.loop-endpoint.invariant.turned route text in
    let why = c.in_err-turn.field-0.0 in
    let d : EpId = record { 0 = 0 } in
    writing_on (EachProcess (TurnEnds name) xs) why c.from_residual.result p a _ _ c.from_residual.ensures.1
    (each_stopped (TurnEnds name) xs p b _ _ c.loop-endpoint.endpoint-index d c.loop-endpoint-test.true done a _ why (c.in_err-turn.ensures.ends route done.at.text))

pub loop-endpoint-preserved : goal.loop-endpoint-preserved
loop-endpoint-preserved g c =
    let name = c.args.name.now in
    let xs = c.args.endpoints.now in
    let before = c.loop-endpoint.invariant in
    let d : EpId = record { 0 = 0 } in
    record {
      turned = λ route text.
          let p = stage_of c.args.playing.now route text in
          let b = stage_of c.loop-endpoint.playing route text in
          let a = stage_of c.turn.new.playing route text in
          let done = before.turned route text in
          each_further (TurnEnds name) xs p b _ _ c.loop-endpoint.endpoint-index d c.loop-endpoint-test.true done a _ (c.in_ok-turn.ensures.ends route done.at.text);
      world = c.in_ok-turn.ensures.world ∙ before.world;
      no_fault = c.in_ok-turn.ensures.sink_caused.counts.stays (λ failed. cc) ∙ before.no_fault;
      reliable = λ never. (c.in_ok-turn.ensures.sink_caused.reliable (before.reliable never)).0;
    }

pub returns-clause-ends : goal.returns-clause-ends
returns-clause-ends g c route text =
    let name = c.args.name.now in
    let p = stage_of c.args.playing.now route text in
    let b = stage_of c.loop-endpoint.playing route text in
    each_done (TurnEnds name) c.args.endpoints.now p b _ _ c.loop-endpoint.endpoint-index c.loop-endpoint-test.false (c.loop-endpoint.invariant.turned route text)
