use Rattle.hn_base.proofs.Names.{◌∙◌, [], sym, refl, arith}
use Rattle.hn_play.proofs.Names.{Failed, first_waiting, Cut, CopyEnds, HasWaiting, Flow, stage_of}
use Rattle.hn_play.proofs.RunCopies.{some_waits, none_waits}
use Rattle.hn_play.proofs.RunTimes.{once_more}
use Rattle.hn_play.proofs.RunStops.{handed_on, no_other_error, stopped_within}
use Rattle.hn_play.proofs.flowing.flow.Goals as goal

pub loop-copy-preserved : goal.loop-copy-preserved
loop-copy-preserved g c =
    let before = c.loop-copy.invariant in
    let waits = some_waits (first_waiting c.loop-copy.playing.world.parts.copies) c.in-Some.copy (sym c.next_waiting.ensures ∙ c.in-Some.is) in
    record {
      treated = λ text.
          once_more HasWaiting CopyEnds (stage_of c.args.playing.now (g.C.Carrier.route c.args.carrier.now c.args.outside.now) text)
          (stage_of c.loop-copy.playing (g.C.Carrier.route c.args.carrier.now c.loop-copy.outside) text)
          (stage_of c.treat_first.new.playing (g.C.Carrier.route c.args.carrier.now c.treat_first.new.outside) text) (before.treated text) waits (c.in_ok-treat_first.ensures.ends text);
      kept = let more = c.in_ok-treat_first.ensures.entered.1 in let kept = before.kept in omega arith;
      no_fault = c.in_ok-treat_first.ensures.caused.counts.stays (λ failed. cc) ∙ before.no_fault;
      reliable = λ never. (c.in_ok-treat_first.ensures.caused.reliable (before.reliable never)).0;
    }

pub returns-in_err-treat_first-clause-ends : goal.returns-in_err-treat_first-clause-ends
returns-in_err-treat_first-clause-ends g c text =
    let p = stage_of c.args.playing.now (g.C.Carrier.route c.args.carrier.now c.args.outside.now) text in
    let b = stage_of c.loop-copy.playing (g.C.Carrier.route c.args.carrier.now c.loop-copy.outside) text in
    let a = stage_of c.treat_first.new.playing (g.C.Carrier.route c.args.carrier.now c.treat_first.new.outside) text in
    let so_far = c.loop-copy.invariant.treated text in
    let waits = some_waits (first_waiting c.loop-copy.playing.world.parts.copies) c.in-Some.copy (sym c.next_waiting.ensures ∙ c.in-Some.is) in
    let why = c.in_err-treat_first.field-0.0 in
    handed_on (λ _. Flow) Flow why c.from_residual.result p a c.from_residual.ensures.1
    (stopped_within CopyEnds Flow why p b a (λ at h. (so_far.0, b, so_far.1, waits, h)) refl (c.in_err-treat_first.ensures.ends text))

pub returns-clause-ends : goal.returns-clause-ends
returns-clause-ends g c text =
    let so_far = c.loop-copy.invariant.treated text in
    (so_far.0, so_far.1, λ waits. waits (none_waits (first_waiting c.loop-copy.playing.world.parts.copies) (sym c.next_waiting.ensures ∙ c.in_default.is)))

pub returns-in_err-treat_first-clause-unwritten : goal.returns-in_err-treat_first-clause-unwritten
returns-in_err-treat_first-clause-unwritten g c =
    no_other_error c.in_err-treat_first.field-0.0 (Cut Failed) c.from_residual.result c.from_residual.ensures.1 (c.in_err-treat_first.ensures.ends []).unwritten
