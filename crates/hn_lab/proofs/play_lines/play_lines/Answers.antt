use Rattle.hn_base.proofs.Names.{◌≡◌, ◌∙◌, ℕ, List, [], ◌∷◌, Some, Err, sym, ap, subst, append_assoc, arith, AllByRecursion}
use Rattle.hn_lab.proofs.Names.{same_error, IoFault, IsLimited, IsOfVersion, Line, Stop, Cut, LineEnds, stage_of, EndsAt}
use Rattle.hn_io.specs.Faults.{Rose}
use Rattle.hn_lab.proofs.PlayLines.{reached, so_far_more, cut_refusal, starved_refusal, all_refused, all_broken, starved_so, cut_so}
use Rattle.hn_lab.proofs.play_lines.play_lines.Goals as goal

same_cut : (f g : IoFault) → ◌≡◌ {A = Stop} (Cut f) (Cut g) → f ≡ g
same_cut f g same = cc

pub loop-number-preserved : goal.loop-number-preserved
loop-number-preserved g c =
    let before = c.loop-number.invariant in
    let text = before.so_far.0 in
    let p = stage_of c.args.playing.now (g.C.Carrier.route c.args.carrier.now c.args.outside.now) [] in
    let m = stage_of c.loop-number.playing (g.C.Carrier.route c.args.carrier.now c.loop-number.outside) text in
    let a = stage_of c.play_line.new.playing (g.C.Carrier.route c.args.carrier.now c.play_line.new.outside) text in
    let at = reached _ c.loop-number.yielded _ _ c.in-Some.number c.in-Some.next p m _ _ before.all c.in-Some.ensures.steps.0 before.so_far.1 in
    let ends = c.in-Ok.ensures.ends text in
    record {
      can = tt;
      finite = tt;
      all = at.lines_are ∙ sym (append_assoc c.loop-number.yielded ((c.in-Some.number, c.in-Some.next) ∷ []) at.rest);
      limited = (subst (λ (lines : List (ℕ × Line)). AllByRecursion (λ (line : ℕ × Line). IsLimited line.1) lines) c.in-Some.ensures.steps.0 before.limited).1;
      of_version = (
        before.of_version.0,
        (subst (λ (lines : List (ℕ × Line)). AllByRecursion (λ (line : ℕ × Line). IsOfVersion before.of_version.0 line.1) lines) c.in-Some.ensures.steps.0 before.of_version.1).1,
      );
      so_far = (ends.at.text, so_far_more _ c.loop-number.yielded c.in-Some.number c.in-Some.next p m a _ _ _ at ends);
      no_fault = c.in-Ok.ensures.sink_caused.counts.stays (λ failed. cc) ∙ before.no_fault;
      reliable = λ never. (c.in-Ok.ensures.sink_caused.reliable (before.reliable never)).0;
      no_wire_fault = c.in-Ok.ensures.caused.counts.stays (λ failed. cc) ∙ before.no_wire_fault;
      wire_reliable = λ never. (c.in-Ok.ensures.caused.reliable (before.wire_reliable never)).0;
    }

pub returns-in_err-write_refusal-in-Err-Refused-clause-cut : goal.returns-in_err-write_refusal-in-Err-Refused-clause-cut
returns-in_err-write_refusal-in-Err-Refused-clause-cut g c _ =
    let before = c.loop-number.invariant in
    let text = before.so_far.0 in
    let p = stage_of c.args.playing.now (g.C.Carrier.route c.args.carrier.now c.args.outside.now) [] in
    let m = stage_of c.loop-number.playing (g.C.Carrier.route c.args.carrier.now c.loop-number.outside) text in
    let a = stage_of c.play_line.new.playing (g.C.Carrier.route c.args.carrier.now c.play_line.new.outside) text in
    let at = reached _ c.loop-number.yielded _ _ c.in-Some.number c.in-Some.next p m _ _ before.all c.in-Some.ensures.steps.0 before.so_far.1 in
    let ends = subst (λ (s : Stop). EndsAt (LineEnds c.in-Some.next) (Some s) m a (g.K.Sink.held c.loop-number.out) (g.K.Sink.held c.play_line.new.out)) c.in-Err-Refused.field-0-is
    (c.in-Err-Refused.ensures.ends text) in
    cut_refusal _ c.loop-number.yielded c.in-Some.number c.in-Some.next p m a _ _ _ at c.in-Err-Refused.code ends _ c.in_err-write_refusal-in-Err-Refused.ensures.cut

pub returns-in_err-write_refusal-in-Err-Refused-clause-starved : goal.returns-in_err-write_refusal-in-Err-Refused-clause-starved
returns-in_err-write_refusal-in-Err-Refused-clause-starved g c _ =
    let before = c.loop-number.invariant in
    let text = before.so_far.0 in
    let p = stage_of c.args.playing.now (g.C.Carrier.route c.args.carrier.now c.args.outside.now) [] in
    let m = stage_of c.loop-number.playing (g.C.Carrier.route c.args.carrier.now c.loop-number.outside) text in
    let a = stage_of c.play_line.new.playing (g.C.Carrier.route c.args.carrier.now c.play_line.new.outside) text in
    let at = reached _ c.loop-number.yielded _ _ c.in-Some.number c.in-Some.next p m _ _ before.all c.in-Some.ensures.steps.0 before.so_far.1 in
    let ends = subst (λ (s : Stop). EndsAt (LineEnds c.in-Some.next) (Some s) m a (g.K.Sink.held c.loop-number.out) (g.K.Sink.held c.play_line.new.out)) c.in-Err-Refused.field-0-is
    (c.in-Err-Refused.ensures.ends text) in
    starved_refusal _ c.loop-number.yielded c.in-Some.number c.in-Some.next p m a _ _ _ at c.in-Err-Refused.code ends _ c.in_err-write_refusal-in-Err-Refused.ensures.cut

pub returns-in-Err-Refused-clause-whole : goal.returns-in-Err-Refused-clause-whole
returns-in-Err-Refused-clause-whole g c =
    let before = c.loop-number.invariant in
    let text = before.so_far.0 in
    let p = stage_of c.args.playing.now (g.C.Carrier.route c.args.carrier.now c.args.outside.now) [] in
    let m = stage_of c.loop-number.playing (g.C.Carrier.route c.args.carrier.now c.loop-number.outside) text in
    let a = stage_of c.play_line.new.playing (g.C.Carrier.route c.args.carrier.now c.play_line.new.outside) text in
    let at = reached _ c.loop-number.yielded _ _ c.in-Some.number c.in-Some.next p m _ _ before.all c.in-Some.ensures.steps.0 before.so_far.1 in
    let ends = subst (λ (s : Stop). EndsAt (LineEnds c.in-Some.next) (Some s) m a (g.K.Sink.held c.loop-number.out) (g.K.Sink.held c.play_line.new.out)) c.in-Err-Refused.field-0-is
    (c.in-Err-Refused.ensures.ends text) in
    all_refused _ c.loop-number.yielded c.in-Some.number c.in-Some.next p m a _ _ _ at c.in-Err-Refused.code ends _ c.in_ok-write_refusal-in-Err-Refused.ensures.ok

pub returns-in-Err-WireFailed-clause-whole : goal.returns-in-Err-WireFailed-clause-whole
returns-in-Err-WireFailed-clause-whole g c =
    let before = c.loop-number.invariant in
    let text = before.so_far.0 in
    let p = stage_of c.args.playing.now (g.C.Carrier.route c.args.carrier.now c.args.outside.now) [] in
    let m = stage_of c.loop-number.playing (g.C.Carrier.route c.args.carrier.now c.loop-number.outside) text in
    let a = stage_of c.play_line.new.playing (g.C.Carrier.route c.args.carrier.now c.play_line.new.outside) text in
    let at = reached _ c.loop-number.yielded _ _ c.in-Some.number c.in-Some.next p m _ _ before.all c.in-Some.ensures.steps.0 before.so_far.1 in
    let ends = subst (λ (s : Stop). EndsAt (LineEnds c.in-Some.next) (Some s) m a (g.K.Sink.held c.loop-number.out) (g.K.Sink.held c.play_line.new.out)) c.in-Err-WireFailed.field-0-is
    (c.in-Err-WireFailed.ensures.ends text) in
    all_broken _ c.loop-number.yielded c.in-Some.number c.in-Some.next p m a _ _ _ at ends

pub returns-in-Err-Cut-clause-starved : goal.returns-in-Err-Cut-clause-starved
returns-in-Err-Cut-clause-starved g c = λ starved.
    let before = c.loop-number.invariant in
    let text = before.so_far.0 in
    let p = stage_of c.args.playing.now (g.C.Carrier.route c.args.carrier.now c.args.outside.now) [] in
    let m = stage_of c.loop-number.playing (g.C.Carrier.route c.args.carrier.now c.loop-number.outside) text in
    let a = stage_of c.play_line.new.playing (g.C.Carrier.route c.args.carrier.now c.play_line.new.outside) text in
    let at = reached _ c.loop-number.yielded _ _ c.in-Some.number c.in-Some.next p m _ _ before.all c.in-Some.ensures.steps.0 before.so_far.1 in
    let is = c.in-Err-Cut.field-0-is ∙ ap Cut (same_error _ _ starved) in
    let ends = subst (λ (s : Stop). EndsAt (LineEnds c.in-Some.next) (Some s) m a (g.K.Sink.held c.loop-number.out) (g.K.Sink.held c.play_line.new.out)) is (c.in-Err-Cut.ensures.ends text) in
    starved_so _ c.loop-number.yielded c.in-Some.number c.in-Some.next p m a _ _ _ at ends

pub returns-in-Err-Cut-clause-cut : goal.returns-in-Err-Cut-clause-cut
returns-in-Err-Cut-clause-cut g c = λ failed.
    let before = c.loop-number.invariant in
    let text = before.so_far.0 in
    let p = stage_of c.args.playing.now (g.C.Carrier.route c.args.carrier.now c.args.outside.now) [] in
    let m = stage_of c.loop-number.playing (g.C.Carrier.route c.args.carrier.now c.loop-number.outside) text in
    let a = stage_of c.play_line.new.playing (g.C.Carrier.route c.args.carrier.now c.play_line.new.outside) text in
    let at = reached _ c.loop-number.yielded _ _ c.in-Some.number c.in-Some.next p m _ _ before.all c.in-Some.ensures.steps.0 before.so_far.1 in
    let is = c.in-Err-Cut.field-0-is ∙ ap Cut (same_error _ _ failed) in
    let ends = subst (λ (s : Stop). EndsAt (LineEnds c.in-Some.next) (Some s) m a (g.K.Sink.held c.loop-number.out) (g.K.Sink.held c.play_line.new.out)) is (c.in-Err-Cut.ensures.ends text) in
    cut_so _ c.loop-number.yielded c.in-Some.number c.in-Some.next p m a _ _ _ at ends

pub returns-in-Err-Cut-clause-caused : goal.returns-in-Err-Cut-clause-caused
returns-in-Err-Cut-clause-caused g c =
    let before = c.loop-number.invariant in
    let counts = c.in-Err-Cut.ensures.sink_caused.counts in
    let is = c.in-Err-Cut.field-0-is in
    record {
      counts = record {
        rises = λ failed. subst (λ (n : ℕ). Rose n (g.K.Sink.faults c.play_line.new.out)) before.no_fault (counts.rises (ap Err (is ∙ ap Cut (same_error _ _ failed))));
        stays = λ else. counts.stays (λ failed. else (ap Err (same_cut _ _ (sym is ∙ same_error _ _ failed)))) ∙ before.no_fault;
        never_falls = let same = before.no_fault in let more = counts.never_falls in omega arith;
      };
      reliable = λ never.
          let after = c.in-Err-Cut.ensures.sink_caused.reliable (before.reliable never) in
          (after.0, λ failed. after.1 (ap Err (is ∙ ap Cut (same_error _ _ failed))));
    }
