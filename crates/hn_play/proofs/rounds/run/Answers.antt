use Rattle.hn_base.proofs.Names.{◌<◌, ◌≤◌, ◌∙◌, ℕ, None, Some, inl, inr, refl, sym, subst, arith}
use Rattle.hn_play.proofs.Names.{Refused, Round, Process, Stage, stage_of}
use Rattle.hn_play.proofs.RunStops.{stopped_last}
use Rattle.hn_play.proofs.RunTimes.{SomeTimes, round_more}
use Rattle.hn_play.proofs.RunWrites.{ends_as, goes_on, last_of, still_done, still_stopped, writing_on}
use Rattle.hn_play.specs.Events.{Runs}
use Rattle.hn_play.proofs.rounds.run.Goals as goal

pub loop-alloc-init : goal.loop-alloc-init
loop-alloc-init g c = record {
  rounds = λ text.
      let p = stage_of c.args.playing.now (g.C.Carrier.route c.args.carrier.now c.args.outside.now) text in
      still_done (SomeTimes (λ (q : Stage). q.world.moment < c.args.end) (Round c.args.end c.args.step)) p p _ refl (0, refl);
  no_fault = refl;
  reliable = λ never. never;
  no_sink_fault = refl;
  sink_reliable = λ never. never;
}

pub loop-alloc-preserved : goal.loop-alloc-preserved
loop-alloc-preserved g c =
    let before = c.loop-alloc.invariant in
    let more = subst (λ (moment : ℕ). moment < c.args.end) c.moment-in-loop-alloc.ensures.moment c.loop-alloc-test.true in
    record {
      rounds = λ text.
          let p = stage_of c.args.playing.now (g.C.Carrier.route c.args.carrier.now c.args.outside.now) text in
          let b = stage_of c.loop-alloc.playing (g.C.Carrier.route c.args.carrier.now c.loop-alloc.outside) text in
          let a = stage_of c.round.new.playing (g.C.Carrier.route c.args.carrier.now c.round.new.outside) text in
          let done = before.rounds text in
          round_more (λ (q : Stage). q.world.moment < c.args.end) (Round c.args.end c.args.step) p b a _ _ _ done
          (subst (λ (q : Stage). q.world.moment < c.args.end) (sym (last_of (SomeTimes (λ (q : Stage). q.world.moment < c.args.end) (Round c.args.end c.args.step)) p b _ _ done)) more)
          (c.in_ok-round.ensures.ends done.at.text);
      no_fault = c.in_ok-round.ensures.caused.counts.stays (λ failed. cc) ∙ before.no_fault;
      reliable = λ never. (c.in_ok-round.ensures.caused.reliable (before.reliable never)).0;
      no_sink_fault = c.in_ok-round.ensures.sink_caused.counts.stays (λ failed. cc) ∙ before.no_sink_fault;
      sink_reliable = λ never. (c.in_ok-round.ensures.sink_caused.reliable (before.sink_reliable never)).0;
    }

pub returns-then-end-moment-clause-ends : goal.returns-then-end-moment-clause-ends
returns-then-end-moment-clause-ends g c text =
    let p = stage_of c.args.playing.now (g.C.Carrier.route c.args.carrier.now c.args.outside.now) text in
    let past = subst (λ (moment : ℕ). c.args.end < moment) c.moment.ensures.moment c.if-end-moment.true in
    still_stopped (Runs c.args.end c.args.step) (Refused 10) p p _ (stopped_last (Runs c.args.end c.args.step) (Refused 10) p p (inl (past, refl, refl)) refl (λ e. absurd cc))

pub returns-in_err-round-clause-ends : goal.returns-in_err-round-clause-ends
returns-in_err-round-clause-ends g c text =
    let p = stage_of c.args.playing.now (g.C.Carrier.route c.args.carrier.now c.args.outside.now) text in
    let b = stage_of c.loop-alloc.playing (g.C.Carrier.route c.args.carrier.now c.loop-alloc.outside) text in
    let a = stage_of c.round.new.playing (g.C.Carrier.route c.args.carrier.now c.round.new.outside) text in
    let done = c.loop-alloc.invariant.rounds text in
    let future = subst (λ (moment : ℕ). moment ≤ c.args.end) c.moment.ensures.moment c.if-end-moment.false in
    let more = subst (λ (moment : ℕ). moment < c.args.end) c.moment-in-loop-alloc.ensures.moment c.loop-alloc-test.true in
    let rounds : Process = SomeTimes (λ (q : Stage). q.world.moment < c.args.end) (Round c.args.end c.args.step) in
    let there = subst (λ (q : Stage). q.world.moment < c.args.end) (sym (last_of rounds p b _ _ done)) more in
    let why = c.in_err-round.field-0.0 in
    let runs : Process = Runs c.args.end c.args.step in
    writing_on runs why c.from_residual.result p a _ _ c.from_residual.ensures.1
    (goes_on rounds (Round c.args.end c.args.step) runs (Some why) p b a _ _ _ done (λ at h. inr (future, (done.ended.0, done.at, done.ended.1, there, h))) (c.in_err-round.ensures.ends done.at.text))

pub returns-clause-ends : goal.returns-clause-ends
returns-clause-ends g c text =
    let p = stage_of c.args.playing.now (g.C.Carrier.route c.args.carrier.now c.args.outside.now) text in
    let b = stage_of c.loop-alloc.playing (g.C.Carrier.route c.args.carrier.now c.loop-alloc.outside) text in
    let done = c.loop-alloc.invariant.rounds text in
    let future = subst (λ (moment : ℕ). moment ≤ c.args.end) c.moment.ensures.moment c.if-end-moment.false in
    let reached = subst (λ (moment : ℕ). c.args.end ≤ moment) c.moment-in-loop-alloc.ensures.moment c.loop-alloc-test.false in
    let rounds : Process = SomeTimes (λ (q : Stage). q.world.moment < c.args.end) (Round c.args.end c.args.step) in
    let there = subst (λ (q : Stage). c.args.end ≤ q.world.moment) (sym (last_of rounds p b _ _ done)) reached in
    ends_as rounds (Runs c.args.end c.args.step) None p b _ _ done (inr (future, (done.ended.0, done.ended.1, λ more. omega (arith, there, more))))
