use Rattle.hn_base.proofs.Names.{◌≡◌, ℕ, [], None, Some, Result, Ok, Err, inl, inr, refl}
use Rattle.hn_play.proofs.Names.{WorldFault, Stop, Ended, IsAnswered, stopping, Passes, Ticks, Flow, Round, Process, ThenProcess, Stage, stage_of}
use Rattle.hn_play.proofs.RunAnswers.{ends_so}
use Rattle.hn_play.proofs.RunTimes.{then_assoc}
use Rattle.hn_play.proofs.RunWrites.{still_done, still_stopped, still_writes, first_stops, goes_on, then_writes, writing_as, writing_on}
use Rattle.hn_play.proofs.rounds.round.Goals as goal

-- time passed, or the round is stopped there
passed : {A : Type 0} (end step : ℕ) (answer : Result A WorldFault) (r : Result A Stop) (p a : Stage) → r ≡ stopping answer → a.text ≡ p.text → a.route ≡ p.route
    → IsAnswered (Passes end step) answer p a → Ended (Passes end step) r p a
passed end step answer r p a same told stays =
    let pass : Process = Passes end step in
    ends_so pass pass p p a (λ code h. h) (λ _. pass None) (λ _. pass) answer r same told ([], refl) (inl stays) (λ _ h. h)

pub returns-in_err-stopping-clause-ends : goal.returns-in_err-stopping-clause-ends
returns-in_err-stopping-clause-ends g c text =
    let v = g.C.Carrier.route c.args.carrier.now c.args.outside.now in
    let p = stage_of c.args.playing.now v text in
    let a = stage_of c.pass.new.playing v text in
    let why = c.in_err-stopping.field-0.0 in
    let pass = Passes c.args.end c.args.step in
    writing_on (Round c.args.end c.args.step) why c.from_residual.result p a _ _ c.from_residual.ensures.1
    (first_stops pass (ThenProcess Ticks Flow) why p a _ _
    (still_stopped pass why p a _ (passed c.args.end c.args.step c.pass.result (Err why) p a c.in_err-stopping.ensures.same refl refl (c.pass.ensures.ends v text))))

pub returns-in_err-ticks-clause-ends : goal.returns-in_err-ticks-clause-ends
returns-in_err-ticks-clause-ends g c text =
    let v = g.C.Carrier.route c.args.carrier.now c.args.outside.now in
    let p = stage_of c.args.playing.now v text in
    let m = stage_of c.pass.new.playing v text in
    let a = stage_of c.ticks.new.playing v text in
    let why = c.in_err-ticks.field-0.0 in
    let pass = Passes c.args.end c.args.step in
    let so = passed c.args.end c.args.step c.pass.result (Ok c.in_ok-stopping.field-0) p m c.in_ok-stopping.ensures.same refl refl (c.pass.ensures.ends v text) in
    let first = still_done pass p m (g.K.Sink.held c.args.out.now) refl so in
    writing_on (Round c.args.end c.args.step) why c.from_residual-in_err-ticks.result p a _ _ c.from_residual-in_err-ticks.ensures.1
    (goes_on pass Ticks (Round c.args.end c.args.step) (Some why) p m a _ _ _ first (λ at h. inr (first.at, first.ended, inl h)) (c.in_err-ticks.ensures.ends v first.at.text))

pub returns-clause-ends : goal.returns-clause-ends
returns-clause-ends g c text =
    let v = g.C.Carrier.route c.args.carrier.now c.args.outside.now in
    let p = stage_of c.args.playing.now v text in
    let m = stage_of c.pass.new.playing v text in
    let b = stage_of c.ticks.new.playing v text in
    let a = stage_of c.flow.new.playing (g.C.Carrier.route c.args.carrier.now c.flow.new.outside) text in
    let pass = Passes c.args.end c.args.step in
    let so = passed c.args.end c.args.step c.pass.result (Ok c.in_ok-stopping.field-0) p m c.in_ok-stopping.ensures.same refl refl (c.pass.ensures.ends v text) in
    let first = still_done pass p m (g.K.Sink.held c.args.out.now) refl so in
    let two = goes_on pass Ticks (ThenProcess pass Ticks) None p m b _ _ _ first (λ at h. (first.at, first.ended, h)) (c.in_ok-ticks.ensures.ends v first.at.text) in
    writing_as (ThenProcess (ThenProcess pass Ticks) Flow) (Round c.args.end c.args.step) c.flow.result p a _ _ (λ stop at h. then_assoc pass Ticks Flow stop p at h)
    (then_writes (ThenProcess pass Ticks) Flow c.flow.result p b a _ _ _ two
    (still_writes Flow c.flow.result (record b { text = two.at.text }) (record a { text = two.at.text }) _ refl (c.flow.ensures.ends two.at.text)))
