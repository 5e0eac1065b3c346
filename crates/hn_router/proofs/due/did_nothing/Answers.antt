use Rattle.hn_base.proofs.Names.{◌≡◌, ℕ, sym, subst}
use Rattle.hn_router.proofs.Names.{begun_at, IsTick, plain_event, PlainEvent, Tick, IsEvent}
use Rattle.hn_router.proofs.Keeping.{tick_ran}
use Rattle.hn_router.proofs.due.did_nothing.Goals as goal

pub was_idle-requires-clause-ran : goal.was_idle-requires-clause-ran
was_idle-requires-clause-ran c =
    let event = plain_event c.args.event.now in
    let tick : event ≡ Tick = c.is_tick.ensures.0 c.if-is_tick.true in
    let begun = begun_at c.args.now c.args.before.now in
    let moment : c.args.after.now.state.moment ≡ c.args.now = c.events_keep_the_moment.ensures event begun c.args.after.now c.requires.ran in
    let ran : IsTick begun c.args.after.now = tick_ran begun c.args.after.now (subst (λ (e : PlainEvent). IsEvent e begun c.args.after.now) tick c.requires.ran) in
    subst (λ (m : ℕ). IsTick (begun_at m c.args.before.now) c.args.after.now) (sym moment) ran
