use Rattle.hn_base.proofs.Names.{ℕ, List, ◌∙◌, ◌≡◌, ◌≢◌, [], sym, ap, subst}
use Rattle.hn_rules.specs.declared.state.State.{State}
use Rattle.hn_router.specs.Act.{plain_event, Tick, Happened}
use Rattle.hn_kept.specs.Words.{chacha_after, AreDrawn}
use Rattle.hn_kept.specs.Choosing.{AreChosen}
use Rattle.hn_kept.specs.Kept.{Kept, asked_of}
use Rattle.hn_kept.proofs.ChosenEvents.{acts_over}
use Rattle.hn_kept.proofs.keeper.Keeper.act.Goals as goal

pub returns-clause-ok : goal.returns-clause-ok
returns-clause-ok c =
    let event = plain_event c.args.event.now in
    let k : Kept = c.args.self.now in
    let words = ap (λ (kept : Kept). kept.words) c.self.view_is in
    acts_over c.one_result.ensures c.args.now event k _ c.as_slice.result.now c.copy.result _
    (c.copy.ensures ∙ words)
    (subst (λ (s : State). Happened c.args.now event s c.act.new.self c.in_ok-done.done) (ap (λ (kept : Kept). kept.router) c.self.view_is) c.in_ok-done.ensures.happened)
    c.in_ok-done.ensures.drew
    c.chosen.ensures.ascends
    (subst (AreDrawn k.preferred k.words) (sym c.as_slice.ensures) c.in_ok-chosen.ensures.drawn)
    (subst (λ (ws : List ℕ). event ≡ Tick → k.preferred ≢ [] → AreChosen (asked_of c.args.now event k) ws) (sym c.as_slice.ensures) c.in_ok-chosen.ensures.chosen)
    (c.pass.ensures ∙ (λ i. chacha_after (c.len.ensures i) (words i)))
    (ap (λ (kept : Kept). kept.told) c.self.view_is)
    (ap (λ (kept : Kept). kept.preferred) c.self.view_is)
