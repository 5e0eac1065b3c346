use Rattle.hn_base.proofs.Names.{◌≤◌, sym, subst}
use Rattle.hn_router.proofs.Names.{State, plain_event, HasResults}
use Rattle.hn_router.proofs.router.Router.has_results.Goals as goal

pub returns : goal.returns
returns c =
    let event = plain_event c.args.event.now in
    let s = c.self.inside.state in
    let rises : s.moment ≤ c.args.now = subst (λ (x : State). x.moment ≤ c.args.now) (sym c.self.view_is) c.requires in
    subst (λ (x : State). HasResults c.args.now event x) c.self.view_is
    (c.event_has_a_result.ensures c.args.now event s c.self.invariant.kept.router rises c.event_in_range.ensures c.event_of_bytes.ensures)
