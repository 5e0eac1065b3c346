use Rattle.hn_base.proofs.Names.{◌∙◌, ℕ, subst, IsSooner}
use Rattle.hn_rules.proofs.Names.{plain_view, IsAgeLimit}
use Rattle.hn_rules.proofs.Dues.{seen_due}
use Rattle.hn_rules.proofs.state.State.next_seen.Goals as goal

pub returns : goal.returns
returns c =
    let nodes = c.as_slice-2.result.now in
    let end = c.next_end-end.result in
    seen_due c.args.self.now (plain_view c.view-view.result) nodes c.args.best end c.next_age_limit.result c.view-view.ensures
    (c.as_slice-2.ensures.value ∙ c.in_ok-nodes.ensures) c.next_end-end.ensures
    (subst (λ (t : ℕ). IsSooner (IsAgeLimit nodes t) t end c.next_age_limit.result) c.get.ensures.moment c.next_age_limit.ensures)
