use Rattle.hn_base.proofs.Names.{◌≡◌, ◌∙◌, ◌-◌, List, All, false, ap, subst, arith, IsSooner}
use Rattle.hn_own.specs.OwnPrefixes.{has_ended_one}
use Rattle.hn_rules.proofs.Names.{HeldNode, IsLifetimeEnd, OwnPrefix, PlainView}
use Rattle.hn_rules.proofs.LastsBefore.{Cuts, lasts_of_parts}
use Rattle.hn_rules.proofs.RefreshChangesNothing.{LeadsOn}
use Rattle.hn_rules.proofs.state.State.lasts_before.Goals as goal

pub returns : goal.returns
returns c =
    let s = c.args.self.now in
    let old = c.saturating_add-old.result in
    let leads = c.all_lead_before-leads.result in
    let own = c.own_last_before-own.result in
    let first = c.next_end.result in
    let born : c.born.result ≡ s.own.born = c.born.ensures ∙ ap (λ own. own.born) c.get.ensures in
    let past = c.requires.well.past.born in
    let moment = c.get-moment.ensures.moment in
    let range = c.get-moment.ensures.in_range in
    lasts_of_parts s old leads own first (let sum = c.saturating_add-old.ensures in omega (arith, sum, born, past, moment, range))
    (subst (λ (nodes : List HeldNode). Cuts (λ until. All (LeadsOn until) nodes) old leads) (c.entries.ensures.entries ∙ ap (λ table. table.entries) c.get-2.ensures) c.all_lead_before-leads.ensures)
    (subst (λ (list : List OwnPrefix). Cuts (λ until. has_ended_one until list ≡ false) leads own) c.get-3.ensures c.own_last_before-own.ensures)
    (subst (λ (v : PlainView). IsSooner (IsLifetimeEnd v) v.now own first) c.view-view.ensures c.next_end.ensures)
