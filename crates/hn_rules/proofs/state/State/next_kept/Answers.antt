use Rattle.hn_base.proofs.Names.{◌≡◌, ◌∙◌, ◌≤◌, ◌+◌, ◌-◌, ◌^◌, ℕ, List, ap, subst, arith, IsSooner}
use Rattle.hn_rules.proofs.Names.{IsHeldDue, Held, IsOwnEnd, OwnPrefix, IsForgetting, Nodes}
use Rattle.hn_base.proofs.NextDue.{sooner_cut}
use Rattle.hn_rules.proofs.Dues.{kept_due}
use Rattle.hn_rules.proofs.state.State.next_kept.Goals as goal

pub returns : goal.returns
returns c =
    let s = c.args.self.now in
    let end = c.next_end-end.result in
    let age = c.sooner-age.result in
    let forgetting = c.next_forgetting-forgetting.result in
    let now = c.get-now.ensures.moment in
    let at = c.get-now.result in
    let born : c.born.result ≡ s.own.born = c.born.ensures ∙ ap (λ own. own.born) c.get-2.ensures in
    let old = c.saturating_add-old.result in
    let within : end ≤ 18446744073709551615 = (let most = c.next_end-end.ensures.at_most in let fits = c.ranges.best in omega (arith, most, fits)) in
    let ages : IsSooner (λ m. m ≡ s.own.born + (2 ^ 32 - 2 ^ 16)) c.get-now.result end age =
    sooner_cut c.get-now.result end age (s.own.born + (2 ^ 32 - 2 ^ 16)) old 18446744073709551615 within
    (let sum = c.saturating_add-old.ensures in omega (arith, sum, born)) c.sooner-age.ensures in
    kept_due s c.args.best end age forgetting c.next_due.result
    (subst (λ (t : ℕ). IsSooner (IsOwnEnd s.delegated) t c.args.best end) now (subst (λ (list : List OwnPrefix). IsSooner (IsOwnEnd list) at c.args.best end) c.get.ensures c.next_end-end.ensures))
    (subst (λ (t : ℕ). IsSooner (λ m. m ≡ s.own.born + (2 ^ 32 - 2 ^ 16)) t end age) now ages)
    (subst (λ (t : ℕ). IsSooner (IsForgetting s.table.entries) t age forgetting) now
    (subst (λ (nodes : Nodes). IsSooner (IsForgetting nodes.entries) at age forgetting) c.get-3.ensures c.next_forgetting-forgetting.ensures))
    (subst (λ (t : ℕ). IsSooner (IsHeldDue s.held) t forgetting c.next_due.result) now
    (subst (λ (held : Held). IsSooner (IsHeldDue held) at forgetting c.next_due.result) (c.get-5.ensures.held ∙ c.get-4.ensures) c.next_due.ensures))
