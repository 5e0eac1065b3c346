use Rattle.hn_base.proofs.Names.{◌↔◌, ◌⊎◌, ℕ, List, subst, inl, inr, IsSooner, IsOfElement}
use Rattle.hn_pair.proofs.Names.{Assigned, Backoff, IsBackoffDue, IsMarkDue, IsHeldDue}
use Rattle.hn_base.proofs.NextDue.{sooner_both, sooner_same}
use Rattle.hn_pair.proofs.held.Held.next_due.Goals as goal

pub returns : goal.returns
returns c =
    let held = c.args.self.now in
    let now = c.args.now in
    let due : IsSooner (IsOfElement IsBackoffDue held.backoffs) now c.args.best c.first_due-due.result =
    subst (λ (xs : List Backoff). IsSooner (IsOfElement IsBackoffDue xs) now c.args.best c.first_due-due.result) c.as_slice.ensures.value c.first_due-due.ensures in
    let marks : IsSooner (IsOfElement IsMarkDue held.assigned) now c.first_due-due.result c.first_mark.result =
    subst (λ (xs : List Assigned). IsSooner (IsOfElement IsMarkDue xs) now c.first_due-due.result c.first_mark.result) c.as_slice-2.ensures.value c.first_mark.ensures in
    let same : (m : ℕ) → (IsOfElement IsBackoffDue held.backoffs m) ⊎ (IsOfElement IsMarkDue held.assigned m) ↔ IsHeldDue held m = λ m. (
      λ h. elim h [ inl b ↦ inl b | inr c ↦ inr (c.0, c.1, c.2.0, c.2.1) ],
      λ h. elim h [ inl b ↦ inl b | inr c ↦ inr (c.0, c.1, (c.2, c.3)) ],
    ) in
    sooner_same (λ m. IsOfElement IsBackoffDue held.backoffs m ⊎ IsOfElement IsMarkDue held.assigned m) (IsHeldDue held) now c.args.best c.first_mark.result same
    (sooner_both (IsOfElement IsBackoffDue held.backoffs) (IsOfElement IsMarkDue held.assigned) now c.args.best c.first_due-due.result c.first_mark.result due marks)
