use Rattle.hn_base.proofs.Names.{ℕ, ◌↔◌, ◌∙◌, sym, false≢true, IsOfElement}
use Rattle.hn_deleg.proofs.Names.{IsDelegationEnd, IsEndIn}
use Rattle.hn_base.proofs.NextDue.{sooner_none, sooner_same}
use Rattle.hn_deleg.proofs.ends.next_of_node.Goals as goal

pub returns-then-is_none : goal.returns-then-is_none
returns-then-is_none c = sooner_none (IsEndIn c.args.now c.args.node.now) c.args.now c.args.best (λ m h. absurd (false≢true (sym c.if-is_none.ensures ∙ c.version.ensures.found.1 h.version)))

pub returns : goal.returns
returns c =
    let node = c.args.node.now in
    let said = c.delegations.result.now in
    let same : (m : ℕ) → IsOfElement (IsDelegationEnd c.args.now node.age) said m ↔ IsEndIn c.args.now node m = λ m. (
      λ h. record { version = c.version.ensures.found.0 c.if-is_none.ensures; delegation = h.0; said = (c.delegations.ensures.exact h.0).0 h.1; ends = h.2 },
      λ h. (h.delegation, (c.delegations.ensures.exact h.delegation).1 h.said, h.ends),
    ) in
    sooner_same (IsOfElement (IsDelegationEnd c.args.now node.age) said) (IsEndIn c.args.now node) c.args.now c.args.best c.next_of_delegations.result same c.next_of_delegations.ensures
