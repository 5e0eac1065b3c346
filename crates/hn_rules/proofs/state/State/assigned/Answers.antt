use Rattle.hn_base.proofs.Names.{◌∙◌, ap, subst, sym, arith, All}
use Rattle.hn_rules.proofs.Names.{PlainView, IsNetwork, plain_view, AreUsable, Held, IsInDelegated, IsAssignedPast, HasOwnPriority, seen_by}
use Rattle.hn_rules.proofs.AssignPairs.{assigned_of, kept_of}
use Rattle.hn_rules.proofs.state.State.assigned.Goals as goal

pub wishes_in-requires : goal.wishes_in-requires
wishes_in-requires g c =
    let s = c.args.self.now in
    record {
      view = c.view-view.ensures;
      usable = subst (AreUsable (seen_by s)) (sym c.as_slice-2.ensures) (subst (λ (v : PlainView). AreUsable v c.in_ok-usable.usable) c.view-view.ensures c.in_ok-usable.ensures);
      network = c.view_is_a_network.ensures s c.requires;
    }

pub subroutine_with-requires-clause-network : goal.subroutine_with-requires-clause-network
subroutine_with-requires-clause-network g c =
    subst (λ (v : PlainView). IsNetwork v.own v.nodes) (sym c.view-view.ensures) (c.view_is_a_network.ensures c.args.self.now c.requires)

pub subroutine_with-requires-clause-moment : goal.subroutine_with-requires-clause-moment
subroutine_with-requires-clause-moment g c =
    let present = c.get-now.ensures in
    let same = ap (λ (v : PlainView). v.now) c.view-view.ensures in
    omega arith

pub subroutine_with-requires-clause-inside : goal.subroutine_with-requires-clause-inside
subroutine_with-requires-clause-inside g c = subst (λ (held : Held). All IsInDelegated held.assigned) (sym c.get.ensures.held) c.get.ensures.kept.inside

pub subroutine_with-requires-clause-past : goal.subroutine_with-requires-clause-past
subroutine_with-requires-clause-past g c =
    subst (λ (v : PlainView). All (IsAssignedPast v.now) c.get.result.now.assigned) (sym c.view-view.ensures)
    (subst (λ (held : Held). All (IsAssignedPast c.args.self.now.moment) held.assigned) (sym (c.get.ensures.held ∙ c.get-held.ensures)) c.requires.well.past.assigned)

pub returns-clause-assigned : goal.returns-clause-assigned
returns-clause-assigned g c =
    let s = c.args.self.now in
    let usable = subst (AreUsable (seen_by s)) (sym c.as_slice-2.ensures) (subst (λ (v : PlainView). AreUsable v c.in_ok-usable.usable) c.view-view.ensures c.in_ok-usable.ensures) in
    assigned_of s (plain_view c.view-view.result) c.as_slice-2.result.now c.in_ok-wishes.wishes c.get.result.now c.in_ok-left.left.0
    c.view-view.ensures (c.get.ensures.held ∙ c.get-held.ensures) usable c.in_ok-wishes.ensures c.in_ok-left.ensures.subroutine

pub returns-clause-kept : goal.returns-clause-kept
returns-clause-kept g c =
    let held = c.get.ensures in
    let priority = subst (λ (h : Held). All HasOwnPriority h.assigned) (sym held.held) held.kept.priority in
    kept_of c.posts_ascend.ensures.few c.pairs_are_ordered.ensures.total c.pairs_are_ordered.ensures.exact c.subroutine_leaves.ensures.wished
    c.args.self.now c.in_ok-left.left.0 c.requires.well.ports (returns-clause-assigned g c)
    c.in_ok-left.ensures.ascending c.in_ok-left.ensures.inside (c.in_ok-left.ensures.priority priority)
