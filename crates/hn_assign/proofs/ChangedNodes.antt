-- Which nodes are told to have changed, one after another.
use Rattle.hn_base.proofs.Names.{◌≡◌, ◌↔◌, ◌⊎◌, ℕ, ◌+◌, ◌<◌, List, [], ◌∷◌, ◌++◌, length, take, get_or, Contains, ap, subst, inl, inr, ⊎_elim, Option, None, Some, IfSome, is_some, true, false≢true, slice_get, Contains-push, Contains-push_cases}
use Rattle.hn_base.proofs.Names.{Contains-append_left, IsStrictlySortedBy, node_cmp}
use Rattle.hn_base.proofs.AscendingLists.{Contains-one}
use Rattle.hn_base.proofs.AscendingMade.{sorted_cons, sorted_none}
use Rattle.hn_base.proofs.PartsAtPlaces.{part_at, contains_at}
use Rattle.hn_base.specs.declared.ids.NodeId.{NodeId}
use Rattle.hn_data.specs.View.{ids_of}
use Rattle.hn_data.specs.declared.view.Entry.{Entry}
use Rattle.hn_assign.proofs.Names.{nothing_in, front_more}
use Rattle.hn_assign.specs.Changed.{HasNodeOf, SaidSame, AreTold, AreChanged}

-- a node whose identifier stands at a place is there
pub there_at : (nodes : List Entry) (node : Entry) (place : ℕ) → slice_get (ids_of nodes) place ≡ Some node.id.0 → HasNodeOf nodes node
there_at nodes node place at =
    let p = part_at (λ (n : Entry). n.id.0) nodes place node.id.0 at in
    let named : ℕ → NodeId = λ n. record { 0 = n } in
    (p.0, contains_at nodes place p.0 p.1, ap named p.2)

pub there_if : (nodes : List Entry) (node : Entry) (o : Option ℕ) → IfSome o (λ place. slice_get (ids_of nodes) place ≡ Some node.id.0) → is_some o ≡ true → HasNodeOf nodes node
there_if nodes node (Some place) at is = there_at nodes node place at
there_if nodes node None at is = absurd (false≢true is)

module _ (IsSo : Entry → Type 0) where
  pub told_none : (ids : List NodeId) → AreTold IsSo [] ids ids
  told_none ids = record { still = λ id h. h; each = λ node h. absurd (nothing_in node h) }

  -- a node of which it is so needs no telling
  pub told_so : (node : Entry) (ids : List NodeId) → IsSo node → AreTold IsSo (node ∷ []) ids ids
  told_so node ids so = record { still = λ id h. h; each = λ other h. inr (subst IsSo (Contains-one node other h) so) }

  pub told_pushed : (node : Entry) (ids : List NodeId) → AreTold IsSo (node ∷ []) ids (ids ++ node.id ∷ [])
  told_pushed node ids = record {
    still = λ id h. Contains-append_left ids (node.id ∷ []) id h;
    each = λ other h. inl (subst (λ (n : Entry). Contains (ids ++ node.id ∷ []) n.id) (Contains-one node other h) (Contains-push ids node.id));
  }

  -- one node more
  pub told_more : (nodes : List Entry) (i : ℕ) (node : Entry) (old ids more : List NodeId) → i < length nodes → node ≡ get_or nodes i node
      → AreTold IsSo (take i nodes) old ids → AreTold IsSo (node ∷ []) ids more → AreTold IsSo (take (i + 1) nodes) old more
  told_more nodes i node old ids more within is first next = record {
    still = λ id h. next.still id (first.still id h);
    each = λ other h. ⊎_elim
        (λ (earlier : Contains (take i nodes) other). ⊎_elim (λ (there : Contains ids other.id). inl (next.still other.id there)) (λ so. inr so) (first.each other earlier))
        (λ (here : node ≡ other). subst (λ (n : Entry). Contains more n.id ⊎ IsSo n) here (next.each node (Contains-push [] node)))
        (Contains-push_cases (take i nodes) node other (subst (λ (ns : List Entry). Contains ns other) (front_more nodes i node within is) h));
  }

-- where both are told, with the own node, in whatever order
pub all_told : (own : NodeId) (before after : List Entry) (first gone both ids : List NodeId) → Contains first own → AreTold (HasNodeOf after) before first gone
    → AreTold (SaidSame before) after gone both → ((id : NodeId) → Contains ids id ↔ Contains both id) → AreChanged own before after ids
all_told own before after first gone both ids here told_gone told_other same = record {
  own_is_there = (same own).1 (told_other.still own (told_gone.still own here));
  gone = λ was h. ⊎_elim (λ (there : Contains gone was.id). inl ((same was.id).1 (told_other.still was.id there))) (λ so. inr so) (told_gone.each was h);
  other = λ node h. ⊎_elim (λ (there : Contains both node.id). inl ((same node.id).1 there)) (λ so. inr so) (told_other.each node h);
}

-- one node alone stands in order
pub one_ascends : (id : NodeId) → IsStrictlySortedBy node_cmp (id ∷ [])
one_ascends id = sorted_cons node_cmp id [] (λ y h. absurd (nothing_in y h)) (sorted_none node_cmp)
