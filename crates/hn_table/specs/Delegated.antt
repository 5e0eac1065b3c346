-- The delegated prefixes that a router knows of, what becomes of each, and those that it uses.
use Rattle.std.specs.Prelude.{◌≡◌, ◌↔◌, ℕ, not, List, [], ◌∷◌, ◌++◌, codes, filter, Contains}
use Rattle.std.specs.Fmt.{decimal}
use Rattle.hn_base.specs.declared.ids.NodeId.{NodeId}
use Rattle.hn_data.specs.Delegations.{HasDelegation, HasDelegations}
use Rattle.hn_data.specs.View.{PlainView}
use Rattle.hn_data.specs.declared.said.Delegation.{Delegation}
use Rattle.hn_data.specs.declared.view.Entry.{Entry}
use Rattle.hn_deleg.specs.Used.{whole_seconds}
use Rattle.hn_deleg.specs.declared.delegated.Delegated.{Delegated}
use Rattle.hn_prefix.specs.PrefixText.{prefix_text_of}
use Rattle.hn_store.specs.Loss.{is_among}
use Rattle.hn_store.specs.declared.stored.HeldNode.{HeldNode}
use Rattle.hn_table.specs.Fate.{IsFate}
use Rattle.hn_table.specs.FateText.{delegated_line}
use Rattle.hn_table.specs.InOrder.{InOrder}
use Rattle.hn_table.specs.declared.fate.Fate.{Fate}
use Rattle.hn_table.specs.declared.fate.Fate.TheVariants.{Unreachable}

-- a line for each delegated prefix that node data have, in their order, and for each as often as it stands there
pub record AreSaidLines (IsLine : Delegation → List ℕ → Type 0) (body text : List ℕ) : Type 0 where
  pub said : List Delegation
  pub are_said : HasDelegations body said
  pub exact : (d : Delegation) → Contains said d ↔ HasDelegation body d
  pub lines : InOrder IsLine said text

-- the line of a delegated prefix of a node that the router sees
abbrev pub IsFateLine : PlainView → List Delegated → Entry → Delegation → List ℕ → Type 0
IsFateLine view used node d text = (fate : Fate) × IsFate view used node d fate × (text ≡ delegated_line node.id d fate)

-- the lines of a node that the router sees, and of all of them
abbrev pub AreSeenLines : PlainView → List Delegated → Entry → List ℕ → Type 0
AreSeenLines view used node text = AreSaidLines (IsFateLine view used node) node.body text

abbrev pub AreAllSeenLines : PlainView → List Delegated → List ℕ → Type 0
AreAllSeenLines view used text = InOrder (AreSeenLines view used) view.nodes text

-- the lines of a held node that is not reachable, and of all of them
abbrev pub AreUnseenLines : HeldNode → List ℕ → Type 0
AreUnseenLines node text = AreSaidLines (λ d line. line ≡ delegated_line node.id d Unreachable) node.stored.body text

abbrev pub AreAllUnseenLines : List NodeId → List HeldNode → List ℕ → Type 0
AreAllUnseenLines reach nodes text = InOrder AreUnseenLines (filter (λ node. not (is_among reach node.id.0)) nodes) text

-- a delegated prefix that is used, with what is left of its lifetimes in seconds
abbrev pub used_line : Delegated → List ℕ
used_line d =
    codes "used " ++ prefix_text_of d.prefix ++ codes " valid=" ++ decimal (whole_seconds d.valid)
    ++ codes " preferred=" ++ decimal (whole_seconds d.preferred) ++ 10 ∷ []
