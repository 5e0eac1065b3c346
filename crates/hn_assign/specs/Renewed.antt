-- How an index of advertised prefixes is renewed from one of what a router saw before.
use Rattle.std.specs.Prelude.{◌≡◌, ◌≢◌, ℕ, ◌⊎◌, ◌↔◌, List, Contains}
use Rattle.std.specs.List.Sorted.{IsStrictlySortedBy}
use Rattle.std.specs.Ordering.{nat_cmp}
use Rattle.hn_base.specs.declared.ids.NodeId.{NodeId}
use Rattle.hn_data.specs.View.{PlainView, ids_of}
use Rattle.hn_data.specs.declared.view.Entry.{Entry}
use Rattle.hn_assign.specs.Gathered.{IsOfOther, IsOwn, AreAdvertised}
use Rattle.hn_assign.specs.declared.advertised.Advertised.{Advertised}
use Rattle.hn_pair.specs.declared.assigned.Assigned.{Assigned}

-- of other nodes than the own one the list has what these nodes advertise
abbrev pub HasOfOthers : ℕ → List Entry → List Advertised → Type 0
HasOfOthers own nodes known =
    (a : Advertised) → a.key.node.0 ≢ own → Contains known a ↔ ((entry : Entry) × Contains nodes entry × IsOfOther own entry a)

-- of nodes that are none of the changed ones the list has what these nodes advertise
abbrev pub HasOfUnchanged : ℕ → List Entry → List NodeId → List Advertised → Type 0
HasOfUnchanged own nodes changed known =
    (a : Advertised) → ¬ (Contains changed a.key.node) → Contains known a ↔ ((entry : Entry) × Contains nodes entry × IsOfOther own entry a)

-- a node that is one of these advertises it
pub record IsOfChanged (own : ℕ) (changed : List NodeId) (entry : Entry) (a : Advertised) : Type 0 where
  pub is_changed : Contains changed entry.id
  pub of_other : IsOfOther own entry a

-- a node that is none of these advertises it
pub record IsOfUnchanged (changed : List NodeId) (known a : Advertised) : Type 0 where
  pub is : known ≡ a
  pub node : ¬ (Contains changed a.key.node)

-- one of these nodes advertises it, or the router itself
abbrev pub IsAnew : PlainView → List NodeId → List Assigned → Advertised → Type 0
IsAnew view changed assigned a =
    ((entry : Entry) × Contains view.nodes entry × IsOfChanged view.own changed entry a)
    ⊎ ((c : Assigned) × Contains assigned c × IsOwn view.own c a)

-- an index of what a router sees and holds, which sees these nodes in ascending order of their identifiers
pub record IsKept (own : ℕ) (nodes : List Entry) (assigned : List Assigned) (index : List Advertised) : Type 0 where
  pub ascending : IsStrictlySortedBy nat_cmp (ids_of nodes)
  pub advertised : AreAdvertised (record { own = own; now = 0; nodes = nodes }) assigned index
