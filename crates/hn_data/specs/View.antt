-- What a router sees of the network: the reachable nodes.
use Rattle.std.specs.Prelude.{ℕ, List, map, Contains}
use Rattle.std.specs.Ordering.{nat_cmp}
use Rattle.std.specs.List.Sorted.{IsStrictlySortedBy}
use Rattle.hn_data.specs.declared.view.Entry.{Entry}
use Rattle.hn_data.specs.declared.view.View.{View}

-- a view without where it lies in memory
pub record PlainView : Type 0 where
  pub own : ℕ
  pub now : ℕ
  pub nodes : List Entry

abbrev pub plain_view : View → PlainView
plain_view view = record { own = view.own.0; now = view.now; nodes = view.nodes.now }

-- the identifiers of nodes
abbrev pub ids_of : List Entry → List ℕ
ids_of nodes = map (λ n. n.id.0) nodes

-- the identifiers are strictly ascending, and this one is among them
pub record IsNetwork (own : ℕ) (nodes : List Entry) : Type 0 where
  pub ascending : IsStrictlySortedBy nat_cmp (ids_of nodes)
  pub own_is_there : Contains (ids_of nodes) own
