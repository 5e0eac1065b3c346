-- Laws of the table and of what comes of a node state.
use Rattle.std.specs.Prelude.{◌≡◌, ◌≢◌, ◌⊎◌, ◌↔◌, ℕ, ◌≤◌, ◌==◌, if◌then◌else◌, true, false, List, [], None, Some, Contains}
use Rattle.std.specs.List.{list_any}
use Rattle.hn_store.specs.declared.stored.Stored.{Stored}
use Rattle.hn_store.specs.declared.stored.HeldNode.{HeldNode}
use Rattle.hn_store.specs.declared.state.OwnLeaf.{OwnLeaf}
use Rattle.hn_store.specs.declared.state.Took.{Took}
use Rattle.hn_store.specs.declared.state.Took.TheVariants.{Kept}
use Rattle.hn_base.specs.declared.ids.NodeId.{NodeId}
use Rattle.hn_store.specs.Nodes.{Nodes, held, put, IsTable}
use Rattle.hn_store.specs.Acceptance.{PlainState, entries_after, Accepts}
use Rattle.hn_store.specs.Loss.{loss_marked, is_forgotten, remembered}
use Rattle.hn_store.specs.Due.{IsForgetting}
use Rattle.hn_store.specs.Brought.{WasHeld, BroughtData, BroughtNumber, IsTrueData}

-- To put an entry changes what is held of its node, and of no other.
abbrev pub PutChangesOneNode : Type 0
PutChangesOneNode =
    (entries : List HeldNode) (id other : ℕ) (stored : Stored)
    → held (put id stored entries) other ≡ (if other == id then Some stored else held entries other)

-- What is held of a node is what one of the entries holds of it.
abbrev pub HeldIsOfAnEntry : Type 0
HeldIsOfAnEntry =
    (entries : List HeldNode) (id : ℕ) (stored : Stored) → held entries id ≡ Some stored
    → (node : HeldNode) × Contains entries node × (node.id.0 ≡ id) × (node.stored ≡ stored)

-- What comes of a node state is determined.
abbrev pub AcceptanceIsUnique : Type 0
AcceptanceIsUnique =
    (nodes : Nodes) (own : OwnLeaf) (s : PlainState) (now : ℕ) (m n : Nodes) (took other : Took)
    → Accepts nodes own s now m took → Accepts nodes own s now n other → (m ≡ n) × (took ≡ other)

-- Each node state has an answer, and there is a table after it.
abbrev pub AcceptanceExists : Type 0
AcceptanceExists =
    (nodes : Nodes) (own : OwnLeaf) (s : PlainState) (now : ℕ) → (next : Nodes) × (took : Took) × Accepts nodes own s now next took

-- What is held of the nodes that a state is not of stays.
abbrev pub OthersStay : Type 0
OthersStay =
    (nodes : Nodes) (own : OwnLeaf) (s : PlainState) (now : ℕ) (next : Nodes) (took : Took) (id : ℕ)
    → Accepts nodes own s now next took → id ≢ s.node → held next.entries id ≡ held nodes.entries id

-- Nothing is taken for the router's own identifier.
abbrev pub OwnStays : Type 0
OwnStays =
    (nodes : Nodes) (own : OwnLeaf) (s : PlainState) (now : ℕ) (next : Nodes) (took : Took)
    → Accepts nodes own s now next took → held next.entries own.id.0 ≡ held nodes.entries own.id.0

-- No nodes are a table.
abbrev pub NoNodesAreTable : Type 0
NoNodesAreTable = (limit : ℕ) → (limit ≡ 256) ⊎ (limit ≡ 1024) → IsTable (record { limit = limit; entries = [] })

-- Whatever comes of a node state, a table stays one.
abbrev pub AcceptanceKeepsTable : Type 0
AcceptanceKeepsTable =
    (nodes : Nodes) (own : OwnLeaf) (s : PlainState) (now : ℕ) (next : Nodes) (took : Took)
    → IsTable nodes → Accepts nodes own s now next took → IsTable next

-- A table stays one when its nodes are marked, and when some are forgotten.
abbrev pub MarksKeepTable : Type 0
MarksKeepTable = (reach : List NodeId) (now : ℕ) (nodes : Nodes) → IsTable nodes → IsTable (loss_marked reach now nodes)

abbrev pub ForgettingKeepsTable : Type 0
ForgettingKeepsTable = (now : ℕ) (nodes : Nodes) → IsTable nodes → IsTable (remembered now nodes)

-- What is held after a node state was held before, or the state brought it.
abbrev pub HeldWasBrought : Type 0
HeldWasBrought =
    (nodes : Nodes) (own : OwnLeaf) (s : PlainState) (now : ℕ) (next : Nodes) (took : Took) (id : ℕ) (stored : Stored)
    → Accepts nodes own s now next took → held next.entries id ≡ Some stored
    → WasHeld nodes id stored
    ⊎ ((id ≡ s.node) × (stored.number ≡ s.number) × (BroughtData s stored ⊎ BroughtNumber nodes s stored))

-- Marks and forgetting leave number and data of what is still held.
abbrev pub MarkedWasHeld : Type 0
MarkedWasHeld =
    (reach : List NodeId) (now : ℕ) (nodes : Nodes) (id : ℕ) (stored : Stored)
    → held (loss_marked reach now nodes).entries id ≡ Some stored → WasHeld nodes id stored

abbrev pub RememberedWasHeld : Type 0
RememberedWasHeld =
    (now : ℕ) (nodes : Nodes) (id : ℕ) (stored : Stored) → IsTable nodes
    → held (remembered now nodes).entries id ≡ Some stored → WasHeld nodes id stored

-- Node data of another node that are newer are held, where there is room and they have the hash that their state says.
abbrev pub TrueDataAreKept : Type 0
TrueDataAreKept =
    (nodes : Nodes) (own : OwnLeaf) (s : PlainState) (now : ℕ) → IsTrueData nodes own s
    → Accepts nodes own s now (record nodes { entries = entries_after nodes.entries s now Kept }) Kept

-- Some node is forgotten from one moment on.
abbrev pub ForgettingIsAMoment : Type 0
ForgettingIsAMoment =
    (now : ℕ) (entries : List HeldNode)
    → (list_any (is_forgotten now) entries ≡ true) ↔ ((m : ℕ) × IsForgetting entries m × (m ≤ now))

-- Forgetting changes nothing if and only if no node is forgotten.
abbrev pub NoneIsForgotten : Type 0
NoneIsForgotten =
    (now : ℕ) (nodes : Nodes) → (remembered now nodes ≡ nodes) ↔ (list_any (is_forgotten now) nodes.entries ≡ false)

-- What is held of a node that is not lost is not forgotten.
abbrev pub UnlostStay : Type 0
UnlostStay =
    (now : ℕ) (nodes : Nodes) (id : ℕ) (stored : Stored) → held nodes.entries id ≡ Some stored → stored.lost ≡ None
    → held (remembered now nodes).entries id ≡ Some stored
