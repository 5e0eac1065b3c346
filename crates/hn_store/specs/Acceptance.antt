-- What comes of a node state that arrives (RFC 7787, section 4.4).
use Rattle.std.specs.Prelude.{◌≡◌, ◌≢◌, ◌⊎◌, ◌<◌, ℕ, List, [], ◌==◌, if◌then◌else◌, length, Option, Some, None}
use Rattle.std.specs.Option.{option_map, option_and_then}
use Rattle.hn_base.specs.Causes.{LineElse}
use Rattle.hn_base.specs.Order.{IsOlder}
use Rattle.hn_tlv.specs.Grammar.{HasTlvs}
use Rattle.hn_hash.specs.Hash.{hash_of}
use Rattle.hn_hash.specs.declared.part.Part.{Part}
use Rattle.hn_store.specs.declared.stored.Stored.{Stored}
use Rattle.hn_store.specs.declared.stored.HeldNode.{HeldNode}
use Rattle.hn_store.specs.declared.state.State.{State}
use Rattle.hn_store.specs.declared.state.OwnLeaf.{OwnLeaf}
use Rattle.hn_store.specs.declared.state.Took.{Took}
use Rattle.hn_store.specs.declared.state.Took.TheVariants.{Kept, Renumbered, Ask, Stale, BadHash, BadBody, TooLong, Full, Own}
use Rattle.hn_store.specs.Nodes.{Nodes, stored_part, held, put}

-- a node state without where its data lie in memory
pub record PlainState : Type 0 where
  pub node : ℕ
  pub number : ℕ
  pub age : ℕ
  pub hash : List ℕ
  pub body : List ℕ

abbrev pub plain_state : State → PlainState
plain_state s = record { node = s.node.0; number = s.number; age = s.age; hash = s.hash; body = s.body.now }

-- the sequence number and the hash of the node data that are held of a node
abbrev pub held_part : List HeldNode → ℕ → Option Part
held_part entries id = option_map stored_part (held entries id)

-- those that are known of a node: the router's own, or those held
abbrev pub known_of : List HeldNode → OwnLeaf → ℕ → Option Part
known_of entries own id = if id == own.id.0 then Some (record { number = own.number; hash = own.hash }) else held_part entries id

-- A state carries data where there are bytes, or where its hash is that of no bytes.
abbrev pub CarriesData : PlainState → Type 0
CarriesData s = (s.body ≢ []) ⊎ (s.hash ≡ hash_of [])

-- It carries data that have another hash than it says.
abbrev pub HasWrongHash : PlainState → Type 0
HasWrongHash s = CarriesData s × (hash_of s.body ≢ s.hash)

-- A number is known, it is not older than that of the state, and it is not the same number with another hash.
abbrev pub IsStale : Option Part → PlainState → Type 0
IsStale None s = ⊥
IsStale (Some known) s = ¬ (IsOlder known.number s.number) × ¬ ((known.number ≡ s.number) × (known.hash ≢ s.hash))

-- Nothing is known of the node, and as many nodes are held as there may be.
abbrev pub HasNoRoom : Nodes → Option Part → Type 0
HasNoRoom nodes known = (known ≡ None) × (length nodes.entries ≡ nodes.limit)

-- Nothing is known of the node, or another hash.
abbrev pub IsNews : Option Part → PlainState → Type 0
IsNews None s = Unit {0}
IsNews (Some known) s = known.hash ≢ s.hash

-- the answer to a node state, by the first line whose condition holds; that there is a limit for the nodes and for
-- their data is not the standard's
unfoldable pub IsAnswer : Nodes → OwnLeaf → PlainState → Took → Type 0
IsAnswer nodes own s took =
    let known = known_of nodes.entries own s.node in
    LineElse (IsStale known s) (took ≡ Stale)
    (LineElse (HasNoRoom nodes known) (took ≡ Full)
    (LineElse (60000 < length s.body) (took ≡ TooLong)
    (LineElse (HasWrongHash s) (took ≡ BadHash)
    (LineElse (s.node ≡ own.id.0) (took ≡ Own)
    (LineElse (CarriesData s × ¬ (HasTlvs s.body)) (took ≡ BadBody)
    (LineElse (CarriesData s) (took ≡ Kept)
    (LineElse (IsNews known s) (took ≡ Ask)
    (took ≡ Renumbered))))))))

-- what a state with data puts in place of what was held of its node; a moment of loss stays
abbrev pub stored_from : PlainState → ℕ → Option Stored → Stored
stored_from s now before =
    record { number = s.number; hash = s.hash; age = s.age; at = now; body = s.body; lost = option_and_then (λ stored. stored.lost) before }

-- the same data with the number and the age of the state
abbrev pub stored_renumbered : PlainState → ℕ → Stored → Stored
stored_renumbered s now stored = record stored { number = s.number; age = s.age; at = now }

-- the entries with what is held of a node changed so
abbrev pub entries_changed : ℕ → (Stored → Stored) → Option Stored → List HeldNode → List HeldNode
entries_changed id change None entries = entries
entries_changed id change (Some stored) entries = put id (change stored) entries

-- the entries after an answer: only data that are kept and a new number change them
abbrev pub entries_after : List HeldNode → PlainState → ℕ → Took → List HeldNode
entries_after entries s now Kept = put s.node (stored_from s now (held entries s.node)) entries
entries_after entries s now Renumbered = entries_changed s.node (stored_renumbered s now) (held entries s.node) entries
entries_after entries s now _ = entries

-- A node state arrives at a moment: the answer, and what is held after it.
pub record Accepts (nodes : Nodes) (own : OwnLeaf) (s : PlainState) (now : ℕ) (next : Nodes) (took : Took) : Type 0 where
  pub answer : IsAnswer nodes own s took
  pub after : next ≡ record nodes { entries = entries_after nodes.entries s now took }
