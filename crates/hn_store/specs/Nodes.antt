-- The nodes that a table holds: a finite map by node identifier, as the list of its entries in ascending order.
use Rattle.std.specs.Prelude.{◌≡◌, ◌⊎◌, ◌≤◌, ℕ, List, ◌∷◌, ◌++◌, ◌==◌, nat_lt, map, filter, find, length, Option, All}
use Rattle.std.specs.Option.{option_map}
use Rattle.std.specs.Ordering.{nat_cmp}
use Rattle.std.specs.List.Sorted.{IsStrictlySortedBy}
use Rattle.hn_tlv.specs.Grammar.{HasTlvs}
use Rattle.hn_hash.specs.Hash.{hash_of}
use Rattle.hn_hash.specs.declared.part.Part.{Part}
use Rattle.hn_store.specs.declared.stored.Stored.{Stored}
use Rattle.hn_store.specs.declared.stored.HeldNode.{HeldNode}

-- the nodes, and how many of them there may be
pub record Nodes : Type 0 where
  pub limit : ℕ
  pub entries : List HeldNode

-- the identifiers of the nodes, in their order
abbrev pub ids_of_held : List HeldNode → List ℕ
ids_of_held entries = map (λ node. node.id.0) entries

-- what is held of the node with this identifier, if it is held
abbrev pub held : List HeldNode → ℕ → Option Stored
held entries id = option_map (λ node. node.stored) (find (λ node. node.id.0 == id) entries)

-- the sequence number and the hash of the node data in what is held of a node
abbrev pub stored_part : Stored → Part
stored_part stored = record { number = stored.number; hash = stored.hash }

-- a node with what is held of it
abbrev pub entry : ℕ → Stored → HeldNode
entry id stored = record { id = record { 0 = id }; stored = stored }

-- the entries with this one, at its place in the order, in place of what was held of the node
abbrev pub put : ℕ → Stored → List HeldNode → List HeldNode
put id stored entries =
    filter (λ node. nat_lt node.id.0 id) entries ++ entry id stored ∷ filter (λ node. nat_lt id node.id.0) entries

-- The node data are a list of TLVs of at most 60,000 bytes, and the hash is theirs.
pub record IsIntact (stored : Stored) : Type 0 where
  pub short : length stored.body ≤ 60000
  pub listed : HasTlvs stored.body
  pub hashed : stored.hash ≡ hash_of stored.body

-- A table holds at most 256 or at most 1,024 nodes, in ascending order of their identifiers, each once.
pub record IsTable (nodes : Nodes) : Type 0 where
  pub limit_is : (nodes.limit ≡ 256) ⊎ (nodes.limit ≡ 1024)
  pub within : length nodes.entries ≤ nodes.limit
  pub ascending : IsStrictlySortedBy nat_cmp (ids_of_held nodes.entries)
  pub intact : All (λ node. IsIntact node.stored) nodes.entries
