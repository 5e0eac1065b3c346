use Rattle.std.specs.Prelude.{◌≡◌, ℕ, ◌^◌, ◌<◌, List, ◌++◌, map, All}
use Rattle.std.specs.List.{flat_map}
use Rattle.std.specs.Int.{w32, to_be_bytes}
use Rattle.hn_hash.specs.Hash.{hash_of}
use Rattle.hn_hash.specs.declared.leaf.Leaf.{Leaf}
use Rattle.hn_hash.specs.declared.part.Part.{Part}

-- A leaf with the hash of its node data in place of the node data.
abbrev pub leaf_part : Leaf → Part
leaf_part leaf = record { number = leaf.number; hash = hash_of leaf.body }

-- Each part has the number of its leaf and the hash of that leaf's node data.
abbrev pub ArePartsOf : List Part → List Leaf → Type 0
ArePartsOf parts leaves = parts ≡ map leaf_part leaves

-- What a leaf adds to the hashed text: its sequence number in network byte order and the hash of its node data
-- (RFC 7787, section 4.1).
abbrev pub part_entry : Part → List ℕ
part_entry part = to_be_bytes w32 part.number ++ part.hash

abbrev pub leaf_entry : Leaf → List ℕ
leaf_entry leaf = part_entry (leaf_part leaf)

-- The text of parts.
abbrev pub part_text : List Part → List ℕ
part_text parts = flat_map part_entry parts

-- The text whose hash is the network state hash.
abbrev pub leaf_text : List Leaf → List ℕ
leaf_text leaves = flat_map leaf_entry leaves

-- The network state hash (RFC 7787, section 4.1).
abbrev pub network_hash : List Leaf → List ℕ
network_hash leaves = hash_of (leaf_text leaves)

-- The node data of the leaves.
abbrev pub bodies : List Leaf → List (List ℕ)
bodies leaves = map (λ leaf. leaf.body) leaves

-- Each of the sequence numbers has 32 bits.
abbrev pub AreNumbered : List Leaf → Type 0
AreNumbered leaves = All (λ leaf. leaf.number < 2 ^ 32) leaves
