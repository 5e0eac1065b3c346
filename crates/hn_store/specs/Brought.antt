-- What a node state brings, and what was held before.
use Rattle.std.specs.Prelude.{◌≡◌, ◌≢◌, ◌≤◌, ℕ, [], length, None, Some}
use Rattle.hn_tlv.specs.Grammar.{HasTlvs}
use Rattle.hn_hash.specs.Hash.{hash_of}
use Rattle.hn_store.specs.declared.stored.Stored.{Stored}
use Rattle.hn_store.specs.declared.state.OwnLeaf.{OwnLeaf}
use Rattle.hn_store.specs.Nodes.{Nodes, held}
use Rattle.hn_store.specs.Acceptance.{PlainState, held_part, CarriesData, IsStale}

-- what is held of a node was held of it, with the same number and node data
pub record WasHeld (nodes : Nodes) (id : ℕ) (stored : Stored) : Type 0 where
  pub before : Stored
  pub was : held nodes.entries id ≡ Some before
  pub number_is : stored.number ≡ before.number
  pub body_is : stored.body ≡ before.body

-- a state brought these data
pub record BroughtData (s : PlainState) (stored : Stored) : Type 0 where
  pub carries : CarriesData s
  pub hash_is : hash_of s.body ≡ s.hash
  pub body_is : stored.body ≡ s.body

-- or it brought a number alone, with the hash of the data that were held
pub record BroughtNumber (nodes : Nodes) (s : PlainState) (stored : Stored) : Type 0 where
  pub before : Stored
  pub was : held nodes.entries s.node ≡ Some before
  pub no_data : s.body ≡ []
  pub hash_is : before.hash ≡ s.hash
  pub body_is : stored.body ≡ before.body

-- a state of another node that is not stale, for which there is room, with data that have the hash that it says
pub record IsTrueData (nodes : Nodes) (own : OwnLeaf) (s : PlainState) : Type 0 where
  pub other : s.node ≢ own.id.0
  pub fresh : ¬ (IsStale (held_part nodes.entries s.node) s)
  pub room : held nodes.entries s.node ≡ None → length nodes.entries ≢ nodes.limit
  pub hash_is : hash_of s.body ≡ s.hash
  pub list : HasTlvs s.body
  pub short : length s.body ≤ 60000
