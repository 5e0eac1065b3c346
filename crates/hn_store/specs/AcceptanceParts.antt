-- Parts of what comes of a node state.
use Rattle.std.specs.Prelude.{◌≡◌, ◌⊎◌, ◌≤◌, length, Option}
use Rattle.hn_base.specs.Causes.{LineElse}
use Rattle.hn_tlv.specs.Grammar.{HasTlvs}
use Rattle.hn_hash.specs.Hash.{hash_of}
use Rattle.hn_hash.specs.declared.part.Part.{Part}
use Rattle.hn_store.specs.declared.state.OwnLeaf.{OwnLeaf}
use Rattle.hn_store.specs.declared.state.Took.{Took}
use Rattle.hn_store.specs.declared.state.Took.TheVariants.{Kept, Renumbered, Ask, BadBody}
use Rattle.hn_store.specs.Nodes.{Nodes}
use Rattle.hn_store.specs.Acceptance.{PlainState, known_of, CarriesData, IsStale, HasNoRoom, IsNews}

-- none of the first three lines holds
pub record IsPassed (nodes : Nodes) (own : OwnLeaf) (s : PlainState) : Type 0 where
  pub fresh : ¬ (IsStale (known_of nodes.entries own s.node) s)
  pub room : ¬ (HasNoRoom nodes (known_of nodes.entries own s.node))
  pub short : length s.body ≤ 60000

-- the data that a state carries have the hash that it says
abbrev pub HasRightHash : PlainState → Type 0
HasRightHash s = CarriesData s → hash_of s.body ≡ s.hash

-- what comes of data that have the hash that their state says
abbrev pub IsOfData : PlainState → Took → Type 0
IsOfData s took = (¬ (HasTlvs s.body) × (took ≡ BadBody)) ⊎ (HasTlvs s.body × (took ≡ Kept))

-- what comes of a state without data
abbrev pub IsOfNumber : Option Part → PlainState → Took → Type 0
IsOfNumber known s took = LineElse (IsNews known s) (took ≡ Ask) (took ≡ Renumbered)
