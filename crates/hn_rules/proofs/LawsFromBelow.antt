-- The laws of the crates below that the laws of the router stand on.
use Rattle.hn_base.proofs.Names.{◌≡◌, ℕ, List, Some, subst, All, All-contains}
use Rattle.hn_rules.proofs.Names.{held, HeldIsOfAnEntry, NoNodesAreTable, Stored, HeldNode}
use Rattle.hn_dncp.specs.Laws.{MeetingKeepsPeers, ContactKeepsPeers}
use Rattle.hn_store.specs.Laws.{OwnStays, AcceptanceKeepsTable, MarksKeepTable, ForgettingKeepsTable}

pub record KnownLaws : Type 0 where
  pub peers_met : MeetingKeepsPeers
  pub peers_contacted : ContactKeepsPeers
  pub held_of_entry : HeldIsOfAnEntry
  pub accepts : AcceptanceKeepsTable
  pub own : OwnStays
  pub none : NoNodesAreTable
  pub marks : MarksKeepTable
  pub forgetting : ForgettingKeepsTable

-- what holds of each entry holds of the one that is held
pub held_all : HeldIsOfAnEntry → (P : Stored → Type 0) (entries : List HeldNode) (id : ℕ) (stored : Stored) → All (λ node. P node.stored) entries → held entries id ≡ Some stored → P stored
held_all held_of_entry P entries id stored all is =
    let found = held_of_entry entries id stored is in
    subst P found.3 (All-contains (λ (node : HeldNode). P node.stored) entries found.0 all found.1)
