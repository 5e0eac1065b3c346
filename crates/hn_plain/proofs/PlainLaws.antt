-- The laws of the crates below on which it rests that the plain definitions are the same.
use Rattle.hn_base.proofs.Names.{◌↔◌, ◌≤◌, IsTotalOrder, IsExact, PlainPrefix, IsPrefix, IsWithin, Overlaps, last_address}
use Rattle.hn_plain.proofs.Names.{pair_cmp}
use Rattle.hn_typed.specs.Laws.{ItemIsUnique, ItemHasNoFault, ItemOrFault}
use Rattle.hn_deleg.specs.Candidates.{PreferredIsAnnounced}
use Rattle.hn_deleg.specs.Laws.{UsableExists, UsableIsUnique, UsableArePrefixes}
use Rattle.hn_assign.specs.Laws.{AdvertisedExists, BestIsUnique}
use Rattle.hn_rules.specs.Laws.{ViewIsNetwork, EntriesAreAsKnown, WishesExist}

-- of node data and of what a router sees
pub record PlainLaws : Type 0 where
  pub one_item : ItemIsUnique
  pub no_item : ItemHasNoFault
  pub item_or_fault : ItemOrFault
  pub usable : UsableExists
  pub one_usable : UsableIsUnique
  pub prefixes : UsableArePrefixes
  pub preferred : PreferredIsAnnounced
  pub ranges : (p q : PlainPrefix) → IsPrefix p → IsPrefix q → IsWithin q p ↔ (p.bits ≤ q.bits) × (last_address q ≤ last_address p)
  pub overlaps : (p q : PlainPrefix) → IsPrefix p → IsPrefix q → Overlaps p q ↔ (p.bits ≤ last_address q) × (q.bits ≤ last_address p)
  pub advertised : AdvertisedExists
  pub best : BestIsUnique
  pub pairs_total : IsTotalOrder pair_cmp
  pub pairs_exact : IsExact pair_cmp
  pub network : ViewIsNetwork
  pub entries : EntriesAreAsKnown
  pub wishes : WishesExist
