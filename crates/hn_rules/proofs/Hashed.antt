-- The network state hash of a router is one.
use Rattle.hn_base.proofs.Names.{sym, subst}
use Rattle.hn_rules.proofs.Names.{HashHasEightBytes, IsHash, PutHash, ChangesKeepWell, ChangesKeepHashed}
use Rattle.hn_rules.specs.Laws.{RouterIsHashed}

pub router_hashed : HashHasEightBytes → RouterIsHashed
router_hashed eight s router = record { well = router.well; hash = subst IsHash (sym router.refreshed.hashed) (eight _) }

pub each_hashed : ChangesKeepWell → HashHasEightBytes → ChangesKeepHashed
each_hashed keeps eight tlvs PutHash r is hashed = record { well = keeps tlvs PutHash r is hashed.well; hash = eight _ }
each_hashed keeps eight tlvs c r is hashed = record { well = keeps tlvs c r is hashed.well; hash = hashed.hash }
