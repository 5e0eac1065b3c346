use Rattle.hn_rules.proofs.Shorts.{each_short}
use Rattle.hn_rules.proofs.laws.changes_keep_short.Goals as goal

pub returns : goal.returns
returns c = each_short c.changes_keep_hashed.ensures.each c.held_is_of_an_entry.ensures c.hash_has_eight_bytes.ensures c.packing_is_short.ensures
