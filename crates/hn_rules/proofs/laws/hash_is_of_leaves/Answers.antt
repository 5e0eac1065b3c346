use Rattle.hn_rules.proofs.Leaves.{hash_of_leaves}
use Rattle.hn_rules.proofs.laws.hash_is_of_leaves.Goals as goal

pub returns : goal.returns
returns c = hash_of_leaves c.held_is_of_an_entry.ensures
