use Rattle.hn_rules.proofs.Hashed.{router_hashed, each_hashed}
use Rattle.hn_rules.proofs.laws.changes_keep_hashed.Goals as goal

pub returns : goal.returns
returns c = record {
  router = router_hashed c.hash_has_eight_bytes.ensures;
  each = each_hashed c.changes_keep_the_rest.ensures c.hash_has_eight_bytes.ensures;
}
