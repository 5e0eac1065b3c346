use Rattle.hn_rules.proofs.SomeWishes.{wishes_exist}
use Rattle.hn_rules.proofs.laws.wishes_exist.Goals as goal

pub returns : goal.returns
returns c = wishes_exist (record {
  usable = c.usable_exists.ensures;
  prefixes = c.usable_are_prefixes.ensures;
  links = c.common_link_exists.ensures;
  one_link = c.common_link_is_unique.ensures;
  pairs_total = c.pairs_are_ordered.ensures.total;
  pairs_exact = c.pairs_are_ordered.ensures.exact;
  network = c.view_is_a_network.ensures;
})
