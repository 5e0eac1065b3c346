use Rattle.hn_plain.proofs.PlainLaws.{PlainLaws}
use Rattle.hn_plain.proofs.WhatIsSaid.{says_its_items}
use Rattle.hn_plain.proofs.WhatIsSeen.{advertises_the_same, sees_the_same_free, links_the_same}
use Rattle.hn_plain.proofs.WhatIsUsed.{uses_the_same, wants_the_same}
use Rattle.hn_plain.proofs.WhatRests.{rests_alike}
use Rattle.hn_plain.proofs.laws.plain_routers_are_the_same.Goals as goal

pub returns : goal.returns
returns c =
    let laws : PlainLaws = record {
      one_item = c.item_is_unique.ensures;
      no_item = c.item_fault_is_unique.ensures.no_item;
      item_or_fault = c.item_or_fault.ensures;
      usable = c.usable_exists.ensures;
      one_usable = c.usable_is_unique.ensures;
      prefixes = c.usable_are_prefixes.ensures;
      preferred = c.used_by_candidates.ensures.preferred;
      ranges = c.prefixes_are_ranges.ensures.within;
      overlaps = c.prefixes_are_ranges.ensures.overlap;
      advertised = c.advertised_exists.ensures;
      best = c.lines_exclude_each_other.ensures.best;
      pairs_total = c.pairs_are_ordered.ensures.total;
      pairs_exact = c.pairs_are_ordered.ensures.exact;
      network = c.view_is_a_network.ensures;
      entries = c.entries_are_as_known.ensures;
      wishes = c.wishes_exist.ensures;
    } in
    record {
      said = says_its_items laws;
      used = uses_the_same laws;
      wanted = wants_the_same laws;
      linked = links_the_same laws;
      advertised = advertises_the_same laws;
      free = sees_the_same_free laws;
      rest = rests_alike laws;
    }
