use Rattle.hn_plain.proofs.PlainLaws.{PlainLaws}
use Rattle.hn_plain.proofs.WhoIsSettled.{settled_alike, quiet_alike}
use Rattle.hn_plain.proofs.WhoIsSound.{sound_alike}
use Rattle.hn_plain.proofs.laws.plain_homes_are_the_same.Goals as goal

pub returns : goal.returns
returns c =
    let laws : PlainLaws = record {
      one_item = c.item_is_unique.ensures;
      no_item = c.item_fault_is_unique.ensures.no_item;
      item_or_fault = c.item_or_fault.ensures;
      usable = c.usable_exists.ensures;
      one_usable = c.usable_is_unique.ensures;
      prefixes = c.usable_are_prefixes.ensures;
      preferred = c.used_by_candidates.ensures.preferred;
      ranges = c.prefixes_are_ranges.ensures.within;
      overlaps = c.prefixes_are_ranges.ensures.overlap;
      advertised = c.advertised_exists.ensures;
      best = c.lines_exclude_each_other.ensures.best;
      pairs_total = c.pairs_are_ordered.ensures.total;
      pairs_exact = c.pairs_are_ordered.ensures.exact;
      network = c.view_is_a_network.ensures;
      entries = c.entries_are_as_known.ensures;
      wishes = c.wishes_exist.ensures;
    } in
    let routers = c.always_sound.ensures.sound in
    record { settled = settled_alike laws routers; quiet = quiet_alike laws routers; sound = sound_alike laws routers c.settled_elect_alike.ensures.now }
