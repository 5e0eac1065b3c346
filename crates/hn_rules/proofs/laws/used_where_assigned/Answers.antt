use Rattle.hn_rules.proofs.Announcing.{AnnouncingLaws}
use Rattle.hn_rules.proofs.NothingKeptIsDue.{CalmLaws}
use Rattle.hn_rules.proofs.LawDelegated.{DelegationLaws}
use Rattle.hn_rules.proofs.LawPublished.{ReadLaws}
use Rattle.hn_rules.proofs.UsedLemmas.{used_where_assigned}
use Rattle.hn_rules.proofs.laws.used_where_assigned.Goals as goal

pub returns : goal.returns
returns c =
    let calm : CalmLaws = record {
      reach = c.reachability_stays.ensures;
      ending = c.ending_leaves.ensures;
      one_expiry = c.rules_have_one_result.ensures.expiry;
      one_refresh = c.rules_have_one_result.ensures.refresh;
    } in
    let read : ReadLaws = record {
      of_bytes = c.list_is_of_bytes.ensures;
      same_begin = c.spelling_is_prefix_free.ensures;
      same_item = c.item_is_unique.ensures;
      written_is_item = c.written_is_read.ensures;
      one_items = c.items_are_unique.ensures;
    } in
    let said : DelegationLaws = record {
      read = read;
      one_list = c.list_is_unique.ensures;
      no_fault = c.item_fault_is_unique.ensures.no_item;
      item_or_fault = c.item_or_fault.ensures;
    } in
    let announcing : AnnouncingLaws = record { said = said; known = c.held_is_of_an_entry.ensures; follows = c.reachability_follows.ensures } in
    used_where_assigned (record {
      calm = calm;
      announcing = announcing;
      used = c.used_by_candidates.ensures.used;
      preferred = c.used_by_candidates.ensures.preferred;
      was = c.used_by_candidates.ensures.was;
      later = c.router_stays_later.ensures;
      forgetting = c.rules_keep_a_router.ensures.forgetting;
      assigning = c.rules_keep_the_rest.ensures.assigning;
      refreshing = c.refresh_makes_a_router.ensures;
      ticking = c.rules_keep_a_router.ensures.ports;
    })
