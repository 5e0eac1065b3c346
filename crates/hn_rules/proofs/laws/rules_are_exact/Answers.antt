use Rattle.hn_base.proofs.ExactRules.{exact_by}
use Rattle.hn_rules.proofs.Names.{IsAttaching, words_taken, IsExpiry, IsPortsTick}
use Rattle.hn_rules.proofs.ExactRefreshes.{RefreshLaws, Well, Any, exact_refresh}
use Rattle.hn_rules.proofs.ExactArrivals.{ArrivalLaws, sole_arrival, total_arrival}
use Rattle.hn_rules.proofs.SomeWishes.{AskingLaws}
use Rattle.hn_rules.proofs.ExactTicks.{OneAssigningLaws, SendingLaws, TickLaws, exact_expiry, exact_assigning, exact_ports_tick, exact_tick, exact_attaching, exact_restarting}
use Rattle.hn_rules.proofs.laws.rules_are_exact.Goals as goal

pub returns : goal.returns
returns c =
    let refresh : RefreshLaws = record {
      few = c.own_items_fit.ensures.few;
      ranged = c.own_items_fit.ensures.ranged;
      own = c.own_data_exists.ensures;
      one_own = c.own_data_is_unique.ensures;
      one_order = c.ascending_is_unique.ensures;
      node = c.reachable_is_a_node.ensures;
      keeps = c.changes_keep_the_rest.ensures;
    } in
    let arrival : ArrivalLaws = record {
      refresh = refresh;
      acceptance = c.acceptance_exists.ensures;
      one_acceptance = c.acceptance_is_unique.ensures;
      packing = c.packing_exists.ensures;
      one_packing = c.packing_is_unique.ensures;
      item = c.item_or_fault.ensures;
      one_item = c.item_is_unique.ensures;
      no_item = c.item_fault_is_unique.ensures.no_item;
      one_fault = c.item_fault_is_unique.ensures.one;
    } in
    let asking : AskingLaws = record {
      usable = c.usable_exists.ensures;
      prefixes = c.usable_are_prefixes.ensures;
      links = c.common_link_exists.ensures;
      one_link = c.common_link_is_unique.ensures;
      pairs_total = c.pairs_are_ordered.ensures.total;
      pairs_exact = c.pairs_are_ordered.ensures.exact;
      network = c.view_is_a_network.ensures;
    } in
    let assigning : OneAssigningLaws = record {
      assigning = record { asking = asking; subroutine = c.subroutine_has_a_result.ensures.result };
      one_usable = c.usable_is_unique.ensures;
      one_subroutine = c.subroutine_has_one_result.ensures;
      pairs_total = c.pairs_are_ordered.ensures.total;
    } in
    let sending : SendingLaws = record { packing = c.packing_exists.ensures; one_packing = c.packing_is_unique.ensures } in
    let tick : TickLaws = record {
      refresh = refresh;
      assigning = assigning;
      sending = sending;
      makes_router = c.refresh_makes_a_router.ensures;
      forgets = c.rules_keep_a_router.ensures.forgetting;
    } in
    record {
      refresh = exact_refresh refresh;
      one_arrival = λ from tlvs. sole_arrival arrival from tlvs;
      arrival = λ from tlvs valid. total_arrival arrival from tlvs valid;
      expiry = exact_by words_taken Well Any IsExpiry (λ r is. tt) exact_expiry;
      assigning = exact_assigning assigning;
      ports = exact_by words_taken Well Any IsPortsTick (λ r is. tt) (exact_ports_tick sending);
      tick = exact_tick tick;
      attaching = λ at. exact_by words_taken Well Any (IsAttaching at) (λ r is. tt) (exact_attaching at);
      restarting = exact_restarting refresh;
    }
