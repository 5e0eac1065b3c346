use Rattle.hn_kept.proofs.FreePublished.{free_is_published}
use Rattle.hn_kept.proofs.laws.free_is_published.Goals as goal

pub returns : goal.returns
returns c = free_is_published (
    record {
      turns = record {
        total = c.pairs_are_ordered.ensures.total;
        exact = c.pairs_are_ordered.ensures.exact;
        usable = c.usable_is_unique.ensures;
        steps = c.steps_have_one_result.ensures.steps;
        best = c.answers_know_no_order.ensures.best;
        first = c.answers_know_no_order.ensures.first;
        expiry = c.rules_have_one_result.ensures.expiry;
        refresh = c.rules_have_one_result.ensures.refresh;
      };
      result = c.event_has_a_result.ensures;
      stays = c.router_stays.ensures;
      first = c.place_is_first.ensures;
      inside = c.inside_are_sub_prefixes.ensures;
    })
