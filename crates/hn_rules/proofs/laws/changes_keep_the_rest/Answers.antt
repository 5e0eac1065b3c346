use Rattle.hn_rules.proofs.Wells.{each_well}
use Rattle.hn_rules.proofs.laws.changes_keep_the_rest.Goals as goal

pub returns : goal.returns
returns c = each_well (record {
  known = record {
    peers_met = c.peers_stay.ensures.met;
    peers_contacted = c.peers_stay.ensures.contacted;
    held_of_entry = c.held_is_of_an_entry.ensures;
    accepts = c.acceptance_keeps_table.ensures;
    own = c.own_stays.ensures;
    none = c.loss_keeps_table.ensures.none;
    marks = c.loss_keeps_table.ensures.marks;
    forgetting = c.loss_keeps_table.ensures.forgetting;
  };
  assigns = record {
    inside = c.subroutine_keeps.ensures.inside;
    past = c.subroutine_keeps.ensures.past;
    priority = c.subroutine_keeps.ensures.priority;
    assigned = c.subroutine_leaves.ensures.assigned;
    backoffs = c.subroutine_leaves.ensures.backoffs;
    wished = c.subroutine_leaves.ensures.wished;
    pairs_total = c.pairs_are_ordered.ensures.total;
    pairs_exact = c.pairs_are_ordered.ensures.exact;
    posts = c.posts_ascend.ensures.few;
  };
  added = c.own_prefixes_stay.ensures.added;
  some = c.own_prefixes_stay.ensures.some;
  reads = record {
    of_bytes = c.list_is_of_bytes.ensures;
    same_begin = c.spelling_is_prefix_free.ensures;
    same_item = c.item_is_unique.ensures;
    written_is_item = c.written_is_read.ensures;
    one_items = c.items_are_unique.ensures;
  };
  lengths = c.subroutine_keeps.ensures.alone;
  stays = c.held_without_private.ensures;
  may_be = c.addresses_stay.ensures.may_be;
  prefix = c.subroutine_keeps.ensures.prefix;
  soon = c.subroutine_keeps.ensures.soon;
})
