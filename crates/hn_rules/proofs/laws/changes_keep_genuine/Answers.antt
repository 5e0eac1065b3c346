use Rattle.hn_rules.proofs.Genuines.{GenuineLaws, each_genuine}
use Rattle.hn_rules.proofs.laws.changes_keep_genuine.Goals as goal

pub returns : goal.returns
returns c =
    let laws : GenuineLaws = record {
      add = c.changes_only_add.ensures;
      hashed = c.changes_keep_hashed.ensures.each;
      table = record {
        of_entry = c.held_is_of_an_entry.ensures;
        brought = c.held_was_brought.ensures.state;
        marks = c.held_was_brought.ensures.marks;
        forgetting = c.held_was_brought.ensures.forgetting;
      };
      say = record {
        answer = record {
          read = record {
            of_bytes = c.list_is_of_bytes.ensures;
            same_begin = c.spelling_is_prefix_free.ensures;
            same_item = c.item_is_unique.ensures;
            written_is_item = c.written_is_read.ensures;
            one_items = c.items_are_unique.ensures;
          };
          of_entry = c.held_is_of_an_entry.ensures;
          eight = c.hash_has_eight_bytes.ensures;
        };
        one_list = c.list_is_unique.ensures;
        packing = c.packing_is_read.ensures;
      };
    } in
    each_genuine laws
