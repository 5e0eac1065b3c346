use Rattle.hn_rules.proofs.AnswerTlvs.{AnswerLaws}
use Rattle.hn_rules.proofs.SentBytes.{each_bytes}
use Rattle.hn_rules.proofs.laws.changes_keep_bytes.Goals as goal

pub returns : goal.returns
returns c =
    let laws : AnswerLaws = record {
      read = record {
        of_bytes = c.list_is_of_bytes.ensures;
        same_begin = c.spelling_is_prefix_free.ensures;
        same_item = c.item_is_unique.ensures;
        written_is_item = c.written_is_read.ensures;
        one_items = c.items_are_unique.ensures;
      };
      of_entry = c.held_is_of_an_entry.ensures;
      eight = c.hash_has_eight_bytes.ensures;
    } in
    each_bytes c.changes_keep_hashed.ensures.each laws c.packing_is_read.ensures
