use Rattle.hn_rules.proofs.LawPublished.{ReadLaws}
use Rattle.hn_rules.proofs.LawSaid.{version_said}
use Rattle.hn_rules.proofs.laws.own_version_is_said.Goals as goal

pub returns : goal.returns
returns c =
    let laws : ReadLaws = record {
      of_bytes = c.list_is_of_bytes.ensures;
      same_begin = c.spelling_is_prefix_free.ensures;
      same_item = c.item_is_unique.ensures;
      written_is_item = c.written_is_read.ensures;
      one_items = c.items_are_unique.ensures;
    } in
    version_said laws
