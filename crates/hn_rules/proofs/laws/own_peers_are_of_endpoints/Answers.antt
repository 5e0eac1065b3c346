use Rattle.hn_rules.proofs.LawPublished.{ReadLaws}
use Rattle.hn_rules.proofs.PrivatePosts.{own_peers}
use Rattle.hn_rules.proofs.laws.own_peers_are_of_endpoints.Goals as goal

pub returns : goal.returns
returns c =
    let laws : ReadLaws = record {
      of_bytes = c.list_is_of_bytes.ensures;
      same_begin = c.spelling_is_prefix_free.ensures;
      same_item = c.item_is_unique.ensures;
      written_is_item = c.written_is_read.ensures;
      one_items = c.items_are_unique.ensures;
    } in
    own_peers laws
