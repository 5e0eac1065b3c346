use Rattle.hn_decode.proofs.TextExists.{text_exists}
use Rattle.hn_decode.proofs.laws.decode_text_exists.Goals as goal

pub returns : goal.returns
returns c = text_exists c.item_or_fault.ensures c.list_or_first_fault.ensures c.first_fault_is_unique.ensures.no_list
