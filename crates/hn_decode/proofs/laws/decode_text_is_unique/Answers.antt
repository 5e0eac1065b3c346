use Rattle.hn_decode.proofs.OneText.{same_text, no_text}
use Rattle.hn_decode.proofs.laws.decode_text_is_unique.Goals as goal

pub returns-clause-one : goal.returns-clause-one
returns-clause-one c = same_text c.list_is_unique.ensures c.item_is_unique.ensures c.item_fault_is_unique.ensures.no_item c.item_fault_is_unique.ensures.one

pub returns-clause-none : goal.returns-clause-none
returns-clause-none c = no_text c.first_fault_is_unique.ensures.no_list
