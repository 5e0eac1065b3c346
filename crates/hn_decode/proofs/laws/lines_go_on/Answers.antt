use Rattle.hn_decode.proofs.TextExists.{text_goes_on}
use Rattle.hn_decode.proofs.laws.lines_go_on.Goals as goal

pub returns : goal.returns
returns c = text_goes_on c.item_or_fault.ensures c.list_or_first_fault.ensures c.first_fault_is_unique.ensures.no_list c.list_is_unique.ensures
