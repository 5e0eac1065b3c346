use Rattle.hn_tlv.proofs.TlvAtPlace.{only_one, read_again}
use Rattle.hn_tlv.proofs.laws.spelling_is_read.Goals as goal

pub returns-clause-as_a_list : goal.returns-clause-as_a_list
returns-clause-as_a_list c = only_one

pub returns-clause-at_its_place : goal.returns-clause-at_its_place
returns-clause-at_its_place c = read_again
