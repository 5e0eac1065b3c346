use Rattle.hn_base.proofs.Names.{refl}
use Rattle.hn_typed.proofs.Names.{plain_item}
use Rattle.hn_tlv.specs.View.{plain}
use Rattle.hn_typed.proofs.OneItem.{same_item}
use Rattle.hn_typed.proofs.OneFault.{no_fault, same_fault}
use Rattle.hn_typed.proofs.reading.read.Goals as goal

pub returns-in-Ok-clause-at_item : goal.returns-in-Ok-clause-at_item
returns-in-Ok-clause-at_item c = λ item is. same_item (plain c.args.tlv.now) (plain_item c.in-Ok.item) item c.in-Ok.ensures is

pub returns-in-Ok-clause-at_fault : goal.returns-in-Ok-clause-at_fault
returns-in-Ok-clause-at_fault c = λ why fault. absurd (no_fault (plain c.args.tlv.now) (plain_item c.in-Ok.item) why c.in-Ok.ensures fault)

pub returns-in-Err-clause-at_item : goal.returns-in-Err-clause-at_item
returns-in-Err-clause-at_item c = λ item is. absurd (no_fault (plain c.args.tlv.now) item c.in-Err.why is c.in-Err.ensures)

pub returns-in-Err-clause-at_fault : goal.returns-in-Err-clause-at_fault
returns-in-Err-clause-at_fault c = λ why fault. rw (same_fault (plain c.args.tlv.now) c.in-Err.why why c.in-Err.ensures fault) refl
