use Rattle.hn_base.proofs.Names.{arith, get_or_default}
use Rattle.hn_typed.proofs.writing.put.Goals as goal

pub returns-clause-bytes : goal.returns-clause-bytes
returns-clause-bytes c = λ k d lt. rw (get_or_default c.args.bytes.now k d 0 lt) (omega (arith, c.type_inv.bytes k))
