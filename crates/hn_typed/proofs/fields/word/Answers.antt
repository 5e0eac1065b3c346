use Rattle.hn_base.proofs.Names.{arith, inl, refl}
use Rattle.hn_typed.proofs.Names.{Word}
use Rattle.hn_typed.proofs.FirstCauses.{in_field, past}
use Rattle.hn_typed.proofs.FieldsRead.{none_cut}
use Rattle.hn_typed.proofs.fields.word.Goals as goal

pub returns-then-bytes-lt4-clause-fault : goal.returns-then-bytes-lt4-clause-fault
returns-then-bytes-lt4-clause-fault c = in_field (Word 0) c.args.bytes.now 1 (inl (omega arith, refl))

pub returns-clause-past : goal.returns-clause-past
returns-clause-past c = past (Word 0) c.args.bytes.now c.split_at.result.1.now (none_cut 4 c.args.bytes.now (omega arith)) c.split_at.ensures.back
