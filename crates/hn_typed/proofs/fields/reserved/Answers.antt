use Rattle.hn_base.proofs.Names.{drop, ap, sym, arith, inl, refl}
use Rattle.hn_typed.proofs.Names.{Reserved}
use Rattle.hn_typed.proofs.FirstCauses.{in_field, past}
use Rattle.hn_typed.proofs.FieldsRead.{none_cut}
use Rattle.hn_typed.proofs.fields.reserved.Goals as goal

pub returns-in_default-clause-fault : goal.returns-in_default-clause-fault
returns-in_default-clause-fault c = in_field Reserved c.args.bytes.now 1 (inl (omega (arith, c.in_default.ensures.cases), refl))

pub returns-clause-past : goal.returns-clause-past
returns-clause-past c =
    let parts = c.in-Some.ensures.cases in
    past Reserved c.args.bytes.now c.in-Some.after.now (none_cut 1 c.args.bytes.now (omega (arith, parts.1))) (sym (ap (drop 1) parts.0))
