use Rattle.hn_base.proofs.Names.{◌≡◌, ◌∷◌, ℕ, ◌/◌, ◌%◌, bit_and, drop, length, ap, sym, ◌∙◌, arith, inl, refl}
use Rattle.hn_typed.proofs.Names.{two_in_byte, LowerHalf}
use Rattle.hn_typed.proofs.FirstCauses.{in_field, past}
use Rattle.hn_typed.proofs.FieldsRead.{none_cut}
use Rattle.hn_typed.proofs.fields.lower_half.Goals as goal

pub returns-in_default-clause-fault : goal.returns-in_default-clause-fault
returns-in_default-clause-fault c = in_field (LowerHalf 0) c.args.bytes.now 1 (inl (omega (arith, c.in_default.ensures.cases), refl))

pub returns-clause-past : goal.returns-clause-past
returns-clause-past c =
    let parts = c.in-Some.ensures.cases in
    past (LowerHalf 0) c.args.bytes.now c.in-Some.after.now (none_cut 1 c.args.bytes.now (omega (arith, parts.1))) (sym (ap (drop 1) parts.0))

pub returns-clause-parts : goal.returns-clause-parts
returns-clause-parts c =
    (c.split_byte-reserved.result.0, c.in-Some.ensures.cases.0 ∙ ap (λ n. n ∷ c.in-Some.after.now) c.split_byte-reserved.ensures.parts)
