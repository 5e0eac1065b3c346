use Rattle.hn_base.proofs.Names.{◌≡◌, ◌≤◌, ◌<◌, [], length, ap, ◌∙◌, arith, inl, refl, length-take-le, get_or-take, get_or_default}
use Rattle.hn_typed.proofs.Names.{Hash}
use Rattle.hn_typed.proofs.FirstCauses.{in_field, past}
use Rattle.hn_typed.proofs.FieldsRead.{none_cut}
use Rattle.hn_typed.proofs.fields.hash.Goals as goal

enough : (c : goal.In-Some) → 8 ≤ length c.args.bytes.now
enough c = grind arith

pub returns-in_default-clause-fault : goal.returns-in_default-clause-fault
returns-in_default-clause-fault c = in_field (Hash []) c.args.bytes.now 1 (inl (omega (arith, c.in_default.ensures.cases), refl))

pub returns-clause-past : goal.returns-clause-past
returns-clause-past c = past (Hash []) c.args.bytes.now c.in-Some.after.now (none_cut 8 c.args.bytes.now (enough c)) c.in-Some.ensures.cases.1

pub returns-clause-hash : goal.returns-clause-hash
returns-clause-hash c =
    let bytes = c.args.bytes.now in
    let found = c.in-Some.ensures.cases in
    let len : length c.in-Some.hash.now ≡ 8 = ap length found.0 ∙ length-take-le 8 bytes (enough c) in
    (len, λ k d lt. let here : k < 8 = omega arith in rw (get_or_default c.in-Some.hash.now k d 0 lt, found.0, get_or-take 8 bytes k 0 here) (omega (arith, c.type_inv.bytes k)))
