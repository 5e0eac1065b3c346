use Rattle.hn_base.proofs.Names.{◌≡◌, ◌≤◌, ◌++◌, List, ℕ, length, take, drop, ap, sym, ◌∙◌, arith, inl, refl, w128, from_be_bytes, to_be_bytes, take-append-drop, length-take-le}
use Rattle.hn_typed.proofs.Names.{Bytes-from_reads, Bytes-take, whole_is, Ipv6}
use Rattle.hn_typed.proofs.FirstCauses.{in_field, past}
use Rattle.hn_typed.proofs.FieldsRead.{none_cut}
use Rattle.hn_typed.proofs.fields.ipv6.Goals as goal

pub returns-in_default-clause-fault : goal.returns-in_default-clause-fault
returns-in_default-clause-fault c = in_field (Ipv6 0) c.args.bytes.now 1 (inl (omega (arith, c.in_default.ensures.cases), refl))

pub returns-clause-past : goal.returns-clause-past
returns-clause-past c = past (Ipv6 0) c.args.bytes.now c.in-Some.after.now (none_cut 16 c.args.bytes.now (grind arith)) c.in-Some.ensures.cases.1

pub returns-clause-parts : goal.returns-clause-parts
returns-clause-parts c =
    let bytes = c.args.bytes.now in
    let found = c.in-Some.ensures.cases in
    let len : length (take 16 bytes) ≡ 16 = length-take-le 16 bytes (grind arith) in
    let whole = whole_is (take 16 bytes) len (Bytes-take 16 bytes (Bytes-from_reads bytes (λ i. omega (arith, c.type_inv.bytes i)))) in
    let number : c.from_be_bytes.result ≡ from_be_bytes w128 (take 16 bytes) = c.from_be_bytes.ensures ∙ ap (from_be_bytes w128) found.0 in
    sym (take-append-drop 16 bytes) ∙ ap (λ (z : List ℕ). z ++ drop 16 bytes) (whole ∙ ap (to_be_bytes w128) (sym number))
    ∙ ap (λ (z : List ℕ). to_be_bytes w128 c.from_be_bytes.result ++ z) (sym found.1)
