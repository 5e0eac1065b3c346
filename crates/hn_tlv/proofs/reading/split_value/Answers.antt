use Rattle.hn_base.proofs.Names.{◌≡◌, ◌<◌, ◌^◌, ℕ, List, drop, arith, sym, ap, ◌∙◌, ◌++◌, take-append-drop}
use Rattle.hn_tlv.proofs.Names.{header}
use Rattle.hn_tlv.proofs.TakenApart.{is_split}
use Rattle.hn_tlv.proofs.reading.split_value.Goals as goal

pub returns : goal.returns
returns c =
    let len = c.from-len.result in
    let value = c.split_at.result.0.now in
    let rest = c.split_at.result.1.now in
    let len-is : c.in-Some.len ≡ len = sym c.from-len.ensures in
    let rest-is : c.in-Some.rest.now ≡ value ++ rest = sym (take-append-drop len c.in-Some.rest.now)
    ∙ ap (λ (z : List ℕ). z ++ drop len c.in-Some.rest.now) (sym c.split_at.ensures.front) ∙ ap (λ (z : List ℕ). value ++ z) (sym c.split_at.ensures.back) in
    let parts : c.args.bytes.now ≡ header c.in-Some.kind len ++ (value ++ rest) =
    c.in-Some.ensures.parts ∙ ap (λ (z : List ℕ). header c.in-Some.kind c.in-Some.len ++ z) rest-is ∙ ap (λ (n : ℕ). header c.in-Some.kind n ++ (value ++ rest)) len-is in
    let length_fits : len < 2 ^ 16 = omega (arith, c.in-Some.ensures.fit.1, len-is) in
    let split = is_split c.args.bytes.now value rest c.in-Some.kind len (λ i. omega (arith, c.type_inv.bytes i)) c.in-Some.ensures.fit.0 length_fits c.split_at.ensures.front_len parts in
    record { valid = split.valid; parts = split.parts; fault = tt }
