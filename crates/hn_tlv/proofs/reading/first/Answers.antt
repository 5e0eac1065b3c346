use Rattle.hn_base.proofs.Names.{◌≡◌, ℕ, ◌-◌, length, drop, arith, subst, replicate, ◌++◌}
use Rattle.hn_tlv.proofs.Names.{padding, IsPaddingFault, plain}
use Rattle.hn_tlv.proofs.TakenApart.{IsSplit, faulty_padding, whole_tlv}
use Rattle.hn_tlv.proofs.reading.first.Goals as goal

pub returns-in-None : goal.returns-in-None
returns-in-None c =
    let tlv = plain c.in_ok-tlv.tlv in
    let rest = c.in_ok-tlv.rest.now in
    let split : IsSplit c.args.bytes.now tlv rest = record { valid = c.in_ok-tlv.ensures.valid; parts = c.in_ok-tlv.ensures.parts } in
    let count-is : c.size-after.result - 4 - length tlv.value ≡ padding (length tlv.value) = omega (arith, c.size-after.ensures.exact) in
    let zeros : rest ≡ replicate (padding (length tlv.value)) 0 ++ drop (padding (length tlv.value)) rest = subst (λ (n : ℕ). rest ≡ replicate n 0 ++ drop n rest) count-is c.in-None.ensures.none in
    whole_tlv c.args.bytes.now tlv rest c.size-after.result split c.size-after.ensures.exact zeros

pub returns-in-Some : goal.returns-in-Some
returns-in-Some c =
    let tlv = plain c.in_ok-tlv.tlv in
    let rest = c.in_ok-tlv.rest.now in
    let fault = c.in-Some.fault in
    let split : IsSplit c.args.bytes.now tlv rest = record { valid = c.in_ok-tlv.ensures.valid; parts = c.in_ok-tlv.ensures.parts } in
    let count-is : c.size-after.result - 4 - length tlv.value ≡ padding (length tlv.value) = omega (arith, c.size-after.ensures.exact) in
    let found : IsPaddingFault (padding (length tlv.value)) rest fault.place fault.why = subst (λ (n : ℕ). IsPaddingFault n rest fault.place fault.why) count-is c.in-Some.ensures.found in
    faulty_padding c.args.bytes.now tlv rest fault.place fault.why split found
