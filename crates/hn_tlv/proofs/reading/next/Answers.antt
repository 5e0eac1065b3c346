use Rattle.hn_base.proofs.Names.{◌≡◌, ℕ, List, ◌+◌, ◌-◌, drop, arith, subst, refl, take_rest}
use Rattle.hn_tlv.proofs.Names.{IsTlvAt, IsFault, plain}
use Rattle.hn_tlv.proofs.OneReading.{no_tlv, same_fault}
use Rattle.hn_tlv.proofs.TlvAtPlace.{same_at}
use Rattle.hn_tlv.proofs.reading.next.Goals as goal

pub returns-in-Ok-Some-clause-at_tlv : goal.returns-in-Ok-Some-clause-at_tlv
returns-in-Ok-Some-clause-at_tlv c = λ tlv after there.
    let tlv-read = plain c.in-Ok-Some.tlv in
    let first : IsTlvAt (drop c.args.at c.args.bytes.now) 0 tlv-read c.in-Ok-Some.size =
    subst (λ (z : List ℕ). IsTlvAt z 0 tlv-read c.in-Ok-Some.size) (take_rest c.args.bytes.now c.args.at) (rw c.in-Ok-Some.field-0-is at c.in-Ok-Some.ensures) in
    same_at c.args.bytes.now c.args.at c.in-Ok-Some.size after tlv-read tlv first there

pub returns-in-Ok-Some-clause-at_fault : goal.returns-in-Ok-Some-clause-at_fault
returns-in-Ok-Some-clause-at_fault c = λ offset why fault.
    let tlv-read = plain c.in-Ok-Some.tlv in
    let first : IsTlvAt (drop c.args.at c.args.bytes.now) 0 tlv-read c.in-Ok-Some.size =
    subst (λ (z : List ℕ). IsTlvAt z 0 tlv-read c.in-Ok-Some.size) (take_rest c.args.bytes.now c.args.at) (rw c.in-Ok-Some.field-0-is at c.in-Ok-Some.ensures) in
    absurd (no_tlv (drop c.args.at c.args.bytes.now) _ offset why tlv-read fault first.valid first.spelled)

pub returns-in-Err-clause-fault : goal.returns-in-Err-clause-fault
returns-in-Err-clause-fault c =
    let offset : c.in-Err.fault.place ≡ c.args.at + c.in-Err.fault.place - c.args.at = omega arith in
    let found : IsFault (drop c.args.at c.args.bytes.now) c.in-Err.fault.place c.in-Err.fault.why =
    subst (λ (z : List ℕ). IsFault z c.in-Err.fault.place c.in-Err.fault.why) (take_rest c.args.bytes.now c.args.at) c.in-Err.ensures in
    (omega arith, subst (λ (n : ℕ). IsFault (drop c.args.at c.args.bytes.now) n c.in-Err.fault.why) offset found)

pub returns-in-Err-clause-at_tlv : goal.returns-in-Err-clause-at_tlv
returns-in-Err-clause-at_tlv c = λ tlv after there.
    let found : IsFault (drop c.args.at c.args.bytes.now) c.in-Err.fault.place c.in-Err.fault.why =
    subst (λ (z : List ℕ). IsFault z c.in-Err.fault.place c.in-Err.fault.why) (take_rest c.args.bytes.now c.args.at) c.in-Err.ensures in
    no_tlv (drop c.args.at c.args.bytes.now) (drop after c.args.bytes.now) c.in-Err.fault.place c.in-Err.fault.why tlv found there.valid there.spelled

pub returns-in-Err-clause-at_fault : goal.returns-in-Err-clause-at_fault
returns-in-Err-clause-at_fault c = λ offset why fault.
    let found : IsFault (drop c.args.at c.args.bytes.now) c.in-Err.fault.place c.in-Err.fault.why =
    subst (λ (z : List ℕ). IsFault z c.in-Err.fault.place c.in-Err.fault.why) (take_rest c.args.bytes.now c.args.at) c.in-Err.ensures in
    let same = same_fault (drop c.args.at c.args.bytes.now) c.in-Err.fault.place offset c.in-Err.fault.why why found fault in
    rw (same.0, same.1) refl
