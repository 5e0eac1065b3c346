use Rattle.hn_base.proofs.Names.{◌≡◌, length, refl, err_from_is_err_and}
use Rattle.hn_tlv.proofs.Names.{IsTlvList, IsTlvAt, FirstFault, plain}
use Rattle.hn_tlv.proofs.OneReading.{same_list, no_list, same_first_fault}
use Rattle.hn_tlv.proofs.TlvAtPlace.{breaks_off, reads_more, reads_all}
use Rattle.hn_tlv.proofs.reading.check.Goals as goal

pub loop-after-preserved : goal.loop-after-preserved
loop-after-preserved c =
    let tlv = plain c.in-Some.field-0-0 in
    let here : IsTlvAt c.args.bytes.now c.loop-after.at tlv c.in-Some.after = rw c.in-Some.is at c.in_ok-after.ensures.found in
    reads_more c.args.bytes.now c.loop-after.at c.in-Some.after c.loop-after.count tlv c.loop-after.invariant here

pub returns-in_err-after-clause-at_list : goal.returns-in_err-after-clause-at_list
returns-in_err-after-clause-at_list c = λ tlvs list.
    let fault = c.in_err-after.field-0.0 in
    let read = c.loop-after.invariant in
    let found = c.in_err-after.ensures.fault in
    let first : FirstFault c.args.bytes.now fault.place fault.why = breaks_off c.args.bytes.now c.loop-after.at fault.place fault.why read.tlvs read.within read.list found.0 found.1 in
    absurd (no_list c.args.bytes.now fault.place fault.why first (tlvs, list))

pub returns-in_err-after-clause-at_fault : goal.returns-in_err-after-clause-at_fault
returns-in_err-after-clause-at_fault c = λ place why other.
    let fault = c.in_err-after.field-0.0 in
    let read = c.loop-after.invariant in
    let found = c.in_err-after.ensures.fault in
    let first : FirstFault c.args.bytes.now fault.place fault.why = breaks_off c.args.bytes.now c.loop-after.at fault.place fault.why read.tlvs read.within read.list found.0 found.1 in
    let same = same_first_fault c.args.bytes.now fault.place place fault.why why first other in
    let passed = err_from_is_err_and c.from_residual.result c.from_residual.ensures.1 in
    rw (passed.1, passed.2, ← same.0, ← same.1) refl

pub returns-clause-at_list : goal.returns-clause-at_list
returns-clause-at_list c = λ tlvs list.
    let read = c.loop-after.invariant in
    let ends : c.loop-after.at ≡ length c.args.bytes.now = rw c.in_default.is at c.in_ok-after.ensures.end in
    let all : IsTlvList read.tlvs c.args.bytes.now = reads_all c.args.bytes.now c.loop-after.at c.loop-after.count read ends in
    rw (← read.count_is, same_list read.tlvs tlvs c.args.bytes.now all list) refl

pub returns-clause-at_fault : goal.returns-clause-at_fault
returns-clause-at_fault c = λ place why first.
    let read = c.loop-after.invariant in
    let ends : c.loop-after.at ≡ length c.args.bytes.now = rw c.in_default.is at c.in_ok-after.ensures.end in
    absurd (no_list c.args.bytes.now place why first (read.tlvs, reads_all c.args.bytes.now c.loop-after.at c.loop-after.count read ends))

pub returns-in_err-after-clause-accepts : goal.returns-in_err-after-clause-accepts
returns-in_err-after-clause-accepts c =
    let fault = c.in_err-after.field-0.0 in
    let read = c.loop-after.invariant in
    let found = c.in_err-after.ensures.fault in
    let first : FirstFault c.args.bytes.now fault.place fault.why = breaks_off c.args.bytes.now c.loop-after.at fault.place fault.why read.tlvs read.within read.list found.0 found.1 in
    let passed = err_from_is_err_and c.from_residual.result c.from_residual.ensures.1 in
    rw passed.1 (λ no. absurd cc, λ list. absurd (no_list c.args.bytes.now fault.place fault.why first list))
