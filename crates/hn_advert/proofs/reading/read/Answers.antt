use Rattle.hn_base.proofs.Names.{Ok, inl, inr, ap, err_from_is_err_and}
use Rattle.hn_advert.proofs.Names.{RaFault, AdvertFault}
use Rattle.hn_advert.proofs.Answered.{fault_is_answered, advert_is_answered, memory_is_answered}
use Rattle.hn_advert.proofs.Steps.{advert_of_parts, has_advert, has_fault}
use Rattle.hn_advert.proofs.Unique.{same_advert, no_advert}
use Rattle.hn_advert.proofs.reading.read.Goals as goal

pub returns-in_err-check_options-clause-fault : goal.returns-in_err-check_options-clause-fault
returns-in_err-check_options-clause-fault c =
    let bytes = c.args.bytes.now in
    let fault : RaFault = c.in_err-check_options.field-0.0 in
    let found : AdvertFault bytes fault.place fault.why = inr
    (has_fault bytes c.in_ok-fixed.options.now c.in_ok-fixed.fixed fault.place fault.why c.in_ok-fixed.ensures.header c.in_err-check_options.ensures.fault) in
    let passed = err_from_is_err_and c.from_residual-in_err-check_options.result c.from_residual-in_err-check_options.ensures.1 in
    rw (passed.1, passed.2) (fault_is_answered bytes fault found)

pub returns-in_err-check_options-clause-at_advert : goal.returns-in_err-check_options-clause-at_advert
returns-in_err-check_options-clause-at_advert c = λ advert is.
    let bytes = c.args.bytes.now in
    let fault : RaFault = c.in_err-check_options.field-0.0 in
    let found : AdvertFault bytes fault.place fault.why = inr
    (has_fault bytes c.in_ok-fixed.options.now c.in_ok-fixed.fixed fault.place fault.why c.in_ok-fixed.ensures.header c.in_err-check_options.ensures.fault) in
    absurd (no_advert bytes fault.place fault.why advert found is)

pub returns-in_err-infos-clause-fault : goal.returns-in_err-infos-clause-fault
returns-in_err-infos-clause-fault c =
    let bytes = c.args.bytes.now in
    let advert = has_advert bytes c.in_ok-fixed.options.now c.in_ok-fixed.fixed c.in_ok-fixed.ensures.header c.in_ok-check_options.ensures.ok in
    let passed = err_from_is_err_and c.from_residual-in_err-infos.result c.from_residual-in_err-infos.ensures.1 in
    rw (passed.1, passed.2) (memory_is_answered bytes advert.0 advert.1)

pub returns-clause-fault : goal.returns-clause-fault
returns-clause-fault c = advert_is_answered c.args.bytes.now _
    (advert_of_parts c.args.bytes.now c.in_ok-fixed.options.now c.in_ok-fixed.fixed c.in_ok-infos.infos c.in_ok-fixed.ensures.header c.in_ok-infos.ensures)

pub returns-clause-at_advert : goal.returns-clause-at_advert
returns-clause-at_advert c = λ advert is.
    let found = advert_of_parts c.args.bytes.now c.in_ok-fixed.options.now c.in_ok-fixed.fixed c.in_ok-infos.infos c.in_ok-fixed.ensures.header c.in_ok-infos.ensures in
    inl (ap Ok (same_advert c.args.bytes.now _ advert found is))
