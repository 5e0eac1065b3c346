use Rattle.hn_base.proofs.Names.{◌∙◌, Err, ap, inl, refl}
use Rattle.hn_store.proofs.Names.{FirstFault}
use Rattle.hn_store.proofs.table.Table.keep.Goals as goal

-- data that are refused are no list of TLVs
pub returns-in-Err-Malformed-clause-took : goal.returns-in-Err-Malformed-clause-took
returns-in-Err-Malformed-clause-took c =
    let body = c.args.state.now.body.now in
    let fault = c.in-Err-Malformed.field-0-0 in
    let first : FirstFault body fault.place fault.why =
    (c.from_bytes.ensures.refused fault.place fault.why).0 (c.in-Err-Malformed.is ∙ ap Err c.in-Err-Malformed.field-0-is) in
    inl (c.first_fault_is_unique.ensures.no_list body fault.place fault.why first, refl)
