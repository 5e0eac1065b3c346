use Rattle.hn_data.proofs.walk.tlv_at.Goals as goal

pub unreachable-requires : goal.unreachable-requires
unreachable-requires c =
    let fault = c.in-Err.field-0 in
    let place = c.requires.place in
    let found = c.in-Err.ensures.fault in
    let first = c.fault_after_list.ensures c.args.bytes.now c.args.at fault.place fault.why place.before.0 place.within place.before.1 found.0 found.1 in
    c.first_fault_is_unique.ensures.no_list c.args.bytes.now fault.place fault.why first c.requires.list
