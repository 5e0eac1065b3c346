use Rattle.hn_watch.proofs.reading.tlv_at.Goals as goal

pub unreachable-requires : goal.unreachable-requires
unreachable-requires c =
    let fault = c.in-Err.field-0 in
    let found = c.in-Err.ensures.fault in
    let before = c.requires.before in
    let first = c.fault_after_list.ensures c.args.datagram.now c.args.place fault.place fault.why before.0 c.requires.within before.1 found.0 found.1 in
    c.first_fault_is_unique.ensures.no_list c.args.datagram.now fault.place fault.why first c.requires.list
