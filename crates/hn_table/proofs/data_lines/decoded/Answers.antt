use Rattle.hn_base.proofs.Names.{◌∙◌, Err, ap, subst, List, ℕ}
use Rattle.hn_tlv.specs.Grammar.{FirstFault}
use Rattle.hn_table.proofs.data_lines.decoded.Goals as goal

pub unreachable-requires : goal.unreachable-requires
unreachable-requires c =
    let fault = c.in-Err-Malformed.field-0-0 in
    let is = c.in-Err-Malformed.is ∙ ap (λ e. Err e) c.in-Err-Malformed.field-0-is in
    let at = (c.decode.ensures.malformed fault.place fault.why).0 is in
    let found = subst (λ (bytes : List ℕ). FirstFault bytes fault.place fault.why) c.bytes.ensures at in
    c.first_fault_is_unique.ensures.no_list c.args.body.now fault.place fault.why found c.node_data_has_items.ensures.list
