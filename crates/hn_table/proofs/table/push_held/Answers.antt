use Rattle.hn_base.proofs.Names.{string_bytes, name_text}
use Rattle.hn_table.proofs.Tables.{held_told}
use Rattle.hn_table.proofs.table.push_held.Goals as goal

pub returns : goal.returns
returns c =
    let nodes_are = rw c.table.ensures at c.entries.ensures.entries in
    let assigned_are = rw c.held.ensures at c.as_slice.ensures.value in
    let backoffs_are = rw c.held-2.ensures at c.as_slice-2.ensures.value in
    held_told (name_text c.args.name.now) c.args.member.now c.ports.result.now c.entries.result.now c.as_slice.result.now c.as_slice-2.result.now c.push_backoffs.result (string_bytes c.args.text.now)
    (string_bytes c.push_router.new.text) (string_bytes c.push_ports.new.text) (string_bytes c.push_nodes.new.text) (string_bytes c.push_assignments.new.text) (string_bytes c.push_backoffs.new.text)
    c.ports.ensures nodes_are assigned_are backoffs_are c.in_ok-push_router.ensures c.in_ok-push_ports.ensures c.in_ok-push_nodes.ensures c.in_ok-push_assignments.ensures c.push_backoffs.ensures
