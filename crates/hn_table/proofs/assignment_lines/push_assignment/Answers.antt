use Rattle.hn_base.proofs.Names.{◌≡◌, ◌++◌, append_assoc, string_bytes, OnOk, on_ok_weaker}
use Rattle.hn_table.proofs.Lists.{assignment_line, assignment_told}
use Rattle.hn_table.proofs.assignment_lines.push_assignment.Goals as goal

pub returns : goal.returns
returns c =
    let one = c.args.one.now in
    let old = string_bytes c.args.text.now in
    let text = assignment_line one c.text-delegated.result c.text-prefix.result c.yes_no-applied.result.now in
    let told : OnOk c.write.result (string_bytes c.write.new.self ≡ old ++ text) = simp append_assoc (simp append_assoc at c.write.ensures.bytes) in
    on_ok_weaker c.write.result
    (assignment_told one c.text-delegated.result c.text-prefix.result c.yes_no-applied.result.now old (string_bytes c.write.new.self) c.text-delegated.ensures c.text-prefix.ensures
    c.yes_no-applied.ensures)
    told
