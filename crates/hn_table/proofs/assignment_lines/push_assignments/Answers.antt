use Rattle.hn_base.proofs.Names.{string_bytes}
use Rattle.hn_table.proofs.Names.{assigned_line}
use Rattle.hn_table.proofs.Lists.{told_more}
use Rattle.hn_table.proofs.assignment_lines.push_assignments.Goals as goal

pub loop-one-preserved : goal.loop-one-preserved
loop-one-preserved c =
    told_more assigned_line c.args.assigned.now c.loop-one.one-index (string_bytes c.args.text.now) (string_bytes c.loop-one.text) c.one-item.result (string_bytes c.push_assignment.new.text)
    c.loop-one-test.true c.one-item.is c.loop-one.invariant c.in_ok-push_assignment.ensures
