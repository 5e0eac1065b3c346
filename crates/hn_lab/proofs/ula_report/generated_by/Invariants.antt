use Rattle.hn_base.proofs.Names.{◌≤◌, filter, take}
use Rattle.hn_lab.proofs.Names.{is_in_set, HaveGenerated}
use Rattle.hn_lab.proofs.ula_report.generated_by.Given as goal

-- of those of the set so far, that many have one
abbrev pub invariant-loop-member : goal.invariant-loop-member
invariant-loop-member l = record {
  have : HaveGenerated (filter (is_in_set l.reach) (take l.member-index l.members)) l.count;
  few : l.count ≤ l.member-index;
}
