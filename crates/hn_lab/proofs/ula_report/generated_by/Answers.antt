use Rattle.hn_base.proofs.Names.{rules, ◌≡◌, ◌+◌, IsTrue, true, false, ℕ, filter, take, subst, sym, arith}
use Rattle.hn_lab.proofs.Names.{is_in_set, Member, HasGenerated, HaveGenerated}
use Rattle.hn_lab.proofs.UlaCounts.{step_counts, step_passes}
use Rattle.hn_lab.proofs.ula_report.generated_by.Goals as goal
use Rattle.hn_lab.proofs.ula_report.generated_by.Goals.{then-branch, else-branch}

pub loop-member-preserved : goal.loop-member-preserved
loop-member-preserved c =
    let x = c.member-item.result in
    let ms = c.args.members.now in
    let in_it = is_in_set c.args.reach.now in
    let i = c.loop-member.member-index in
    let n = c.loop-member.count in
    let before = c.loop-member.invariant in
    let few = before.few in
    elim c.if-branch.branch [
      | then-branch w ↦
          let yes : c.in_ok-generates.field-0 ≡ true = search rules in
          let both = subst (λ (m : Member). IsTrue (in_it m) × HasGenerated m) c.member-item.is (c.in_ok-generates.ensures.0 yes) in
          let is = w.count-is in
          record {
            have = subst (λ (count : ℕ). HaveGenerated (filter in_it (take (i + 1) ms)) count) (sym is) (step_counts in_it ms i n x c.loop-member-test.true both.0 both.1 before.have);
            few = omega (arith, is, few);
          }
      | else-branch w ↦
          let no : c.in_ok-generates.field-0 ≡ false = search rules in
          let lacks : ¬ (IsTrue (in_it x) × HasGenerated x) = λ both. let yes : IsTrue c.in_ok-generates.field-0 = c.in_ok-generates.ensures.1 both in absurd cc in
          let is = w.count-is in
          record {
            have = subst (λ (count : ℕ). HaveGenerated (filter in_it (take (i + 1) ms)) count) (sym is)
                (step_passes in_it ms i n x c.loop-member-test.true (subst (λ (m : Member). ¬ (IsTrue (in_it m) × HasGenerated m)) c.member-item.is lacks) before.have);
            few = omega (arith, is, few);
          }
    ]
