use Rattle.hn_base.proofs.Names.{rules, ◌≡◌, ◌≤◌, IsTrue, false, length, arith}
use Rattle.hn_lab.proofs.Names.{IsUlaStill, is_in_set, Member}
use Rattle.hn_lab.proofs.Sets.{one_is_not, one_more, all_are}
use Rattle.hn_lab.proofs.ula_report.all_still.Goals as goal

pub returns-then-not-branch : goal.returns-then-not-branch
returns-then-not-branch c =
    let is_still : Member → Type 0 = λ m. IsTrue (is_in_set c.args.reach.now m) → IsUlaStill m.router in
    let no : c.in_ok-is_still.field-0 ≡ false = search rules in
    one_is_not is_still c.args.members.now c.loop-member.member-index c.member-item.result _ c.member-item.is c.loop-member-test.true no c.in_ok-is_still.ensures

pub loop-member-preserved : goal.loop-member-preserved
loop-member-preserved c =
    let is_still : Member → Type 0 = λ m. IsTrue (is_in_set c.args.reach.now m) → IsUlaStill m.router in
    let yes : IsTrue c.in_ok-is_still.field-0 = search rules in
    one_more is_still c.args.members.now c.loop-member.member-index c.member-item.result _ c.member-item.is c.loop-member-test.true yes c.in_ok-is_still.ensures c.loop-member.invariant

pub returns : goal.returns
returns c =
    let is_still : Member → Type 0 = λ m. IsTrue (is_in_set c.args.reach.now m) → IsUlaStill m.router in
    let end : length c.args.members.now ≤ c.loop-member.member-index = omega (arith, c.loop-member-test.false) in
    all_are is_still c.args.members.now c.loop-member.member-index c.loop-member.invariant end
