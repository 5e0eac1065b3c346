use Rattle.hn_base.proofs.Names.{rules, ◌↔◌, IsTrue, IfOk-weaker}
use Rattle.hn_lab.proofs.Names.{is_in_set, IsUlaStill}
use Rattle.hn_lab.proofs.ula_report.is_still.Goals as goal

pub returns : goal.returns
returns c =
    let in_it : IsTrue (is_in_set c.args.reach.now c.args.member.now) = search rules in
    IfOk-weaker c.still.result (λ answer. IsTrue answer ↔ IsUlaStill c.args.member.now.router)
    (λ answer. IsTrue answer ↔ (IsTrue (is_in_set c.args.reach.now c.args.member.now) → IsUlaStill c.args.member.now.router))
    (λ answer h. (λ yes _. h.0 yes, λ to. h.1 (to in_it))) c.still.ensures
