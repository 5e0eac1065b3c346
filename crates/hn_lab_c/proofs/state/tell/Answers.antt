use Rattle.hn_base.proofs.Names.{sym, name_text}
use Rattle.hn_lab_c.proofs.ToldStates.{state_so}
use Rattle.hn_lab_c.proofs.state.tell.Goals as goal

pub returns-clause-state : goal.returns-clause-state
returns-clause-state c =
    let r = c.in-Some-member.member.now in
    let there = sym (rw c.in-Some-member.is at c.member.ensures) in
    λ _. state_so c.args.world.now.parts c.args.name.now (name_text c.in-Some.name) r c.in-Ok.settled c.in-Ok.quiet c.state_out.result c.in-Some.ensures.some.0 there
    (c.in-Ok.ensures r there) c.state_out.ensures
