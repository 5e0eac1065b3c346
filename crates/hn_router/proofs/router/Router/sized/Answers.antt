use Rattle.hn_base.proofs.Names.{◌≡◌, arith}
use Rattle.hn_router.proofs.Names.{IsRouter}
use Rattle.hn_router.proofs.router.Router.sized.Goals as goal

pub invariant_of-result : goal.invariant_of-result
invariant_of-result c =
    let new : IsRouter c.in_ok-state.state = c.new_is_router.ensures c.args.id c.args.limit c.args.now c.in_ok-state.state (omega arith) c.requires.sized c.in_ok-state.ensures in
    let zero : c.in_ok-state.state.due ≡ 0 = c.in_ok-state.ensures.due_is in
    record { kept = record { router = new; due = λ later. absurd (omega arith) }; undue = λ later. absurd (omega arith) }
