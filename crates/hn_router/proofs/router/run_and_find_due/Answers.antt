use Rattle.hn_router.proofs.Names.{IsRouter, Running, plain_event}
use Rattle.hn_base.proofs.Names.{subst, sym}
use Rattle.hn_router.proofs.Planning.{has_run, took_words}
use Rattle.hn_router.proofs.router.run_and_find_due.Goals as goal

pub run-requires : goal.run-requires
run-requires g c =
    subst (λ (r : Running). IsRouter r.state) (sym c.requires.begun) (c.router_stays_later.ensures c.args.now c.args.state.now c.requires.router c.requires.not_before)

pub due_after-requires-clause-ran : goal.due_after-requires-clause-ran
due_after-requires-clause-ran g c =
    has_run c.args.now (plain_event c.args.event.now) _ _ c.args.state.now c.args.next.now c.run.new.running c.requires.begun c.in_ok-run.ensures

pub returns-clause-ran : goal.returns-clause-ran
returns-clause-ran g c =
    has_run c.args.now (plain_event c.args.event.now) _ _ c.args.state.now c.args.next.now c.run.new.running c.requires.begun c.in_ok-run.ensures

pub returns-clause-drew : goal.returns-clause-drew
returns-clause-drew g c =
    took_words c.args.now (plain_event c.args.event.now) _ _ c.args.state.now c.args.next.now c.run.new.running c.requires.begun c.in_ok-run.ensures
