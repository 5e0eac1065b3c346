use Rattle.hn_base.proofs.Names.{on_ok_weaker}
use Rattle.hn_router.proofs.Names.{words_taken, IsRefresh, plain_event, IsEdit}
use Rattle.hn_base.proofs.RulesInTurn.{ran_both}
use Rattle.hn_router.proofs.Planning.{edit_runs}
use Rattle.hn_router.proofs.act.run_rules.Goals as goal

pub returns-in_ok-edit-in_default : goal.returns-in_ok-edit-in_default
returns-in_ok-edit-in_default g c =
    let event = plain_event c.args.event.now in
    let r = c.args.running.now in
    let a = c.refresh.new.self in
    on_ok_weaker c.refresh.result
    (λ ran.
    let both = ran_both words_taken (IsEdit event) IsRefresh _ _ _ r c.edit.new.running a c.in_ok-edit-in_default.ensures ran in
    record { holds = edit_runs c.args.event.now c.in_default.not-Arrive c.in_default.not-Tick r a both.holds; drew = both.drew })
    c.refresh.ensures.ran
