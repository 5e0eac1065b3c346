use Rattle.hn_base.proofs.Names.{◌∙◌, ap, inl, inr, sym, on_ok_weaker}
use Rattle.hn_router.proofs.Names.{words_taken, Running, plain_event, IsEvent}
use Rattle.hn_base.proofs.RulesInTurn.{ran_plain}
use Rattle.hn_router.specs.Act.{HasRun}
use Rattle.hn_router.proofs.act.run.Goals as goal

pub returns-then-refuses : goal.returns-then-refuses
unfolding HasRun
returns-then-refuses g c =
    let event = plain_event c.args.event.now in
    on_ok_weaker c.note.result
    (λ noted. ran_plain words_taken (IsEvent event) _ c.args.running.now c.note.new.self (inl (sym c.refuses.ensures ∙ c.if-refuses.true, noted)) (ap (λ (r : Running). r.done.words) noted))
    c.note.ensures

pub returns : goal.returns
unfolding HasRun
returns g c =
    on_ok_weaker c.run_rules.result (λ ran. record { holds = inr (sym c.refuses.ensures ∙ c.if-refuses.false, ran.holds); drew = ran.drew }) c.run_rules.ensures
