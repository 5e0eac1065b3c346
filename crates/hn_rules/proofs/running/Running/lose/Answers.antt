use Rattle.hn_base.proofs.Names.{◌∙◌, subst, sym, or_parts, on_ok_weaker}
use Rattle.hn_rules.proofs.Names.{Running, IsRefreshed}
use Rattle.hn_rules.proofs.ReachStays.{knows_refreshed, knows_ended}
use Rattle.hn_rules.proofs.TickParts.{ran_losing}
use Rattle.hn_rules.proofs.running.Running.lose.Goals as goal

pub refresh_after-requires-clause-untouched : goal.refresh_after-requires-clause-untouched
refresh_after-requires-clause-untouched g c none =
    let both = or_parts c.in_ok-expired.expired c.in_ok-ended.ended none in
    let same = c.in_ok-ended.ensures.untouched both.1 ∙ c.in_ok-expired.ensures.untouched both.0 in
    subst (λ (r : Running). IsRefreshed r.state) (sym same) c.requires.refreshed

pub returns-clause-ran : goal.returns-clause-ran
returns-clause-ran g c =
    on_ok_weaker c.refresh_after.result
    (λ ran. ran_losing _ _ c.args.self.now c.expire_ports.new.self c.end_prefixes.new.self c.refresh_after.new.self c.in_ok-expired.ensures.rule c.in_ok-ended.ensures.rule ran)
    c.refresh_after.ensures.ran

pub returns-clause-router : goal.returns-clause-router
returns-clause-router g c =
    let expired = c.rules_keep_the_rest.ensures.expiry c.args.self.now c.expire_ports.new.self c.in_ok-expired.ensures.rule c.requires.well in
    let ended = c.rules_keep_the_rest.ensures.ending c.expire_ports.new.self c.end_prefixes.new.self c.in_ok-ended.ensures.rule expired in
    on_ok_weaker c.refresh_after.result (λ ran. c.refresh_makes_a_router.ensures c.end_prefixes.new.self c.refresh_after.new.self ran.holds ended) c.refresh_after.ensures.ran

pub refresh_after-requires-clause-linked : goal.refresh_after-requires-clause-linked
refresh_after-requires-clause-linked g c _ =
    knows_ended c.args.self.now c.expire_ports.new.self c.end_prefixes.new.self c.in_ok-expired.ensures.rule c.in_ok-ended.ensures.rule
    (knows_refreshed c.args.self.now.state c.requires.refreshed)
