use Rattle.hn_base.proofs.Names.{on_ok_weaker}
use Rattle.hn_rules.proofs.TickParts.{ran_tick}
use Rattle.hn_rules.proofs.running.Running.tick.Goals as goal

pub settle-requires : goal.settle-requires
settle-requires g c = c.rules_keep_a_router.ensures.forgetting c.lose.new.self c.forget.new.self c.in_ok-forget.ensures c.in_ok-lose.ensures.router

pub returns : goal.returns
returns g c =
    on_ok_weaker c.tick_ports.result
    (λ ticks. ran_tick _ _ _ _ c.args.self.now c.lose.new.self c.forget.new.self c.settle.new.self c.tick_ports.new.self c.in_ok-lose.ensures.ran c.in_ok-forget.ensures c.in_ok-settle.ensures ticks)
    c.tick_ports.ensures
