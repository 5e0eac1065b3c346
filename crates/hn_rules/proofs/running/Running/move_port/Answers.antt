use Rattle.hn_dncp.specs.Tick.{words_of_tick}
use Rattle.hn_rules.proofs.Ticking.{port_moves}
use Rattle.hn_rules.proofs.running.Running.move_port.Goals as goal

pub returns-clause-ran : goal.returns-clause-ran
returns-clause-ran g c =
    let renewed = c.tick-renewed in
    port_moves c.get.result c.args.port renewed.new.self (words_of_tick renewed.result) c.taken.result.now _ _ c.args.self.now c.took_words.new.self c.put_port.new.self
    c.get.ensures.moment renewed.ensures.port renewed.ensures.count renewed.ensures.drew c.taken.ensures c.in_ok-took_words.ensures c.in_ok-put_port.ensures
