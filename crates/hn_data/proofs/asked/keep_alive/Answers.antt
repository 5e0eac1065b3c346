use Rattle.hn_base.proofs.Names.{◌≡◌, List, ap, ◌∙◌, rules, filter_map}
use Rattle.hn_data.proofs.Names.{PlainItem, interval_of}
use Rattle.hn_data.specs.Said.{keep_alive_of}
use Rattle.hn_data.proofs.asked.keep_alive.Goals as goal

pub returns-clause-each : goal.returns-clause-each
returns-clause-each c items are =
    let is = c.kept.ensures.kept in
    let here : c.unwrap_or.result ≡ keep_alive_of (filter_map interval_of is.items) c.args.e.0 = search rules in
    here ∙ ap (λ (xs : List PlainItem). keep_alive_of (filter_map interval_of xs) c.args.e.0) (c.kept.ensures.unique is.items items is.are are)
