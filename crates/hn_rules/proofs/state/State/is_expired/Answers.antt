use Rattle.hn_base.proofs.Names.{◌≡◌, ap, sym, ◌∙◌, ℕ}
use Rattle.hn_rules.proofs.Names.{held}
use Rattle.hn_timers.specs.KeepAlive.{is_expired}
use Rattle.hn_rules.proofs.Without.{interval-unique}
use Rattle.hn_rules.proofs.state.State.is_expired.Goals as goal

pub returns : goal.returns
returns c =
    let s = c.args.self.now in
    let peer = c.args.peer.now in
    let interval = c.interval-interval.result in
    let has = c.interval-interval.ensures in
    let said : c.expired.result ≡ is_expired peer.contact interval s.moment = c.expired.ensures ∙ ap (is_expired peer.contact interval) c.get.ensures.moment in (
      λ is. (interval, has, sym said ∙ is),
      λ w. said ∙ ap (λ (i : ℕ). is_expired peer.contact i s.moment) (interval-unique c.items_are_unique.ensures (held s.table.entries peer.node.0) peer.endpoint interval w.0 has w.1) ∙ w.2,
    )
