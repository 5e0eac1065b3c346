use Rattle.hn_base.proofs.Names.{ℕ, subst, IsSooner}
use Rattle.hn_rules.proofs.Names.{IsExpiryMoment}
use Rattle.hn_rules.proofs.Dues.{peer_end}
use Rattle.hn_rules.proofs.state.State.next_of_peer.Goals as goal

pub returns : goal.returns
returns c =
    let peer = c.args.peer.now in
    let interval = c.interval-interval.result in
    peer_end c.items_are_unique.ensures c.args.self.now peer interval c.args.best c.next_expiry.result c.interval-interval.ensures
    (subst (λ (now : ℕ). IsSooner (IsExpiryMoment peer.contact interval) now c.args.best c.next_expiry.result) c.get.ensures.moment c.next_expiry.ensures)
