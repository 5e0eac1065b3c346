use Rattle.hn_base.proofs.Names.{List, ℕ, subst, IsSooner, IsOfElement}
use Rattle.hn_rules.proofs.Names.{sooner_both, Neighbour, IsPeerEnd}
use Rattle.hn_dncp.specs.Due.{IsPortDue}
use Rattle.hn_rules.proofs.state.State.next_of_port.Goals as goal

pub returns : goal.returns
returns c =
    let s = c.args.self.now in
    let port = c.args.port.now in
    let first = c.next_of_peers-first.result in
    sooner_both (IsOfElement (IsPeerEnd s.table.entries) port.peers) (IsPortDue port) s.moment c.args.best first c.next_due.result
    (subst (λ (peers : List Neighbour). IsSooner (IsOfElement (IsPeerEnd s.table.entries) peers) s.moment c.args.best first) c.as_slice.ensures.peers c.next_of_peers-first.ensures)
    (subst (λ (t : ℕ). IsSooner (IsPortDue port) t first c.next_due.result) c.get.ensures.moment c.next_due.ensures)
