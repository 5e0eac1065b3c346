use Rattle.hn_base.proofs.Names.{take, IsSooner, IsOfElement}
use Rattle.hn_rules.proofs.Names.{IsPeerEnd}
use Rattle.hn_rules.proofs.state.State.next_of_peers.Given as goal

abbrev pub invariant-loop-peer : goal.invariant-loop-peer
invariant-loop-peer l = IsSooner (IsOfElement (IsPeerEnd l.self.table.entries) (take l.peer-index l.peers)) l.self.moment l.best l.first
