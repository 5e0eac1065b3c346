use Rattle.hn_base.proofs.Names.{take}
use Rattle.hn_deleg.proofs.Live.{AreAdded}
use Rattle.hn_deleg.proofs.announcements.add_live.Given as goal

abbrev pub invariant-loop-d : goal.invariant-loop-d
invariant-loop-d l = AreAdded l.initial.list.items l.list.items l.age (take l.d-index l.delegations)
