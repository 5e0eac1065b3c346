use Rattle.hn_base.proofs.Names.{take, All, IfSome}
use Rattle.hn_kept.specs.Choosing.{plain_asked, IsTaker, MayBePassed}
use Rattle.hn_kept.proofs.choosing.Asked.first_helped.Given as goal

abbrev pub invariant-loop-wanted : goal.invariant-loop-wanted
invariant-loop-wanted l = record {
  passed : All (MayBePassed (plain_asked l.self) l.front) (take l.wanted-index l.self.preferred.now);
  taker : IfSome l.taker (IsTaker (plain_asked l.self) l.front);
}
