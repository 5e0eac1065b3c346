use Rattle.hn_base.proofs.Names.{take, All}
use Rattle.hn_router.proofs.Names.{IsRangedAddress}
use Rattle.hn_router.proofs.act.addresses_in_range.Given as goal

abbrev pub invariant-loop-own : goal.invariant-loop-own
invariant-loop-own l = All IsRangedAddress (take l.own-index l.list)
