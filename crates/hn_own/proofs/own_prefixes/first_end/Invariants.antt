use Rattle.hn_base.proofs.Names.{take, IsSooner, IsOfElement}
use Rattle.hn_own.proofs.Names.{IsOwnPrefixEnd}
use Rattle.hn_own.proofs.own_prefixes.first_end.Given as goal

abbrev pub invariant-loop-own : goal.invariant-loop-own
invariant-loop-own l = IsSooner (IsOfElement IsOwnPrefixEnd (take l.own-index l.list)) l.now l.best l.first
