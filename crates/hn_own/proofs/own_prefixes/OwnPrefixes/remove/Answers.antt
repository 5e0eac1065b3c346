use Rattle.hn_base.proofs.Names.{not}
use Rattle.hn_own.proofs.Names.{OwnPrefix, is_prefix}
use Rattle.hn_own.proofs.PrefixOrder.{own-filter}
use Rattle.hn_own.proofs.own_prefixes.OwnPrefixes.remove.Goals as goal

pub invariant_of-self : goal.invariant_of-self
invariant_of-self c = rw c.leave.ensures.list (own-filter (λ (p : OwnPrefix). not (is_prefix c.args.prefix.now p)) c.self.inside.items.items c.self.invariant)

pub returns : goal.returns
returns c = rw (← c.self.view_is) c.leave.ensures.list
