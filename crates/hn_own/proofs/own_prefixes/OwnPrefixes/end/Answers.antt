use Rattle.hn_base.proofs.Names.{◌≡◌, not, rules, tests, filter_same}
use Rattle.hn_own.proofs.Names.{OwnPrefix, has_ended}
use Rattle.hn_own.specs.OwnPrefixes.{delegated_after}
use Rattle.hn_own.proofs.PrefixOrder.{own-filter}
use Rattle.hn_own.proofs.own_prefixes.OwnPrefixes.end.Goals as goal

kept : (c : goal.After-retain) → c.retain.new.self.items ≡ delegated_after c.args.now c.self.inside.items.items
kept c = filter_same _ (λ (p : OwnPrefix). not (has_ended c.args.now p.valid_until)) _ (λ (p : OwnPrefix) b f k. search (rules, tests)) _ _ c.retain.ensures.filtered

pub invariant_of-self : goal.invariant_of-self
invariant_of-self c = rw (kept c) (own-filter (λ (p : OwnPrefix). not (has_ended c.args.now p.valid_until)) c.self.inside.items.items c.self.invariant)

pub returns : goal.returns
returns c = rw (← c.self.view_is) (kept c)
