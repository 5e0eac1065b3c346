use Rattle.hn_base.proofs.Names.{◌≡◌, not, rules, tests, ◌==◌, filter_same}
use Rattle.hn_own.proofs.Names.{OwnAddress, addresses_without}
use Rattle.hn_own.proofs.AddressLists.{AreAddresses-without}
use Rattle.hn_own.proofs.addresses.Addresses.remove.Goals as goal

kept : (c : goal.After-retain) → c.retain.new.self.items ≡ addresses_without c.args.at c.self.inside.items.items
kept c = filter_same _ (λ (a : OwnAddress). not (a.0.0 == c.args.at.0)) _ (λ (a : OwnAddress) b f k. search (rules, tests)) _ _ c.retain.ensures.filtered

pub invariant_of-self : goal.invariant_of-self
invariant_of-self c = rw (kept c) (AreAddresses-without c.args.at c.self.inside.items.items c.self.invariant)

pub returns : goal.returns
returns c = rw (← c.self.view_is) (kept c)
