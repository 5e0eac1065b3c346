use Rattle.hn_base.proofs.Names.{◌≡◌, not, rules, tests, filter_same}
use Rattle.hn_senders.proofs.Sendings.{order-filter}
use Rattle.hn_senders.specs.Senders.{sends_at, without_sender}
use Rattle.hn_senders.specs.declared.senders.Sending.{Sending}
use Rattle.hn_senders.proofs.senders.Senders.end.Goals as goal

kept : (c : goal.After-retain) → c.retain.new.self.items ≡ without_sender c.args.name.now c.args.endpoint c.self.inside.items.items
kept c = filter_same _ (λ (s : Sending). not (sends_at c.args.name.now c.args.endpoint s)) _ (λ (s : Sending) b f k. search (rules, tests)) _ _ c.retain.ensures.filtered

pub invariant_of-self : goal.invariant_of-self
invariant_of-self c = rw (kept c) (order-filter (λ (s : Sending). not (sends_at c.args.name.now c.args.endpoint s)) c.self.inside.items.items c.self.invariant)

pub returns : goal.returns
returns c = rw (← c.self.view_is) (kept c)
