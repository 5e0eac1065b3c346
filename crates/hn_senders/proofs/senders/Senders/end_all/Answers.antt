use Rattle.hn_base.proofs.Names.{◌≡◌, not, rules, tests, filter_same}
use Rattle.hn_senders.specs.Senders.{without_senders, is_sender_of}
use Rattle.hn_senders.proofs.Sendings.{order-filter}
use Rattle.hn_senders.specs.declared.senders.Sending.{Sending}
use Rattle.hn_senders.proofs.senders.Senders.end_all.Goals as goal

kept : (c : goal.After-retain) → c.retain.new.self.items ≡ without_senders c.args.name.now c.self.inside.items.items
kept c = filter_same _ (λ (s : Sending). not (is_sender_of c.args.name.now s)) _ (λ (s : Sending) b f k. search (rules, tests)) _ _ c.retain.ensures.filtered

pub invariant_of-self : goal.invariant_of-self
invariant_of-self c = rw (kept c) (order-filter (λ (s : Sending). not (is_sender_of c.args.name.now s)) c.self.inside.items.items c.self.invariant)

pub returns : goal.returns
returns c = rw (← c.self.view_is) (kept c)
