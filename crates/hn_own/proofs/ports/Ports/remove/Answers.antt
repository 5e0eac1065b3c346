use Rattle.hn_base.proofs.Names.{◌≡◌, not, rules, tests, filter_same}
use Rattle.hn_own.proofs.Names.{Port, is_port}
use Rattle.hn_own.specs.Ports.{detached}
use Rattle.hn_own.proofs.PortLists.{ArePorts-filter}
use Rattle.hn_own.proofs.ports.Ports.remove.Goals as goal

kept : (c : goal.After-retain) → c.retain.new.self.items ≡ detached c.args.at c.self.inside.items.items
kept c = filter_same _ (λ (p : Port). not (is_port c.args.at p)) _ (λ (p : Port) b f k. search (rules, tests)) _ _ c.retain.ensures.filtered

pub invariant_of-self : goal.invariant_of-self
invariant_of-self c = rw (kept c) (ArePorts-filter (λ (p : Port). not (is_port c.args.at p)) c.self.inside.items.items c.self.invariant)

pub returns : goal.returns
returns c = rw (← c.self.view_is) (kept c)
