use Rattle.hn_base.proofs.Names.{◌≡◌, ◌∙◌, true, position, get_or, set, None, Some, sym, ap, subst}
use Rattle.hn_own.proofs.Names.{hashed, Port, ArePorts, is_port, heard_at}
use Rattle.hn_own.proofs.PortLists.{heard_at-set, heard_at-none, ArePorts-heard}
use Rattle.hn_own.proofs.ports.Ports.hear.Goals as goal

pub invariant_of-self : goal.invariant_of-self
invariant_of-self c =
    let ports = c.self.inside.items.items in
    let place = c.in-Some.place in
    let read = c.index_mut.result.now in
    let found : position (is_port c.args.at) ports ≡ Some place = ap (position (is_port c.args.at)) (sym c.deref.ensures.value) ∙ sym c.in-Some.ensures in
    let next : c.hash-asks.new.self ≡ hashed true (Some c.args.sender) c.args.now (get_or ports place read) =
    c.hash-asks.ensures.port ∙ ap (hashed true (Some c.args.sender) c.args.now) c.index_mut.ensures.value in
    subst (λ (port : Port). ArePorts (set ports place port)) (sym next) (ArePorts-heard c.args.at c.args.sender c.args.now ports place read c.self.invariant found)

pub returns-in-Some : goal.returns-in-Some
returns-in-Some c =
    let ports = c.self.inside.items.items in
    let place = c.in-Some.place in
    let read = c.index_mut.result.now in
    let found : position (is_port c.args.at) ports ≡ Some place = ap (position (is_port c.args.at)) (sym c.deref.ensures.value) ∙ sym c.in-Some.ensures in
    let next : c.hash-asks.new.self ≡ hashed true (Some c.args.sender) c.args.now (get_or ports place read) =
    c.hash-asks.ensures.port ∙ ap (hashed true (Some c.args.sender) c.args.now) c.index_mut.ensures.value in
    ap (set ports place) next ∙ sym (heard_at-set c.args.at c.args.sender c.args.now ports place read c.self.invariant found)
    ∙ ap (heard_at c.args.at c.args.sender c.args.now) c.self.view_is

pub returns-in_default : goal.returns-in_default
returns-in_default c =
    let none : position (is_port c.args.at) c.args.self.now ≡ None = rw (← c.self.view_is, ← c.deref.ensures.value) (sym c.place_of.ensures ∙ c.in_default.is) in
    sym (heard_at-none c.args.at c.args.sender c.args.now c.args.self.now none)
