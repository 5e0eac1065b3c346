use Rattle.hn_base.proofs.Names.{◌∙◌, ℕ, List, ap, sym, subst}
use Rattle.hn_rules.proofs.Names.{PlainData, IsOwnData, HaveSamePeers}
use Rattle.hn_rules.proofs.Refreshing.{publishes}
use Rattle.hn_rules.proofs.running.Running.publish_items.Goals as goal

pub returns-clause-publishes : goal.returns-clause-publishes
returns-clause-publishes c =
    let own = c.in_ok-self.field-0 in
    publishes c.args.number c.body-3.result.now own c.args.self.now c.enter.new.self
    (subst IsOwnData (c.own.view_is ∙ sym c.in_ok-self.ensures) c.own.invariant)
    (ap (λ (d : PlainData). d.items) c.in_ok-self.ensures ∙ c.in_ok-own.ensures.items ∙ c.requires.items)
    (ap (λ (d : PlainData). d.born) c.in_ok-self.ensures ∙ c.in_ok-own.ensures.born ∙ c.get.ensures.moment)
    (c.body-3.ensures.body ∙ ap (λ (d : PlainData). d.body) (sym c.in_ok-self.ensures))
    c.in_ok-enter.ensures

pub returns-clause-peers : goal.returns-clause-peers
returns-clause-peers c is =
    let before = c.body.ensures.body ∙ ap (λ (d : PlainData). d.body) c.get-2.ensures in
    let after = c.body-2.ensures.body ∙ ap (λ (d : PlainData). d.body) (sym c.in_ok-self.ensures) in
    subst (λ (body : List ℕ). HaveSamePeers c.args.self.now.state.own.body body) after
    (subst (λ (body : List ℕ). HaveSamePeers body c.body-2.result.now) before (c.say_same_peers-same.ensures is))
