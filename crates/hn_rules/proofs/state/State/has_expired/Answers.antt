use Rattle.hn_base.proofs.Names.{◌≡◌, ◌∙◌, Some, ap, subst, All}
use Rattle.hn_rules.proofs.Names.{Neighbour, Port, port_at, IsExpired}
use Rattle.hn_rules.proofs.state.State.has_expired.Goals as goal

pub returns-in-Some : goal.returns-in-Some
returns-in-Some c none port found =
    let both : Some c.in-Some.port.now ≡ Some port = c.in-Some.ensures ∙ ap (port_at c.args.at) c.get.ensures ∙ found in
    let same : c.in-Some.port.now ≡ port = cc in
    subst (All (λ (peer : Neighbour). ¬ (IsExpired c.args.self.now peer))) (c.as_slice.ensures.peers ∙ ap (λ (p : Port). p.peers) same) (c.is_some_expired.ensures none)
