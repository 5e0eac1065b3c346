use Rattle.hn_base.proofs.Names.{List, subst, sym}
use Rattle.hn_rules.proofs.Names.{Contains, PeerLink}
use Rattle.hn_rules.proofs.reaching.say_same_peers.Goals as goal

pub returns : goal.returns
returns c is link =
    let same = c.are_same.ensures.0 is in
    let of_a = c.peers.ensures.exact link in
    let of_b = c.peers-2.ensures.exact link in (
      λ has. of_b.0 (subst (λ (links : List PeerLink). Contains links link) same (of_a.1 has)),
      λ has. of_a.0 (subst (λ (links : List PeerLink). Contains links link) (sym same) (of_b.1 has)),
    )
