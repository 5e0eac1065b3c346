use Rattle.hn_base.proofs.Names.{◌≡◌, position, None, sym}
use Rattle.hn_dncp.proofs.Names.{Neighbour, is_peer, map-unpassed}
use Rattle.hn_dncp.proofs.PeerLemmas.{renewed}
use Rattle.hn_dncp.proofs.peers.Peers.hear.Goals as goal

pub returns-in-Some : goal.returns-in-Some
returns-in-Some c =
    let renew = λ (peer : Neighbour). record peer { contact = c.args.now } in
    rw (← c.self.view_is) (sym (renewed c.args.node c.args.endpoint renew c.self.inside.items.items c.in-Some.place c.index_mut.result.now c.self.invariant (cc) (cc)))

pub returns-in_default : goal.returns-in_default
returns-in_default c =
    let renew = λ (peer : Neighbour). record peer { contact = c.args.now } in
    let none : position (is_peer c.args.node c.args.endpoint) c.args.self.now ≡ None = cc in
    sym (map-unpassed (is_peer c.args.node c.args.endpoint) renew c.args.self.now none)
