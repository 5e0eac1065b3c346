use Rattle.hn_base.proofs.Names.{ℕ, ◌+◌, ◌∷◌, [], List, get_or, refl, subst, arith}
use Rattle.hn_node.proofs.Names.{on_err, Datagram, HandsPart}
use Rattle.std.proofs.lemmas.List.Concat.{flat_map_single}
use Rattle.hn_node.proofs.Sent.{none_handed, none_of_one, part_handed}
use Rattle.hn_node.proofs.sending.multicast.Goals as goal

pub loop-peer-init : goal.loop-peer-init
loop-peer-init g c = record { sent = none_handed _ _; no_fault = search; reliable = search }

pub returns-in_err-send_one-clause-cut : goal.returns-in_err-send_one-clause-cut
returns-in_err-send_one-clause-cut g c =
    let outside = g.W.Wire in
    let peers = c.args.site.now.peers.now in
    let i = c.loop-peer.peer-index in
    let to : ℕ → Datagram = λ peer. record { from = c.args.site.now.port; to = peer + 1; bytes = c.args.bytes.now } in
    let failed = c.in_err-send_one.ensures in
    let part = part_handed (λ peer. to peer ∷ []) peers i (get_or peers i 0) 0 _ _ _ _ _ _ (omega arith) refl c.loop-peer.invariant.sent
    (none_of_one (to (get_or peers i 0)) (outside.waiting c.loop-peer.wire) (outside.waiting c.send_one.new.wire) c.loop-peer.sent c.send_one.new.sent failed.waiting failed.sent) in
    on_err c.from_residual.result _ (subst (λ (ds : List Datagram). HandsPart ds (outside.waiting c.args.wire.now) (outside.waiting c.send_one.new.wire) c.args.sent.now c.send_one.new.sent)
    (flat_map_single to peers) part)
