use Rattle.hn_base.proofs.Names.{◌≡◌, ◌+◌, ◌∷◌, [], take, flat_map}
use Rattle.hn_node.proofs.Names.{HandsAll}
use Rattle.hn_node.proofs.sending.multicast.Given as goal

abbrev pub invariant-loop-peer : goal.invariant-loop-peer
invariant-loop-peer g l =
    let outside = g.W.Wire in
    record {
      sent : HandsAll (flat_map (λ peer. record { from = l.fn.site.port; to = peer + 1; bytes = l.fn.bytes } ∷ []) (take l.peer-index l.fn.site.peers.now))
          (outside.waiting l.fn.wire) (outside.waiting l.wire) l.fn.sent l.sent;
      no_fault : outside.faults l.wire ≡ outside.faults l.fn.wire;
      reliable : outside.never_fails l.fn.wire → outside.never_fails l.wire;
    }
