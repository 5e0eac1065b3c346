use Rattle.hn_base.proofs.Names.{◌≡◌, take, flat_map}
use Rattle.hn_node.proofs.Names.{HandsAll}
use Rattle.hn_node.specs.Turns.{handed_by}
use Rattle.hn_node.proofs.sending.hand_all.Given as goal

abbrev pub invariant-loop-send : goal.invariant-loop-send
invariant-loop-send g l =
    let outside = g.W.Wire in
    record {
      sent : HandsAll (flat_map (handed_by (record { port = l.fn.site.port; peers = l.fn.site.peers.now })) (take l.send-index l.fn.sends))
          (outside.waiting l.fn.wire) (outside.waiting l.wire) l.fn.sent l.sent;
      no_fault : outside.faults l.wire ≡ outside.faults l.fn.wire;
      reliable : outside.never_fails l.fn.wire → outside.never_fails l.wire;
    }
