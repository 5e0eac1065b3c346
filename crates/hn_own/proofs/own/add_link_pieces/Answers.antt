use Rattle.hn_own.proofs.Names.{PeerLink, peer_item}
use Rattle.hn_own.proofs.OwnPieces.{encodings_more, writable_more}
use Rattle.hn_own.proofs.own.add_link_pieces.Goals as goal

pub loop-link-preserved : goal.loop-link-preserved
loop-link-preserved c =
    let links = c.args.links.now in
    let i = c.loop-link.link-index in
    let none : PeerLink = record { endpoint = record { 0 = 0 }; peer = record { 0 = 0 }; peer_endpoint = record { 0 = 0 } } in
    let piece = c.in_ok-encode_link.field-0 in
    record {
      pieces = rw c.in_ok-push.ensures.items (encodings_more peer_item links i none c.args.pieces.now.items c.loop-link.pieces.items piece
          c.loop-link-test.true c.loop-link.invariant.pieces c.in_ok-encode_link.ensures);
      writable = writable_more peer_item links i none piece c.loop-link-test.true c.loop-link.invariant.writable c.in_ok-encode_link.ensures;
    }
