use Rattle.hn_own.proofs.Names.{address_item}
use Rattle.hn_own.proofs.OwnPieces.{encodings_more, writable_more}
use Rattle.hn_own.proofs.own.add_address_pieces.Goals as goal

pub loop-a-preserved : goal.loop-a-preserved
loop-a-preserved c =
    let addresses = c.args.addresses.now in
    let i = c.loop-a.a-index in
    let piece = c.in_ok-encode_address.field-0 in
    record {
      pieces = rw c.in_ok-push.ensures.items (encodings_more address_item addresses i _ c.args.pieces.now.items c.loop-a.pieces.items piece
          c.loop-a-test.true c.loop-a.invariant.pieces c.in_ok-encode_address.ensures);
      writable = writable_more address_item addresses i _ piece c.loop-a-test.true c.loop-a.invariant.writable c.in_ok-encode_address.ensures;
    }
