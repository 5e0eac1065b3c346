use Rattle.hn_base.proofs.Names.{get_or, subst}
use Rattle.hn_own.proofs.Names.{IsEncoding, AssignedPrefix, assigned_item}
use Rattle.hn_own.proofs.OwnPieces.{encodings_more, writable_more}
use Rattle.hn_own.proofs.own.add_assigned_pieces.Goals as goal

pub loop-a-preserved : goal.loop-a-preserved
loop-a-preserved c =
    let assigned = c.args.assigned.now in
    let i = c.loop-a.a-index in
    let a = c.a-item.result in
    let piece = c.in_ok-encode_assigned.field-0 in
    let encoding : IsEncoding piece (assigned_item (get_or assigned i a)) = subst (λ (x : AssignedPrefix). IsEncoding piece (assigned_item x)) c.a-item.is c.in_ok-encode_assigned.ensures in
    record {
      pieces = rw c.in_ok-push.ensures.items (encodings_more assigned_item assigned i a c.args.pieces.now.items c.loop-a.pieces.items piece c.loop-a-test.true c.loop-a.invariant.pieces encoding);
      writable = writable_more assigned_item assigned i a piece c.loop-a-test.true c.loop-a.invariant.writable encoding;
    }
