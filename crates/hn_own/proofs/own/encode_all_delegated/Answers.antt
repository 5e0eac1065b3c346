use Rattle.hn_base.proofs.Names.{get_or, subst}
use Rattle.hn_own.proofs.Names.{IsEncoding, OwnPrefix, delegated_item}
use Rattle.hn_own.proofs.OwnPieces.{bytes_more, writable_more}
use Rattle.hn_own.proofs.own.encode_all_delegated.Goals as goal

pub loop-own-preserved : goal.loop-own-preserved
loop-own-preserved c =
    let list = c.args.list.now in
    let i = c.loop-own.own-index in
    let own = c.own-item.result in
    let item = delegated_item c.args.now in
    let piece = c.in_ok-encode_delegated.field-0 in
    let encoding : IsEncoding piece (item (get_or list i own)) = subst (λ (x : OwnPrefix). IsEncoding piece (item x)) c.own-item.is c.in_ok-encode_delegated.ensures in
    record {
      bytes = rw (c.in_ok-extend_from_slice.ensures.items, c.as_slice-in-loop-own.ensures)
          (bytes_more item list i own c.loop-own.bytes.items piece c.loop-own-test.true c.loop-own.invariant.bytes encoding);
      writable = writable_more item list i own piece c.loop-own-test.true c.loop-own.invariant.writable encoding;
    }
