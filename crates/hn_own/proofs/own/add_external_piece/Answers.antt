use Rattle.hn_base.proofs.Names.{[], ◌≤◌, length, ◌∙◌, sym, subst, arith, All, All-cons, All-nil}
use Rattle.hn_own.proofs.Names.{HasTlvs, External, value_of, IsWritable}
use Rattle.hn_own.proofs.OwnPieces.{delegated_tlvs, external_is, external_added}
use Rattle.hn_own.proofs.OwnSizes.{external_short}
use Rattle.hn_own.proofs.own.add_external_piece.Goals as goal

pub encode-requires-clause-short : goal.encode-requires-clause-short
encode-requires-clause-short c =
    let small : length (value_of (External c.as_slice.result.now)) ≤ 256 =
    external_short c.args.now c.args.list.now c.as_slice.result.now c.requires (c.as_slice.ensures.value ∙ c.in_ok-subs.ensures.bytes) in
    omega arith

pub encode-requires-clause-subs : goal.encode-requires-clause-subs
encode-requires-clause-subs c =
    subst HasTlvs (sym (c.as_slice.ensures.value ∙ c.in_ok-subs.ensures.bytes)) (delegated_tlvs c.args.now c.args.list.now c.in_ok-subs.ensures.writable)

pub returns-clause-pieces : goal.returns-clause-pieces
returns-clause-pieces c =
    let one = external_is c.args.now c.args.list.now c.as_slice.result.now (sym c.is_empty.ensures ∙ c.if-is_empty.false) (c.as_slice.ensures.value ∙ c.in_ok-subs.ensures.bytes) in
    rw c.in_ok-push.ensures.items (external_added c.args.now c.args.list.now c.as_slice.result.now c.in_ok-encode.field-0 c.args.pieces.now.items one c.in_ok-encode.ensures.spelled)

pub returns-clause-writable : goal.returns-clause-writable
returns-clause-writable c =
    let one = external_is c.args.now c.args.list.now c.as_slice.result.now (sym c.is_empty.ensures ∙ c.if-is_empty.false) (c.as_slice.ensures.value ∙ c.in_ok-subs.ensures.bytes) in
    subst (All IsWritable) (sym one) (All-cons IsWritable (External c.as_slice.result.now) [] c.in_ok-encode.ensures.writable (All-nil IsWritable))
