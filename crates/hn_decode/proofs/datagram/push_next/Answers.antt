use Rattle.hn_base.proofs.Names.{ℕ, ◌≡◌, ◌+◌, subst, arith}
use Rattle.hn_decode.proofs.Names.{plain, Shows}
use Rattle.hn_decode.proofs.TextSoFar.{shown_more}
use Rattle.hn_decode.proofs.datagram.push_next.Goals as goal

pub returns-clause-lines : goal.returns-clause-lines
returns-clause-lines c =
    let added = c.in_ok-push_tlv.ensures in
    let here : c.args.at ≡ 0 + c.args.at = omega arith in
    let shown : Shows 7 (0 + c.args.at) (plain c.tlv_at-after.result.0) added.0 = subst (λ (n : ℕ). Shows 7 n (plain c.tlv_at-after.result.0) added.0) here added.1 in (
      added.0,
      λ lines told.
          shown_more c.list_continues.ensures.splits (Shows 7) 0 c.args.bytes.now c.args.at c.tlv_at-after.result.1
          (plain c.tlv_at-after.result.0) lines added.0 told c.tlv_at-after.ensures shown,
      added.2,
    )
