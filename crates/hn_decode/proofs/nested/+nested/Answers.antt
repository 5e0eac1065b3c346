use Rattle.hn_base.proofs.Names.{◌≡◌, ℕ, ◌<◌, ◌≤◌, List, ◌++◌, length, string_bytes, ap, ◌∙◌, append_assoc, arith, rules}
use Rattle.hn_decode.proofs.Names.{HasTlvs, plain, PlainItem, within, IsLineAbove, IsLineAlone, Shows, GrowsByText}
use Rattle.hn_decode.proofs.Within.{length-within-le}
use Rattle.hn_decode.proofs.TextSoFar.{shown_more, shown_all, shows_line, added_within}
use Rattle.hn_decode.proofs.nested.+nested.Goals as goal

pub push_list-loop-at-preserved : goal.push_list-loop-at-preserved
push_list-loop-at-preserved t c =
    let so_far = c.loop-at.invariant in
    let added = c.in_ok-push_tlv.ensures in (
      so_far.0 ++ added.0,
      shown_more c.list_continues.ensures.splits (Shows c.args.below) c.args.place c.args.bytes.now c.loop-at.at c.tlv_at-after.result.1
          (plain c.tlv_at-after.result.0) so_far.0 added.0 so_far.1 c.tlv_at-after.ensures added.1,
      added.2 ∙ ap (λ (z : List ℕ). z ++ added.0) so_far.2 ∙ append_assoc (string_bytes c.args.out.now) so_far.0 added.0,
    )

pub push_list-returns : goal.push_list-returns
push_list-returns t c =
    let so_far = c.loop-at.invariant in
    let before_end : c.loop-at.at ≤ length c.args.bytes.now = so_far.1.before_end in
    (so_far.0, shown_all (Shows c.args.below) c.args.place c.args.bytes.now c.loop-at.at so_far.0 so_far.1 (omega arith), so_far.2)

pub push_tlv-returns-in_default : goal.push_tlv-returns-in_default
push_tlv-returns-in_default t c =
    let alone : GrowsByText (IsLineAlone c.args.below c.args.place (plain c.args.tlv.now)) (string_bytes c.args.out.now) (string_bytes c.push_line.new.out) =
    rw c.in_default.is at c.in_ok-inner.ensures.alone in
    (alone.0, shows_line c.args.below c.args.place (plain c.args.tlv.now) alone.0 alone.1, alone.2)

pub push_tlv-overflow_sub-inner_place : goal.push_tlv-overflow_sub-inner_place
push_tlv-overflow_sub-inner_place t c =
    let above : (item : PlainItem) × (c.in-Some.inner.now ≡ within item)
    × GrowsByText (IsLineAbove c.args.below c.args.place (plain c.args.tlv.now) item) (string_bytes c.args.out.now) (string_bytes c.push_line.new.out) =
    rw c.in-Some.is at c.in_ok-inner.ensures.above in
    rw above.1 (length-within-le (plain c.args.tlv.now) above.0 above.2.1.is_item)

pub push_tlv-push_list-requires : goal.push_tlv-push_list-requires
push_tlv-push_list-requires t c =
    let above : (item : PlainItem) × (c.in-Some.inner.now ≡ within item)
    × GrowsByText (IsLineAbove c.args.below c.args.place (plain c.args.tlv.now) item) (string_bytes c.args.out.now) (string_bytes c.push_line.new.out) =
    rw c.in-Some.is at c.in_ok-inner.ensures.above in
    let levels : 0 < c.args.below = above.2.1.has_lines.0 in
    let list : HasTlvs c.in-Some.inner.now = rw above.1 above.2.1.has_lines.1 in
    let fits : length c.in-Some.inner.now ≤ length c.args.tlv.now.value.now = rw above.1 (length-within-le (plain c.args.tlv.now) above.0 above.2.1.is_item) in
    (search rules, (list, (omega arith, omega arith)))

pub push_tlv-returns : goal.push_tlv-returns
push_tlv-returns t c =
    let above : (item : PlainItem) × (c.in-Some.inner.now ≡ within item)
    × GrowsByText (IsLineAbove c.args.below c.args.place (plain c.args.tlv.now) item) (string_bytes c.args.out.now) (string_bytes c.push_line.new.out) =
    rw c.in-Some.is at c.in_ok-inner.ensures.above in
    added_within c.args.below c.args.place (plain c.args.tlv.now) c.in-Some.inner.now (string_bytes c.args.out.now) (string_bytes c.push_line.new.out)
    (string_bytes c.push_list.new.out) c.push_list.result above c.push_list.ensures
