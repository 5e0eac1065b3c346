-- The TLV that is written for an item decodes to it.
use Rattle.hn_base.proofs.Names.{◌≡◌, ℕ, ◌^◌, ◌<◌, ◌≤◌, List, [], ◌∷◌, ◌++◌, length, replicate, refl, ap, ◌∙◌, append_assoc, arith, inl, inr, append-nil, All-append, All-replicate, IsByte}
use Rattle.hn_typed.proofs.Names.{All, PlainTlv, padding, HasTlvs, PlainItem, HasSubs, After, Subs, Text, Anything, shape, fields_bytes, IsValue, IsItem, bytes_after, fixed_of, tail_of, tlv_of}
use Rattle.hn_typed.proofs.Names.{IsWritable}
use Rattle.hn_typed.specs.Written.{zeros_before, zeros_after, AreTlvs, IsTextAfter, zeros_of, value_of}

subs_written : (fixed subs : List ℕ) → HasTlvs subs → HasSubs fixed subs (fixed ++ replicate (zeros_before (length fixed) subs) 0 ++ subs)
subs_written fixed [] tlvs = ([], ap (λ (z : List ℕ). z ++ []) (append-nil fixed), (tlvs, inl (refl, refl)))
subs_written fixed (b ∷ bs) tlvs =
    let zeros : List ℕ = replicate (padding (length fixed)) 0 in
    (zeros ++ b ∷ bs, append_assoc fixed zeros (b ∷ bs), (tlvs, inr refl))

value_written : (fixed : List ℕ) (after : After) → AreTlvs after → IsTextAfter after → IsValue fixed after (fixed ++ replicate (zeros_after (length fixed) after) 0 ++ bytes_after after)
value_written fixed (Subs subs) tlvs text = subs_written fixed subs tlvs
value_written fixed (Text text) tlvs utf8 = (ap (λ (z : List ℕ). z ++ text) (append-nil fixed), utf8)
value_written fixed (Anything bytes) tlvs text = ap (λ (z : List ℕ). z ++ bytes) (append-nil fixed)

pub written_is_item : (item : PlainItem) → IsWritable item → IsItem (tlv_of item) item
written_is_item item w = record {
  in_range = w.in_range;
  other_kind = w.other_kind;
  spelled = (refl, [], value_written (fields_bytes [] (shape item).fields) (shape item).after w.tlvs_after w.text);
}

-- the bytes of a value are those of its parts
pub value_bytes : (item : PlainItem) → All IsByte (fixed_of item) → All IsByte (tail_of item) → All IsByte (value_of item)
value_bytes item fixed after =
    let zeros : List ℕ = replicate (zeros_of item) 0 in
    let zero : 0 < 2 ^ 8 = omega arith in
    let front : All IsByte (fixed_of item ++ zeros) = All-append IsByte (fixed_of item) zeros fixed (All-replicate IsByte (zeros_of item) 0 zero) in
    All-append IsByte (fixed_of item ++ zeros) (tail_of item) front after

-- ---- what was read can be written

pub after_read : (fixed : List ℕ) (after : After) (value : List ℕ) → IsValue fixed after value → AreTlvs after × IsTextAfter after
after_read fixed (Subs subs) value h = (h.2.0, tt)
after_read fixed (Text text) value h = (tt, h.1)
after_read fixed (Anything bytes) value h = (tt, tt)

pub read_can_be_written : (tlv : PlainTlv) (item : PlainItem) → IsItem tlv item → length (value_of item) ≤ 65535 → IsWritable item
read_can_be_written tlv item h short =
    let after = after_read (fields_bytes h.spelled.1 (shape item).fields) (shape item).after tlv.value h.spelled.2 in
    record { in_range = h.in_range; text = after.1; other_kind = h.other_kind; tlvs_after = after.0; short = short }
