-- What lies within an item is no longer than the TLV's value.
use Rattle.hn_base.proofs.Names.{ℕ, ◌≤◌, List, [], ◌++◌, length, replicate, refl, ap, arith, inl, inr}
use Rattle.hn_decode.proofs.Names.{PlainTlv, HasTlvs, PlainItem, NodeState, IsItem, within, HoldsNodeData}
use Rattle.std.proofs.lemmas.List.{length-append}
use Rattle.hn_tlv.specs.Grammar.{padding}
use Rattle.hn_typed.specs.Item.{Version, Other}
use Rattle.hn_typed.specs.Fields.{ThenSubs}
use Rattle.hn_typed.specs.Shape.{After, Subs, Text, Anything, shape, fields_bytes}
use Rattle.hn_typed.specs.Table.{IsValue}
use Rattle.hn_typed.specs.Written.{bytes_after, AreTlvs, tail_of, HasTlvsAfter}

then_subs_fit : (len : ℕ) (after subs : List ℕ) → ThenSubs len after subs → length subs ≤ length after
then_subs_fit len after subs (_, inl none) = omega (arith, ap length none.1)
then_subs_fit len after subs (_, inr parts) = omega (arith, ap length parts, length-append (replicate (padding len) 0) subs)

after_fits : (fields : List ℕ) (after : After) (value : List ℕ) → IsValue fields after value → length (bytes_after after) ≤ length value
after_fits fields (Subs subs) value h = omega (arith, then_subs_fit (length fields) h.0 subs h.2, ap length h.1, length-append fields h.0)
after_fits fields (Text text) value h = omega (arith, ap length h.0, length-append fields text)
after_fits fields (Anything bytes) value h = omega (arith, ap length h, length-append fields bytes)

tail_fits : (tlv : PlainTlv) (item : PlainItem) → IsItem tlv item → length (tail_of item) ≤ length tlv.value
tail_fits tlv item h = after_fits (fields_bytes h.spelled.1 (shape item).fields) (shape item).after tlv.value h.spelled.2

pub length-within-le : (tlv : PlainTlv) (item : PlainItem) → IsItem tlv item → length (within item) ≤ length tlv.value
length-within-le tlv (Version caps agent) h = omega arith
length-within-le tlv (Other kind value) h = omega arith
length-within-le tlv item h = tail_fits tlv item h

after_tlvs : (fields : List ℕ) (after : After) (value : List ℕ) → IsValue fields after value → AreTlvs after
after_tlvs fields (Subs subs) value h = h.2.0
after_tlvs fields (Text text) value h = tt
after_tlvs fields (Anything bytes) value h = tt

tlvs_after : (tlv : PlainTlv) (item : PlainItem) → IsItem tlv item → HasTlvsAfter item
tlvs_after tlv item h = after_tlvs (fields_bytes h.spelled.1 (shape item).fields) (shape item).after tlv.value h.spelled.2

-- what lies within an item that is no node state is a list of TLVs
pub list_within : (tlv : PlainTlv) (item : PlainItem) → IsItem tlv item → (HoldsNodeData item → HasTlvs (within item)) → HasTlvs (within item)
list_within tlv (NodeState node number age hash data') h body = body tt
list_within tlv (Version caps agent) h body = ([], refl)
list_within tlv (Other kind value) h body = ([], refl)
list_within tlv item h body = tlvs_after tlv item h
