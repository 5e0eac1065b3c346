-- What was done with the TLVs of bytes up to a place.
use Rattle.hn_base.proofs.Names.{◌≡◌, ℕ, ◌≤◌, List, [], ◌∷◌, ◌++◌, length, take, Result, Ok, Err}
use Rattle.hn_data.proofs.Names.{PlainTlv, IsTlvList, IsTlvAt, IsItem, IsItemFault, plain_item, Decodes}
use Rattle.std.proofs.Common.{IfOk, IfErr}
use Rattle.hn_tlv.specs.Laws.{ListGrows}
use Rattle.hn_typed.specs.declared.fault.ItemFault.{ItemFault}
use Rattle.hn_typed.specs.declared.item.Item.{Item}

-- so it is of the TLVs up to a place
pub record IsDoneTo (P : List PlainTlv → Type 0) (bytes : List ℕ) (place : ℕ) : Type 0 where
  pub within : place ≤ length bytes
  pub tlvs : List PlainTlv
  pub list : IsTlvList tlvs (take place bytes)
  pub so_far : P tlvs

pub done_more : ListGrows → (P Q : List PlainTlv → Type 0) (bytes : List ℕ) (place after : ℕ) (tlv : PlainTlv) → IsTlvAt bytes place tlv after
    → ((tlvs : List PlainTlv) → P tlvs → Q (tlvs ++ tlv ∷ [])) → IsDoneTo P bytes place → IsDoneTo Q bytes after
done_more grows P Q bytes place after tlv here more done = record {
  within = here.within;
  tlvs = done.tlvs ++ tlv ∷ [];
  list = grows bytes place after tlv done.tlvs done.list here;
  so_far = more done.tlvs done.so_far;
}

-- what reading a TLV answers
pub decodes : (tlv : PlainTlv) (found : Result Item ItemFault) → IfOk found (λ item. IsItem tlv (plain_item item))
    → IfErr found (λ fault. IsItemFault tlv fault.why) → IfErr found (λ fault. fault.kind ≡ tlv.kind) → Decodes tlv found
decodes tlv (Ok item) is fault kind = is
decodes tlv (Err why) is fault kind = (kind, fault)
