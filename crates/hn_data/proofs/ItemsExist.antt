-- Numbers are node data with items, or they are none.
use Rattle.hn_base.proofs.Names.{◌⊎◌, ℕ, List, [], ◌∷◌, refl, inl, inr}
use Rattle.hn_data.proofs.Names.{PlainTlv, IsTlvList, PlainItem, IsItem, IsItemFault, IsReading}
use Rattle.hn_base.proofs.SoOrNot.{bytes_or_not}
use Rattle.hn_tlv.specs.Laws.{ListIsOfBytes, ListHasNoFirstFault, ListOrFirstFault}
use Rattle.hn_typed.specs.Laws.{ItemHasNoFault, ItemOrFault}
use Rattle.hn_data.specs.Laws.{ItemsOrNone}

module _ (of_bytes : ListIsOfBytes) (no_list : ListHasNoFirstFault) (list_or_fault : ListOrFirstFault)
    (no_item : ItemHasNoFault) (item_or_fault : ItemOrFault) where
  reading : (tlvs : List PlainTlv) (bytes : List ℕ) → IsTlvList tlvs bytes → (items : List PlainItem) × IsReading tlvs items
  reading [] bytes list = ([], refl)
  reading (tlv ∷ tlvs) bytes list = go (reading tlvs list.0 list.3) (item_or_fault tlv list.1)
    where
      go : (rest : List PlainItem) × IsReading tlvs rest → ((item : PlainItem) × IsItem tlv item) ⊎ ((why : ℕ) × IsItemFault tlv why) → (items : List PlainItem) × IsReading (tlv ∷ tlvs) items
      go (rest, read) (inl (item, is)) = (item ∷ rest, inl (item, rest, is, refl, read))
      go (rest, read) (inr (why, fault)) = (rest, inr (λ item is. no_item tlv item why is fault, read))

  pub has_items_or_none : ItemsOrNone
  has_items_or_none bytes = elim (bytes_or_not bytes) [
    | inr other ↦ inr (λ items are. other (of_bytes are.tlvs bytes are.list))
    | inl are_bytes ↦
        elim (list_or_fault bytes are_bytes) [
          | inl (tlvs, list) ↦ let read = reading tlvs bytes list in inl (read.0, record { tlvs = tlvs; list = list; read = read.1 })
          | inr (place, why, fault) ↦ inr (λ items are. no_list bytes place why fault (are.tlvs, are.list))
        ]
  ]
