-- Readings of lists of TLVs are unique.
use Rattle.hn_base.proofs.Names.{◌≡◌, ℕ, List, [], ◌∷◌, ◌↔◌, inl, inr, sym, ◌∙◌, subst, Contains}
use Rattle.hn_data.proofs.Names.{PlainTlv, PlainItem, ItemIsUnique, IsReading, AreItems, HasItems}
use Rattle.hn_tlv.specs.Laws.{ListIsUnique}

-- bytes have at most one list of items
abbrev pub HasOneReading : List ℕ → Type 0
HasOneReading bytes = (a b : List PlainItem) → AreItems bytes a → AreItems bytes b → a ≡ b

-- the laws of lists and of items
module _ (same_list : ListIsUnique) (same_item : ItemIsUnique) where
  -- TLVs have at most one list of items
  reading_is_unique : (tlvs : List PlainTlv) (a b : List PlainItem) → IsReading tlvs a → IsReading tlvs b → a ≡ b
  reading_is_unique [] a b p q = p ∙ sym q
  reading_is_unique (tlv ∷ tlvs) a b (inl p) (inl q) =
      let here = same_item tlv p.0 q.0 p.2 q.2 in
      let rest = reading_is_unique tlvs p.1 q.1 p.4 q.4 in
      cc (p.3, q.3)
  reading_is_unique (tlv ∷ tlvs) a b (inl p) (inr q) = absurd (q.0 p.0 p.2)
  reading_is_unique (tlv ∷ tlvs) a b (inr p) (inl q) = absurd (p.0 q.0 q.2)
  reading_is_unique (tlv ∷ tlvs) a b (inr p) (inr q) = reading_is_unique tlvs a b p.1 q.1

  pub items_unique : (bytes : List ℕ) → HasOneReading bytes
  items_unique bytes a b p q =
      let same = same_list p.tlvs q.tlvs bytes p.list q.list in
      let read : IsReading q.tlvs a = subst (λ (ts : List PlainTlv). IsReading ts a) same p.read in
      reading_is_unique q.tlvs a b read q.read

-- what holds of the items of bytes is what holds of one list of them
pub reads_at : (bytes : List ℕ) (items : List PlainItem) (P : List PlainItem → Type 0) → HasOneReading bytes → AreItems bytes items → P items ↔ HasItems bytes P
reads_at bytes items P one are = (λ p. (items, are, p), λ r. subst P (one r.0 items r.1 are) r.2)

-- a list that has what some items of the bytes have, has what the items of the bytes have
pub contains_read : {A : Type 0} (bytes : List ℕ) (items : List PlainItem) (kept shown : List A) (a : A) (P : List PlainItem → Type 0)
    → shown ≡ kept → HasOneReading bytes → AreItems bytes items → (Contains kept a ↔ P items) → Contains shown a ↔ HasItems bytes P
contains_read {A} bytes items kept shown a P same one are kept_are =
    let reads = reads_at bytes items P one are in (
      λ p. reads.0 (kept_are.0 (subst (λ (xs : List A). Contains xs a) same p)),
      λ r. subst (λ (xs : List A). Contains xs a) (sym same) (kept_are.1 (reads.1 r)),
    )
