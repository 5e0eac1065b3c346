-- Pieces that are the TLVs of items, joined and read again.
use Rattle.hn_base.proofs.Names.{◌≡◌, ◌↔◌, ◌∙◌, ℕ, ◌<◌, ◌^◌, List, [], ◌∷◌, ◌++◌, length, replicate, Contains, refl, sym, ap, subst, inl, ⊎_elim, arith, lit<, concat, append-nil, All-contains}
use Rattle.hn_base.proofs.Names.{All-weaker, All-contains_itself, All-tail, All-head, Contains-append_left, Contains-append_right, IsByte}
use Rattle.hn_data.proofs.Names.{Contains-head, PlainTlv, IsTlvList, PlainItem, IsItem, ItemIsUnique, IsReading, HasItems, AreBytes}
use Rattle.std.proofs.Common.{All}
use Rattle.hn_base.proofs.AscendingLists.{nothing_in, Contains-tail, Contains-cases}
use Rattle.hn_tlv.specs.Grammar.{IsTlv, header, unpadded, padding, spelling}
use Rattle.hn_tlv.specs.Laws.{SpellingIsPrefixFree}
use Rattle.hn_typed.specs.Item.{Other}
use Rattle.hn_typed.specs.Table.{InRange}
use Rattle.hn_typed.specs.Written.{kind_of, value_of, tlv_of, IsWritable}
use Rattle.hn_typed.specs.Laws.{WrittenIsRead}
use Rattle.hn_data.specs.OwnData.{IsEncoded, IsWrittenIn, IsAscendingSet}

front : {A : Type 0} (P : A → Type 0) (xs ys : List A) → All P (xs ++ ys) → All P xs
front P xs ys all = All-weaker (Contains xs) P (λ x h. All-contains P (xs ++ ys) x all (Contains-append_left xs ys x h)) xs (All-contains_itself xs)

back : {A : Type 0} (P : A → Type 0) (xs ys : List A) → All P (xs ++ ys) → All P ys
back P xs ys all = All-weaker (Contains ys) P (λ x h. All-contains P (xs ++ ys) x all (Contains-append_right xs ys x h)) ys (All-contains_itself ys)

kind_fits : (item : PlainItem) → InRange item → kind_of item < 2 ^ 16
kind_fits (Other kind value) h = h
kind_fits _ h = lit< tt

-- an item that can be written, with bytes in its spelling, has a TLV
written_tlv : (item : PlainItem) → IsWritable item → AreBytes (spelling (tlv_of item)) → IsTlv (tlv_of item)
written_tlv item w bytes =
    let value = value_of item in
    let zeros : List ℕ = replicate (padding (length value)) 0 in
    record {
      kind_fits = kind_fits item w.in_range;
      length_fits = omega (arith, w.short);
      bytes = back IsByte (header (kind_of item) (length value)) value (front IsByte (unpadded (tlv_of item)) zeros bytes);
    }

-- pieces that are the TLVs of items: their TLVs, and the items that these are read as
pub record AreWritten (pieces : List (List ℕ)) (bytes : List ℕ) : Type 0 where
  pub tlvs : List PlainTlv
  pub items : List PlainItem
  pub list : IsTlvList tlvs bytes
  pub read : IsReading tlvs items
  pub exact : (item : PlainItem) → Contains items item ↔ IsWrittenIn pieces item

-- the laws of TLVs and of items
module _ (same_begin : SpellingIsPrefixFree) (same_item : ItemIsUnique) (written_is_item : WrittenIsRead) where
  -- one TLV is written for at most one item
  same_written : (item other : PlainItem) → IsWritable item → IsWritable other → AreBytes (spelling (tlv_of item)) → spelling (tlv_of item) ≡ spelling (tlv_of other) → item ≡ other
  same_written item other w v bytes e =
      let one = written_tlv item w bytes in
      let two = written_tlv other v (subst AreBytes e bytes) in
      let tlvs : tlv_of item ≡ tlv_of other = (same_begin (tlv_of item) (tlv_of other) [] [] one two (append-nil (spelling (tlv_of item)) ∙ e ∙ sym (append-nil (spelling (tlv_of other))))).0 in
      same_item (tlv_of item) item other (written_is_item item w) (subst (λ (tlv : PlainTlv). IsItem tlv other) (sym tlvs) (written_is_item other v))

  written_first : (piece : List ℕ) (pieces : List (List ℕ)) (first : PlainItem) (rest : List PlainItem) → IsWritable first → piece ≡ spelling (tlv_of first) → AreBytes piece
      → ((item : PlainItem) → Contains rest item ↔ IsWrittenIn pieces item) → (item : PlainItem) → Contains (first ∷ rest) item ↔ IsWrittenIn (piece ∷ pieces) item
  written_first piece pieces first rest w spelled bytes exact item = (
    λ h. ⊎_elim (λ (e : first ≡ item). (subst IsWritable e w, subst (λ (p : List ℕ). Contains (piece ∷ pieces) p) (spelled ∙ ap (λ i. spelling (tlv_of i)) e) (Contains-head piece pieces)))
        (λ (g : Contains rest item). let there = (exact item).0 g in (there.0, Contains-tail piece pieces (spelling (tlv_of item)) there.1))
        (Contains-cases first rest item h),
    λ h. ⊎_elim (λ (e : piece ≡ spelling (tlv_of item)).
        let same : first ≡ item = same_written first item w h.0 (subst AreBytes spelled bytes) (sym spelled ∙ e) in
        subst (λ (i : PlainItem). Contains (first ∷ rest) i) same (Contains-head first rest))
        (λ (g : Contains pieces (spelling (tlv_of item))). Contains-tail first rest item ((exact item).1 (h.0, g)))
        (Contains-cases piece pieces (spelling (tlv_of item)) h.1),
  )

  are_written : (pieces : List (List ℕ)) → All IsEncoded pieces → AreBytes (concat pieces) → AreWritten pieces (concat pieces)
  are_written [] encoded bytes = record { tlvs = []; items = []; list = refl; read = refl; exact = λ item. (λ h. absurd (nothing_in item h), λ h. absurd (nothing_in (spelling (tlv_of item)) h.1)) }
  are_written (piece ∷ pieces) encoded bytes =
      let (first, is) = All-head IsEncoded piece pieces encoded in
      let here : AreBytes piece = front IsByte piece (concat pieces) bytes in
      let rest = are_written pieces (All-tail IsEncoded piece pieces encoded) (back IsByte piece (concat pieces) bytes) in
      record {
        tlvs = tlv_of first ∷ rest.tlvs;
        items = first ∷ rest.items;
        list = (concat pieces, written_tlv first is.writable (subst AreBytes is.spelled here), ap (λ (z : List ℕ). z ++ concat pieces) is.spelled, rest.list);
        read = inl (first, rest.items, written_is_item first is.writable, refl, rest.read);
        exact = written_first piece pieces first rest.items is.writable is.spelled here rest.exact;
      }

  -- the same of the ascending set of pieces
  pub set_is_written : (pieces : List (List ℕ)) (bytes : List ℕ) → All IsEncoded pieces → AreBytes bytes → IsAscendingSet pieces bytes → AreWritten pieces bytes
  set_is_written pieces bytes encoded are set =
      let each : All IsEncoded set.ascending =
      All-weaker (Contains set.ascending) IsEncoded (λ piece h. All-contains IsEncoded pieces piece encoded ((set.same piece).0 h)) set.ascending (All-contains_itself set.ascending) in
      let written = are_written set.ascending each (subst AreBytes set.joined are) in
      record {
        tlvs = written.tlvs;
        items = written.items;
        list = subst (IsTlvList written.tlvs) (sym set.joined) written.list;
        read = written.read;
        exact = λ item. (
          λ h. let there = (written.exact item).0 h in (there.0, (set.same (spelling (tlv_of item))).0 there.1),
          λ h. (written.exact item).1 (h.0, (set.same (spelling (tlv_of item))).1 h.1),
        );
      }

pub reads_written : (pieces : List (List ℕ)) (bytes now : List ℕ) → now ≡ bytes → AreWritten pieces bytes → HasItems now (λ read. (item : PlainItem) → Contains read item ↔ IsWrittenIn pieces item)
reads_written pieces bytes now same written = (written.items, record { tlvs = written.tlvs; list = subst (IsTlvList written.tlvs) (sym same) written.list; read = written.read }, written.exact)
