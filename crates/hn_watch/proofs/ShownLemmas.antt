-- What TLVs show: one list, and that of a list with one more.
use Rattle.hn_base.proofs.Names.{◌≡◌, ◌∙◌, ℕ, ◌≤◌, ◌<◌, ◌^◌, length, take, List, [], ◌∷◌, ◌++◌, inl, inr, refl, sym, ap, subst, append_assoc, append-nil, All-nil, All-cons, All-same, All-append}
use Rattle.hn_watch.proofs.Names.{All, option_to_list, Shown, Shows, AreShownBy}
use Rattle.hn_tlv.specs.Grammar.{PlainTlv, IsTlv, IsTlvList}
use Rattle.hn_tlv.specs.Laws.{ListIsUnique}
use Rattle.hn_typed.specs.Item.{PlainItem, NodeState}
use Rattle.hn_typed.specs.Table.{IsItem}
use Rattle.hn_typed.specs.Laws.{ItemIsUnique, ItemHasNoFault, ItemOrFault}
use Rattle.hn_watch.specs.Laws.{ShownIsUnique, ListsShow}
use Rattle.hn_watch.specs.Shown.{shown_by, AreShownIn}

-- one more TLV shows what it shows, after the others
pub shown_push : (tlvs : List PlainTlv) (shown : List Shown) (tlv : PlainTlv) (more : List Shown) → AreShownBy tlvs shown → Shows tlv more → AreShownBy (tlvs ++ tlv ∷ []) (shown ++ more)
shown_push [] shown tlv more none shows = (more, [], shows, refl, ap (λ (xs : List Shown). xs ++ more) none ∙ sym (append-nil more))
shown_push (t ∷ tlvs) shown tlv more by shows = (
  by.0,
  by.1 ++ more,
  by.2,
  shown_push tlvs by.1 tlv more by.3 shows,
  ap (λ (xs : List Shown). xs ++ more) by.4 ∙ append_assoc by.0 by.1 more,
)

-- the laws of lists and of items
module _ (same_list : ListIsUnique) (same_item : ItemIsUnique) (no_fault : ItemHasNoFault) where
  one_shows : (tlv : PlainTlv) (a b : List Shown) → Shows tlv a → Shows tlv b → a ≡ b
  one_shows tlv a b (inl p) (inl q) = p.2 ∙ ap (λ item. option_to_list (shown_by item)) (same_item tlv p.0 q.0 p.1 q.1) ∙ sym q.2
  one_shows tlv a b (inl p) (inr q) = absurd (no_fault tlv p.0 q.0 p.1 q.1)
  one_shows tlv a b (inr p) (inl q) = absurd (no_fault tlv q.0 p.0 q.1 p.1)
  one_shows tlv a b (inr p) (inr q) = p.2 ∙ sym q.2

  shown_by_unique : (tlvs : List PlainTlv) (a b : List Shown) → AreShownBy tlvs a → AreShownBy tlvs b → a ≡ b
  shown_by_unique [] a b p q = p ∙ sym q
  shown_by_unique (tlv ∷ tlvs) a b p q =
      let first = one_shows tlv p.0 q.0 p.2 q.2 in
      let rest = shown_by_unique tlvs p.1 q.1 p.3 q.3 in
      cc (p.4, q.4)

  pub shown_unique : ShownIsUnique
  shown_unique datagram a b p q =
      let same = same_list p.tlvs q.tlvs datagram p.list q.list in
      let by : AreShownBy q.tlvs a = subst (λ (ts : List PlainTlv). AreShownBy ts a) same p.shown_by in
      shown_by_unique q.tlvs a b by q.shown_by

module _ (item_or_fault : ItemOrFault) where
  one_there : (tlv : PlainTlv) → IsTlv tlv → (shown : List Shown) × Shows tlv shown
  one_there tlv is = elim (item_or_fault tlv is) [ inl p ↦ (option_to_list (shown_by p.0), inl (p.0, p.1, refl)) | inr p ↦ ([], inr (p.0, p.1, refl)) ]

  by_there : (tlvs : List PlainTlv) (bytes : List ℕ) → IsTlvList tlvs bytes → (shown : List Shown) × AreShownBy tlvs shown
  by_there [] bytes is = ([], refl)
  by_there (tlv ∷ tlvs) bytes is =
      let first = one_there tlv is.1 in
      let rest = by_there tlvs is.0 is.3 in
      (first.0 ++ rest.0, (first.0, rest.0, first.1, rest.1, refl))

  pub shown_there : ListsShow
  shown_there datagram has = let by = by_there has.0 datagram has.1 in (by.0, record { tlvs = has.0; list = has.1; shown_by = by.1 })

-- ---- a walk over a datagram

-- the TLVs up to a place show these
pub record IsShownTo (datagram : List ℕ) (place : ℕ) (shown : List Shown) : Type 0 where
  pub within : place ≤ length datagram
  pub tlvs : List PlainTlv
  pub list : IsTlvList tlvs (take place datagram)
  pub shown_by : AreShownBy tlvs shown

-- ---- the numbers that are shown

each_fits : (tlv : PlainTlv) (item : PlainItem) → IsItem tlv item → All (λ s. s.number < 2 ^ 32) (option_to_list (shown_by item))
each_fits tlv (NodeState node number age hash body) is = All-cons (λ (s : Shown). s.number < 2 ^ 32)
    (record { node = record { 0 = node }; number = number; hash = hash }) [] is.in_range.1.0 (All-nil (λ (s : Shown). s.number < 2 ^ 32))
each_fits tlv _ is = All-nil (λ (s : Shown). s.number < 2 ^ 32)

one_fits : (tlv : PlainTlv) (shown : List Shown) → Shows tlv shown → All (λ s. s.number < 2 ^ 32) shown
one_fits tlv shown (inl p) = All-same (λ (s : Shown). s.number < 2 ^ 32) shown (option_to_list (shown_by p.0)) p.2 (each_fits tlv p.0 p.1)
one_fits tlv shown (inr p) = All-same (λ (s : Shown). s.number < 2 ^ 32) shown [] p.2 (All-nil (λ (s : Shown). s.number < 2 ^ 32))

all_fit : (tlvs : List PlainTlv) (shown : List Shown) → AreShownBy tlvs shown → All (λ s. s.number < 2 ^ 32) shown
all_fit [] shown none = All-same (λ (s : Shown). s.number < 2 ^ 32) shown [] none (All-nil (λ (s : Shown). s.number < 2 ^ 32))
all_fit (tlv ∷ tlvs) shown by =
    All-same (λ (s : Shown). s.number < 2 ^ 32) shown (by.0 ++ by.1) by.4 (All-append (λ (s : Shown). s.number < 2 ^ 32) by.0 by.1 (one_fits tlv by.0 by.2) (all_fit tlvs by.1 by.3))

-- sequence numbers that a datagram shows have 32 bits
pub shown_fit : (datagram : List ℕ) (shown : List Shown) → AreShownIn datagram shown → All (λ s. s.number < 2 ^ 32) shown
shown_fit datagram shown is = all_fit is.tlvs shown is.shown_by
