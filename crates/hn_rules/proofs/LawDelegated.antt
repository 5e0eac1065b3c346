-- The delegated prefixes that own node data announce.
use Rattle.hn_base.proofs.Names.{◌≡◌, ◌∙◌, ◌<◌, ◌^◌, ℕ, List, [], ◌∷◌, ◌++◌, length, map, replicate, Option, Some, None, inl, inr, refl, sym, ap, subst, arith, All, w32, w128, to_be_bytes}
use Rattle.hn_base.proofs.Names.{from_be_bytes, filter_map, flat_map, length-take, append-nil, All-contains, Contains-append_left, Contains-append_right, filter_map-append}
use Rattle.hn_base.proofs.Names.{from_be_bytes-to_be_bytes_4, IsByte, PlainPrefix}
use Rattle.hn_rules.proofs.Names.{Contains, Contains-head, Contains-tail, Contains-cases, Contains-one, nothing_in, all_of, in_filter_map, from_filter_map, none_given, given_by_parts, PlainTlv, IsTlv}
use Rattle.hn_rules.proofs.Names.{IsTlvList, spelling, ListIsUnique, word, bytes_for, prefix_field, PlainItem, External, IsItem, ItemIsUnique, ItemHasNoFault, ItemOrFault, tlv_of, IsWritable}
use Rattle.hn_rules.proofs.Names.{IsReading, Delegation, seconds_left, PlainData, IsOwnData, peer_item, external_items, assigned_item, address_item, items_of, OwnItems, OwnPrefix}
use Rattle.hn_tlv.specs.Grammar.{header, padding, unpadded}
use Rattle.hn_typed.specs.Item.{Delegated}
use Rattle.hn_data.specs.Delegations.{delegation_of, HasDelegation}
use Rattle.hn_own.specs.Own.{delegated_item}
use Rattle.hn_rules.proofs.LawPublished.{ReadLaws, read_is, are_items, item_read}

-- ---- a Delegated-Prefix

-- the TLV of an own delegated prefix, and the sub-TLVs of all of them
abbrev pub tlv_at : ℕ → OwnPrefix → PlainTlv
tlv_at now own = tlv_of (delegated_item now own)

abbrev pub subs_at : ℕ → List OwnPrefix → List ℕ
subs_at now list = flat_map (λ own. spelling (tlv_at now own)) list

seconds_fit : (now : ℕ) (end : Option ℕ) → seconds_left now end < 2 ^ 32
seconds_fit now None = omega arith
seconds_fit now (Some end) = omega arith

word_is : (m n : ℕ) → m < 2 ^ 32 → n < 2 ^ 32 → word m ≡ word n → m ≡ n
word_is m n small also same = sym (from_be_bytes-to_be_bytes_4 m small) ∙ ap (from_be_bytes w32) same ∙ from_be_bytes-to_be_bytes_4 n also

-- the words in front, and what stands after them
record AreWords (m p n q : ℕ) (x y : List ℕ) : Type 0 where
  pub first : word m ≡ word n
  pub second : word p ≡ word q
  pub rest : x ≡ y

words_are : (m p n q : ℕ) (x y : List ℕ) → word m ++ word p ++ x ≡ word n ++ word q ++ y → AreWords m p n q x y
words_are m p n q x y same = record { first = cc; second = cc; rest = cc }

-- what is read of one
record IsReadOf (now : ℕ) (own : OwnPrefix) (d : Delegation) : Type 0 where
  pub valid : d.valid ≡ seconds_left now own.valid_until
  pub preferred : d.preferred ≡ seconds_left now own.preferred_until

-- it is read of its TLV with the lifetimes that are left then, and of that of another moment with those that are left there
record IsReadAt (now later : ℕ) (own : OwnPrefix) (d : Delegation) : Type 0 where
  pub is : IsReadOf now own d
  pub other : PlainItem
  pub other_read : IsItem (tlv_at later own) other
  pub other_says : delegation_of other ≡ Some (record { valid = seconds_left later own.valid_until; preferred = seconds_left later own.preferred_until; prefix = d.prefix })

the_same : (x y : Delegation) → ◌≡◌ {A = Option Delegation} (Some x) (Some y) → x ≡ y
the_same x y is = cc

read_at : (now later : ℕ) (own : OwnPrefix) (item : PlainItem) (d : Delegation) → IsItem (tlv_at now own) item → delegation_of item ≡ Some d → IsReadAt now later own d
read_at now later own (Delegated valid preferred prefix subs) d is says =
    let v = seconds_left now own.valid_until in
    let p = seconds_left now own.preferred_until in
    let fits = is.in_range in
    let (after, value, then) = is.spelled.2 in
    let words = words_are v p valid preferred (prefix_field own.prefix ++ [] ++ []) (prefix_field prefix ++ after) value in
    let d_is : record { valid = valid; preferred = preferred; prefix = prefix } ≡ d = the_same (record { valid = valid; preferred = preferred; prefix = prefix }) d says in
    let first : valid ≡ v = word_is valid v fits.0 (seconds_fit now own.valid_until) (sym words.first) in
    let second : preferred ≡ p = word_is preferred p fits.1.0 (seconds_fit now own.preferred_until) (sym words.second) in
    let later_v = seconds_left later own.valid_until in
    let later_p = seconds_left later own.preferred_until in
    record {
      is = record { valid = sym (ap (λ (x : Delegation). x.valid) d_is) ∙ first; preferred = sym (ap (λ (x : Delegation). x.preferred) d_is) ∙ second };
      other = Delegated later_v later_p prefix subs;
      other_read = record {
        in_range = (seconds_fit later own.valid_until, (seconds_fit later own.preferred_until, fits.1.1));
        other_kind = tt;
        spelled = (refl, is.spelled.1, (after, ap (λ (rest : List ℕ). word later_v ++ word later_p ++ rest) words.rest, then));
      };
      other_says = ap (λ (x : PlainPrefix). Some (record { valid = later_v; preferred = later_p; prefix = x })) (ap (λ (x : Delegation). x.prefix) d_is);
    }
read_at now later own _ d is says = absurd cc

-- ---- lists of TLVs

all_front : (xs ys : List ℕ) → All IsByte (xs ++ ys) → All IsByte xs
all_front xs ys all = all_of IsByte xs (λ b there. All-contains IsByte (xs ++ ys) b all (Contains-append_left xs ys b there))

all_back : (xs ys : List ℕ) → All IsByte (xs ++ ys) → All IsByte ys
all_back xs ys all = all_of IsByte ys (λ b there. All-contains IsByte (xs ++ ys) b all (Contains-append_right xs ys b there))

tlv_there : (now : ℕ) (own : OwnPrefix) → All IsByte (spelling (tlv_at now own)) → IsTlv (tlv_at now own)
tlv_there now own all =
    let tlv = tlv_at now own in
    let bits = to_be_bytes w128 own.prefix.bits in
    let long = length-take (bytes_for own.prefix.len) bits in
    let plain = append-nil (prefix_field own.prefix ++ []) ∙ append-nil (prefix_field own.prefix) in
    let size = ap length plain in
    record {
      kind_fits = omega arith;
      length_fits = omega (arith, long, size);
      bytes = all_back (header 34 (length tlv.value)) tlv.value (all_front (unpadded tlv) (replicate (padding (length tlv.value)) 0) all);
    }

list_there : (now : ℕ) (list : List OwnPrefix) → All IsByte (subs_at now list) → IsTlvList (map (tlv_at now) list) (subs_at now list)
list_there now [] all = refl
list_there now (own ∷ list) all =
    (subs_at now list, tlv_there now own (all_front (spelling (tlv_at now own)) (subs_at now list) all), refl, list_there now list (all_back (spelling (tlv_at now own)) (subs_at now list) all))

module _ {A : Type 0} (tlv : A → PlainTlv) where
  -- what is read is read of one of them
  read_of : (list : List A) (items : List PlainItem) (item : PlainItem) → IsReading (map tlv list) items → Contains items item → (x : A) × Contains list x × IsItem (tlv x) item
  read_of [] items item read there = absurd (nothing_in item (subst (λ (l : List PlainItem). Contains l item) read there))
  read_of (x ∷ list) items item (inl (one, rest, is, all, more)) there =
      elim (Contains-cases one rest item (subst (λ (l : List PlainItem). Contains l item) all there)) [
        | inl same ↦ (x, Contains-head x list, subst (IsItem (tlv x)) same is)
        | inr later ↦ let found = read_of list rest item more later in (found.0, Contains-tail x list found.0 found.1, found.2)
      ]
  read_of (x ∷ list) items item (inr (none, more)) there = let found = read_of list items item more there in (found.0, Contains-tail x list found.0 found.1, found.2)

  -- and each that can be read is
  record AreAllRead (list : List A) : Type 0 where
    pub items : List PlainItem
    pub reading : IsReading (map tlv list) items
    pub all : (x : A) (item : PlainItem) → Contains list x → IsItem (tlv x) item → Contains items item

  module _ (one_item : ItemIsUnique) (no_fault : ItemHasNoFault) (item_or_fault : ItemOrFault) where
    all_read : (list : List A) → ((x : A) → Contains list x → IsTlv (tlv x)) → AreAllRead list
    all_read [] are = record { items = []; reading = refl; all = λ x item there is. absurd (nothing_in x there) }
    all_read (x ∷ list) are =
        let rest = all_read list (λ y there. are y (Contains-tail x list y there)) in
        elim (item_or_fault (tlv x) (are x (Contains-head x list))) [
          | inl (item, is) ↦ record {
            items = item ∷ rest.items;
            reading = inl (item, rest.items, is, refl, rest.reading);
            all = λ y other there of.
                elim (Contains-cases x list y there) [
                  | inl same ↦
                      let one : item ≡ other = one_item (tlv x) item other is (subst (λ (z : A). IsItem (tlv z) other) (sym same) of) in
                      subst (Contains (item ∷ rest.items)) one (Contains-head item rest.items)
                  | inr later ↦ Contains-tail item rest.items other (rest.all y other later of)
                ];
          }
          | inr (why, fault) ↦ record {
            items = rest.items;
            reading = inr (λ other of. no_fault (tlv x) other why of fault, rest.reading);
            all = λ y other there of.
                elim (Contains-cases x list y there) [
                  | inl same ↦ absurd (no_fault (tlv x) other why (subst (λ (z : A). IsItem (tlv z) other) (sym same) of) fault)
                  | inr later ↦ rest.all y other later of
                ];
          }
        ]

-- ---- the External-Connection among own items

abbrev external_of : PlainItem → Option (List ℕ)
external_of (External subs) = Some subs
external_of _ = None

externals_among : (now : ℕ) (own : OwnItems) → filter_map external_of (items_of now own) ≡ filter_map external_of (external_items now own.delegated)
externals_among now own =
    let links = none_given external_of peer_item (λ _. refl) own.links in
    let assigned = none_given external_of assigned_item (λ _. refl) own.assigned in
    let addresses = none_given external_of address_item (λ _. refl) own.addresses in
    let before = map peer_item own.links ++ external_items now own.delegated ++ map assigned_item own.assigned in
    let parts = given_by_parts external_of (map peer_item own.links) (external_items now own.delegated) (map assigned_item own.assigned) in
    let external : filter_map external_of before ≡ filter_map external_of (external_items now own.delegated) =
    parts ∙ rw (links, assigned) (append-nil (filter_map external_of (external_items now own.delegated))) in
    filter_map-append external_of before (map address_item own.addresses) ∙ rw (external, addresses) (append-nil (filter_map external_of (external_items now own.delegated)))

record IsExternal (now : ℕ) (list : List OwnPrefix) (subs : List ℕ) : Type 0 where
  pub is : subs ≡ subs_at now list
  pub at : (later : ℕ) → Contains (external_items later list) (External (subs_at later list))

is_external : (now : ℕ) (list : List OwnPrefix) (subs : List ℕ) → Contains (filter_map external_of (external_items now list)) subs → IsExternal now list subs
is_external now [] subs there = absurd (nothing_in subs there)
is_external now (own ∷ list) subs there = record {
  is = sym (Contains-one (subs_at now (own ∷ list)) subs there);
  at = λ later. Contains-head (External (subs_at later (own ∷ list))) [];
}

external_there : (now : ℕ) (own : OwnItems) (item : PlainItem) → Contains (external_items now own.delegated) item → Contains (items_of now own) item
external_there now own item there =
    let links = map peer_item own.links in
    let external = external_items now own.delegated in
    let assigned = map assigned_item own.assigned in
    let addresses = map address_item own.addresses in
    Contains-tail _ (((links ++ external) ++ assigned) ++ addresses) item
    (Contains-append_left ((links ++ external) ++ assigned) addresses item
    (Contains-append_left (links ++ external) assigned item (Contains-append_right links external item there)))

-- ---- what own node data say of an own delegated prefix, data of another moment say too

pub record DelegationLaws : Type 0 where
  pub read : ReadLaws
  pub one_list : ListIsUnique
  pub no_fault : ItemHasNoFault
  pub item_or_fault : ItemOrFault

-- an own delegated prefix is announced, and in the data of two moments with what is left of its lifetimes at each
pub record IsSaid (list : List OwnPrefix) (a b : PlainData) (d : Delegation) : Type 0 where
  pub own : OwnPrefix
  pub there : Contains list own
  pub valid : d.valid ≡ seconds_left a.born own.valid_until
  pub preferred : d.preferred ≡ seconds_left a.born own.preferred_until
  pub other : HasDelegation b.body (record { valid = seconds_left b.born own.valid_until; preferred = seconds_left b.born own.preferred_until; prefix = d.prefix })

module _ (laws : DelegationLaws) (a b : PlainData) (is_a : IsOwnData a) (is_b : IsOwnData b) (same : b.items.delegated ≡ a.items.delegated) where
  abbrev list : List OwnPrefix
  list = a.items.delegated

  external_b : IsExternal a.born list (subs_at a.born list) → Contains (items_of b.born b.items) (External (subs_at b.born list))
  external_b is = external_there b.born b.items (External (subs_at b.born list))
      (subst (λ (l : List OwnPrefix). Contains (external_items b.born l) (External (subs_at b.born list))) (sym same) (is.at b.born))

  pub said_too : (d : Delegation) → HasDelegation a.body d → IsSaid list a b d
  said_too d (others, are, within) =
      let read_a = read_is laws.read a is_a in
      let same_items : others ≡ read_a.read = laws.read.one_items a.body others read_a.read are (are_items laws.read a is_a) in
      let among : Contains (items_of a.born a.items) (External within.subs) =
      All-contains (Contains (items_of a.born a.items)) read_a.read (External within.subs) read_a.of_items
      (subst (λ (l : List PlainItem). Contains l (External within.subs)) same_items within.external) in
      let external = is_external a.born list within.subs
      (subst (λ (l : List (List ℕ)). Contains l within.subs) (externals_among a.born a.items) (in_filter_map external_of (items_of a.born a.items) (External within.subs) within.subs among refl)) in
      let (inner, inner_are, says) = within.inside in
      let listed : IsTlvList inner_are.tlvs (subs_at a.born list) = subst (IsTlvList inner_are.tlvs) external.is inner_are.list in
      let tlvs : inner_are.tlvs ≡ map (tlv_at a.born) list =
      laws.one_list inner_are.tlvs (map (tlv_at a.born) list) (subs_at a.born list) listed (list_there a.born list (laws.read.of_bytes inner_are.tlvs (subs_at a.born list) listed)) in
      let (item, item_there, item_says) = from_filter_map delegation_of inner d says in
      let (own, own_there, item_is) = read_of (tlv_at a.born) list inner item (subst (λ (l : List PlainTlv). IsReading l inner) tlvs inner_are.read) item_there in
      let at = read_at a.born b.born own item d item_is item_says in
      let here : IsExternal a.born list (subs_at a.born list) = record { is = refl; at = external.at } in
      let external_of_b = external_b here in
      let writable : IsWritable (External (subs_at b.born list)) = All-contains IsWritable (items_of b.born b.items) (External (subs_at b.born list)) is_b.writable external_of_b in
      let bytes : All IsByte (subs_at b.born list) = laws.read.of_bytes writable.tlvs_after.0 (subs_at b.born list) writable.tlvs_after.1 in
      let all = all_read (tlv_at b.born) laws.read.same_item laws.no_fault laws.item_or_fault list (each_tlv b.born list bytes) in
      let there : Contains all.items at.other = all.all own at.other own_there at.other_read in
      let found = in_filter_map delegation_of all.items at.other
      (record { valid = seconds_left b.born own.valid_until; preferred = seconds_left b.born own.preferred_until; prefix = d.prefix }) there at.other_says in
      let read_b = read_is laws.read b is_b in
      record {
        own = own;
        there = own_there;
        valid = at.is.valid;
        preferred = at.is.preferred;
        other = (
          read_b.read,
          are_items laws.read b is_b,
          record {
            subs = subs_at b.born list;
            external = item_read laws.read b is_b (External (subs_at b.born list)) external_of_b;
            inside = (all.items, record { tlvs = map (tlv_at b.born) list; list = list_there b.born list bytes; read = all.reading }, found);
          },
        );
      }
    where
      each_tlv : (now : ℕ) (some : List OwnPrefix) → All IsByte (subs_at now some) → (own : OwnPrefix) → Contains some own → IsTlv (tlv_at now own)
      each_tlv now [] bytes own there = absurd (nothing_in own there)
      each_tlv now (first ∷ some) bytes own there =
          elim (Contains-cases first some own there) [
            | inl is ↦ subst (λ (x : OwnPrefix). IsTlv (tlv_at now x)) is (tlv_there now first (all_front (spelling (tlv_at now first)) (subs_at now some) bytes))
            | inr later ↦ each_tlv now some (all_back (spelling (tlv_at now first)) (subs_at now some) bytes) own later
          ]
