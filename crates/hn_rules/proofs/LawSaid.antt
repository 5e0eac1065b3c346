-- A router's own node data have an HNCP-Version, and the Node-Addresses of them are its own addresses.
use Rattle.hn_base.proofs.Names.{◌≡◌, ◌↔◌, ◌∙◌, ℕ, List, [], ◌∷◌, ◌++◌, map, Some, refl, sym, ap, subst, filter_map, All-contains, Contains-append_right, filter_map-append, PlainCaps, plain_caps}
use Rattle.hn_rules.proofs.Names.{Contains, codes, Contains-head, Contains-tail, Contains-map, Contains-one, nothing_in, in_filter_map, from_filter_map, all_given, none_given, given_by_parts}
use Rattle.hn_rules.proofs.Names.{none_or_some, PlainItem, Version, OwnAddress, PlainData, IsOwnData, peer_item, external_items, assigned_item, address_item, items_of, OwnItems, OwnPrefix}
use Rattle.hn_data.specs.Items.{first_of}
use Rattle.hn_data.specs.Said.{HasVersion, HasAddress, caps_of, node_address_of}
use Rattle.hn_rules.specs.Laws.{OwnVersionIsSaid, OwnAddressesAreSaid}
use Rattle.hn_rules.proofs.LawPublished.{ReadLaws, read_is, are_items, item_read}

-- ---- own node data have an HNCP-Version

one_version : (now : ℕ) (own : OwnItems) → filter_map caps_of (items_of now own) ≡ plain_caps own.caps ∷ []
one_version now own =
    let links = none_given caps_of peer_item (λ _. refl) own.links in
    let external : filter_map caps_of (external_items now own.delegated) ≡ [] =
    none_or_some (λ (list : List OwnPrefix). filter_map caps_of (external_items now list) ≡ []) refl (λ p ps. refl) own.delegated in
    let assigned = none_given caps_of assigned_item (λ _. refl) own.assigned in
    let addresses = none_given caps_of address_item (λ _. refl) own.addresses in
    let parts = given_by_parts caps_of (map peer_item own.links) (external_items now own.delegated) (map assigned_item own.assigned) in
    let last = filter_map-append caps_of (map peer_item own.links ++ external_items now own.delegated ++ map assigned_item own.assigned) (map address_item own.addresses) in
    let others = last ∙ rw (parts, links, external, assigned) addresses in
    ap (λ (rest : List PlainCaps). plain_caps own.caps ∷ rest) others

-- the first of a list whose elements are all one
first_is : (xs : List PlainCaps) (c : PlainCaps) → Contains xs c → ((y : PlainCaps) → Contains xs y → y ≡ c) → first_of xs ≡ Some c
first_is [] c there all = absurd (nothing_in c there)
first_is (x ∷ xs) c there all = ap Some (all x (Contains-head x xs))

pub own_version : (laws : ReadLaws) (own : PlainData) → IsOwnData own → HasVersion own.body
own_version laws own is =
    let read = read_is laws own is in
    let caps = plain_caps own.items.caps in
    let version : PlainItem = Version caps (codes "hncp") in
    let there : Contains (filter_map caps_of read.read) caps = in_filter_map caps_of read.read version caps (item_read laws own is version (Contains-head version _)) refl in
    let other : (y : PlainCaps) → Contains (filter_map caps_of read.read) y → y ≡ caps = λ y h.
    let from = from_filter_map caps_of read.read y h in
    let among = All-contains (Contains (items_of own.born own.items)) read.read from.0 read.of_items from.1 in
    sym (Contains-one caps y (subst (λ (list : List PlainCaps). Contains list y) (one_version own.born own.items) (in_filter_map caps_of (items_of own.born own.items) from.0 y among from.2))) in
    (caps, (read.read, are_items laws own is, first_is (filter_map caps_of read.read) caps there other))

-- ---- their Node-Addresses are the own addresses

addresses_among : (now : ℕ) (own : OwnItems) → filter_map node_address_of (items_of now own) ≡ own.addresses
addresses_among now own =
    let links = none_given node_address_of peer_item (λ _. refl) own.links in
    let external : filter_map node_address_of (external_items now own.delegated) ≡ [] =
    none_or_some (λ (list : List OwnPrefix). filter_map node_address_of (external_items now list) ≡ []) refl (λ p ps. refl) own.delegated in
    let assigned = none_given node_address_of assigned_item (λ _. refl) own.assigned in
    let before = map peer_item own.links ++ external_items now own.delegated ++ map assigned_item own.assigned in
    let parts = given_by_parts node_address_of (map peer_item own.links) (external_items now own.delegated) (map assigned_item own.assigned) in
    let none : filter_map node_address_of before ≡ [] = parts ∙ rw (links, external) assigned in
    filter_map-append node_address_of before (map address_item own.addresses) ∙ rw none (all_given node_address_of address_item (λ _. refl) own.addresses)

address_there : (now : ℕ) (own : OwnItems) (a : OwnAddress) → Contains own.addresses a → Contains (items_of now own) (address_item a)
address_there now own a there =
    let before = map peer_item own.links ++ external_items now own.delegated ++ map assigned_item own.assigned in
    Contains-tail _ (before ++ map address_item own.addresses) (address_item a)
    (Contains-append_right before (map address_item own.addresses) (address_item a) (Contains-map address_item own.addresses a there))

module _ (laws : ReadLaws) (own : PlainData) (is : IsOwnData own) where
  address_from : (a : OwnAddress) → HasAddress own.body a → Contains own.items.addresses a
  address_from a (others, are, there) =
      let read = read_is laws own is in
      let same : others ≡ read.read = laws.one_items own.body others read.read are (are_items laws own is) in
      let from = from_filter_map node_address_of others a there in
      let items = items_of own.born own.items in
      let among : Contains items from.0 = All-contains (Contains items) read.read from.0 read.of_items (subst (λ (list : List PlainItem). Contains list from.0) same from.1) in
      subst (λ (list : List OwnAddress). Contains list a) (addresses_among own.born own.items) (in_filter_map node_address_of items from.0 a among from.2)

  address_in : (a : OwnAddress) → Contains own.items.addresses a → HasAddress own.body a
  address_in a there =
      let read = read_is laws own is in
      let item = item_read laws own is (address_item a) (address_there own.born own.items a there) in
      (read.read, are_items laws own is, in_filter_map node_address_of read.read (address_item a) a item refl)

-- ---- the laws

pub version_said : ReadLaws → OwnVersionIsSaid
version_said laws s router = own_version laws s.own router.well.own

pub addresses_said : ReadLaws → OwnAddressesAreSaid
addresses_said laws s a router =
    let published = ap (λ (own : OwnItems). own.addresses) router.refreshed.published in
    let own = router.well.own in
    subst (λ (list : List OwnAddress). HasAddress s.own.body a ↔ Contains list a) (sym published) (address_from laws s.own own a, address_in laws s.own own a)
