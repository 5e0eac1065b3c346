-- The Assigned-Prefixes of a router's node data are those of the assignments that it publishes.
use Rattle.hn_base.proofs.Names.{◌≡◌, ◌↔◌, ◌∙◌, ℕ, List, [], ◌++◌, map, refl, sym, ap, subst, All, filter_map, All-contains, All-contains_itself, All-weaker, Contains-append_left}
use Rattle.hn_base.proofs.Names.{Contains-append_right, filter_map-append, append-nil, IsByte}
use Rattle.hn_rules.proofs.Names.{Contains, Contains-tail, Contains-map, Contains-from_map, IsTlvList, SpellingIsPrefixFree, ListIsOfBytes, PlainItem, tlv_of, ItemIsUnique, WrittenIsRead, AreItems}
use Rattle.hn_rules.proofs.Names.{ItemsAreUnique, HasPeer, AssignedPrefix, PeerLink, OwnItems, OwnPrefix, PlainData, IsOwnData, peer_item, external_items, assigned_item, address_item, items_of}
use Rattle.hn_rules.proofs.Names.{in_filter_map, from_filter_map, all_given, none_given, given_by_parts, none_or_some}
use Rattle.hn_data.specs.Peers.{peer_of}
use Rattle.hn_data.specs.Said.{assigned_prefix_of, HasAssigned}
use Rattle.hn_rules.specs.Laws.{AssignedIsPublished, ItemsArePublished}
use Rattle.hn_rules.proofs.LawSpelled.{AreRead, encoding, own_fit, are_read, same_encoded}

-- ---- the Assigned-Prefixes among own items

assigned_among : (now : ℕ) (own : OwnItems) → filter_map assigned_prefix_of (items_of now own) ≡ own.assigned
assigned_among now own =
    let links = none_given assigned_prefix_of peer_item (λ _. refl) own.links in
    let external : filter_map assigned_prefix_of (external_items now own.delegated) ≡ [] =
    none_or_some (λ (list : List OwnPrefix). filter_map assigned_prefix_of (external_items now list) ≡ []) refl (λ p ps. refl) own.delegated in
    let before = map peer_item own.links ++ external_items now own.delegated ++ map assigned_item own.assigned in
    let parts = given_by_parts assigned_prefix_of (map peer_item own.links) (external_items now own.delegated) (map assigned_item own.assigned) in
    let assigned : filter_map assigned_prefix_of before ≡ own.assigned = parts ∙ rw (links, external) (all_given assigned_prefix_of assigned_item (λ _. refl) own.assigned) in
    let addresses = none_given assigned_prefix_of address_item (λ _. refl) own.addresses in
    filter_map-append assigned_prefix_of before (map address_item own.addresses) ∙ rw (assigned, addresses) (append-nil own.assigned)

-- ---- the Peers among them

peers_among : (now : ℕ) (own : OwnItems) → filter_map peer_of (items_of now own) ≡ own.links
peers_among now own =
    let links = all_given peer_of peer_item (λ _. refl) own.links in
    let external : filter_map peer_of (external_items now own.delegated) ≡ [] =
    none_or_some (λ (list : List OwnPrefix). filter_map peer_of (external_items now list) ≡ []) refl (λ p ps. refl) own.delegated in
    let assigned = none_given peer_of assigned_item (λ _. refl) own.assigned in
    let addresses = none_given peer_of address_item (λ _. refl) own.addresses in
    let before = map peer_item own.links ++ external_items now own.delegated ++ map assigned_item own.assigned in
    let parts = given_by_parts peer_of (map peer_item own.links) (external_items now own.delegated) (map assigned_item own.assigned) in
    let peers : filter_map peer_of before ≡ own.links = parts ∙ rw (links, external, assigned) (append-nil (own.links ++ []) ∙ append-nil own.links) in
    filter_map-append peer_of before (map address_item own.addresses) ∙ rw (peers, addresses) (append-nil own.links)

assigned_there : (now : ℕ) (own : OwnItems) (a : AssignedPrefix) → Contains own.assigned a → Contains (items_of now own) (assigned_item a)
assigned_there now own a there =
    let before = map peer_item own.links ++ external_items now own.delegated in
    let addresses = map address_item own.addresses in
    Contains-tail _ ((before ++ map assigned_item own.assigned) ++ addresses) (assigned_item a)
    (Contains-append_left (before ++ map assigned_item own.assigned) addresses (assigned_item a)
    (Contains-append_right before (map assigned_item own.assigned) (assigned_item a) (Contains-map assigned_item own.assigned a there)))

-- ---- and in own node data

-- the laws of TLVs, of items and of node data on which it rests
pub record ReadLaws : Type 0 where
  pub of_bytes : ListIsOfBytes
  pub same_begin : SpellingIsPrefixFree
  pub same_item : ItemIsUnique
  pub written_is_item : WrittenIsRead
  pub one_items : ItemsAreUnique

module _ (laws : ReadLaws) (own : PlainData) (is : IsOwnData own) where
  abbrev items : List PlainItem
  items = items_of own.born own.items

  pub read_is : AreRead items is.encoded.ascending
  read_is =
      let ascending = is.encoded.ascending in
      are_read laws.same_begin laws.same_item laws.written_is_item items is.writable (own_fit laws.of_bytes own.born own.items) ascending
      (All-weaker (Contains ascending) (Contains (map encoding items)) (λ piece there. (is.encoded.same piece).0 there) ascending (All-contains_itself ascending))

  pub are_items : AreItems own.body read_is.read
  are_items = record { tlvs = map tlv_of read_is.read; list = subst (IsTlvList (map tlv_of read_is.read)) (sym is.encoded.joined) read_is.list; read = read_is.reading }

  assigned_from : (a : AssignedPrefix) → HasAssigned own.body a → Contains own.items.assigned a
  assigned_from a (others, are, there) =
      let same : others ≡ read_is.read = laws.one_items own.body others read_is.read are are_items in
      let from = from_filter_map assigned_prefix_of others a there in
      let among : Contains items from.0 = All-contains (Contains items) read_is.read from.0 read_is.of_items (subst (λ (list : List PlainItem). Contains list from.0) same from.1) in
      subst (λ (list : List AssignedPrefix). Contains list a) (assigned_among own.born own.items) (in_filter_map assigned_prefix_of items from.0 a among from.2)

  pub peer_from : (link : PeerLink) → HasPeer own.body link → Contains own.items.links link
  peer_from link (others, are, there) =
      let same : others ≡ read_is.read = laws.one_items own.body others read_is.read are are_items in
      let from = from_filter_map peer_of others link there in
      let among : Contains items from.0 = All-contains (Contains items) read_is.read from.0 read_is.of_items (subst (λ (list : List PlainItem). Contains list from.0) same from.1) in
      subst (λ (list : List PeerLink). Contains list link) (peers_among own.born own.items) (in_filter_map peer_of items from.0 link among from.2)

  pub item_read : (item : PlainItem) → Contains items item → Contains read_is.read item
  item_read item there =
      let piece : Contains is.encoded.ascending (encoding item) = (is.encoded.same (encoding item)).1 (Contains-map encoding items item there) in
      let from = Contains-from_map encoding read_is.read (encoding item) (subst (λ (pieces : List (List ℕ)). Contains pieces (encoding item)) (sym read_is.encoded) piece) in
      let among : Contains items from.0 = All-contains (Contains items) read_is.read from.0 read_is.of_items from.1 in
      let same : from.0 ≡ item = same_encoded laws.same_begin laws.same_item laws.written_is_item items is.writable (own_fit laws.of_bytes own.born own.items) from.0 item among there from.2 in
      subst (Contains read_is.read) same from.1

  peer_there : (now : ℕ) (some : OwnItems) (link : PeerLink) → Contains some.links link → Contains (items_of now some) (peer_item link)
  peer_there now some link there =
      let links = map peer_item some.links in
      let external = external_items now some.delegated in
      let assigned = map assigned_item some.assigned in
      let addresses = map address_item some.addresses in
      Contains-tail _ (((links ++ external) ++ assigned) ++ addresses) (peer_item link)
      (Contains-append_left ((links ++ external) ++ assigned) addresses (peer_item link)
      (Contains-append_left (links ++ external) assigned (peer_item link) (Contains-append_left links external (peer_item link) (Contains-map peer_item some.links link there))))

  pub peer_in : (link : PeerLink) → Contains own.items.links link → HasPeer own.body link
  peer_in link there =
      (read_is.read, are_items, in_filter_map peer_of read_is.read (peer_item link) link (item_read (peer_item link) (peer_there own.born own.items link there)) refl)

  pub assigned_in : (a : AssignedPrefix) → HasAssigned own.body a ↔ Contains own.items.assigned a
  assigned_in a = (
    assigned_from a,
    λ there. (read_is.read, are_items, in_filter_map assigned_prefix_of read_is.read (assigned_item a) a (item_read (assigned_item a) (assigned_there own.born own.items a there)) refl),
  )

-- own node data consist of bytes
pub own_bytes : (laws : ReadLaws) (own : PlainData) → IsOwnData own → All IsByte own.body
own_bytes laws own is = let items = are_items laws own is in laws.of_bytes items.tlvs own.body items.list

pub items_published : ReadLaws → ItemsArePublished
items_published laws s router =
    let own = router.well.own in
    let read = read_is laws s.own own in (
      read.read,
      are_items laws s.own own,
      λ item. (
        λ there. All-contains (Contains (items_of s.own.born s.own.items)) read.read item read.of_items there,
        item_read laws s.own own item,
      ),
    )

pub assigned_published : ReadLaws → AssignedIsPublished
assigned_published laws s a router =
    let published = ap (λ (own : OwnItems). own.assigned) router.refreshed.published in
    subst (λ (list : List AssignedPrefix). HasAssigned s.own.body a ↔ Contains list a) (sym published) (assigned_in laws s.own router.well.own a)
