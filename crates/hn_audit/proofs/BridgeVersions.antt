-- The node data of a router has one HNCP-Version, with its capabilities.
use Rattle.hn_base.proofs.Names.{◌≡◌, ◌∙◌, ℕ, List, [], ◌∷◌, ◌++◌, map, Option, Some, Contains, refl, sym, ap, subst, filter_map, filter_map-append, PlainCaps, plain_caps}
use Rattle.hn_audit.proofs.Names.{Contains-head, Contains-one, nothing_in, PlainItem, HasItems, ItemsAreUnique, version_of, OwnPrefix, State, IsRouter, in_filter_map, from_filter_map}
use Rattle.std.specs.Prelude.{codes}
use Rattle.hn_typed.specs.Item.{Version}
use Rattle.hn_data.specs.Items.{first_of}
use Rattle.hn_data.specs.Said.{caps_of}
use Rattle.hn_own.specs.declared.own.OwnItems.{OwnItems}
use Rattle.hn_own.specs.Own.{peer_item, external_items, assigned_item, address_item, items_of}
use Rattle.hn_audit.proofs.BridgeSets.{OwnVersions}
use Rattle.hn_rules.specs.Laws.{ItemsArePublished}
use Rattle.hn_base.proofs.Elements.{none_given, given_by_parts, none_or_some}

-- ---- the version among own items

one_version : (now : ℕ) (own : OwnItems) → filter_map caps_of (items_of now own) ≡ plain_caps own.caps ∷ []
one_version now own =
    let links = none_given caps_of peer_item (λ _. refl) own.links in
    let external : filter_map caps_of (external_items now own.delegated) ≡ [] =
    none_or_some (λ (list : List OwnPrefix). filter_map caps_of (external_items now list) ≡ []) refl (λ p ps. refl) own.delegated in
    let assigned = none_given caps_of assigned_item (λ _. refl) own.assigned in
    let addresses = none_given caps_of address_item (λ _. refl) own.addresses in
    let parts = given_by_parts caps_of (map peer_item own.links) (external_items now own.delegated) (map assigned_item own.assigned) in
    let last = filter_map-append caps_of (map peer_item own.links ++ external_items now own.delegated ++ map assigned_item own.assigned) (map address_item own.addresses) in
    let others = last ∙ rw (parts, links, external, assigned) addresses in
    ap (λ (rest : List PlainCaps). plain_caps own.caps ∷ rest) others

-- the first of a list whose elements are all one
first_is : (xs : List PlainCaps) (c : PlainCaps) → Contains xs c → ((y : PlainCaps) → Contains xs y → y ≡ c) → first_of xs ≡ Some c
first_is [] c there all = absurd (nothing_in c there)
first_is (x ∷ xs) c there all = ap Some (all x (Contains-head x xs))

-- ---- and in own node data

-- the laws of node data on which it rests
pub record ReadLaws : Type 0 where
  pub published : ItemsArePublished
  pub one_items : ItemsAreUnique

module _ (laws : ReadLaws) (s : State) (router : IsRouter s) where
  abbrev read : List PlainItem
  read = (laws.published s router).0

  abbrev own_items_of : List PlainItem
  own_items_of = items_of s.own.born s.own.items

  -- what an item read says, one of the own items says
  read_is_own : {A : Type 0} (h : PlainItem → Option A) (a : A) → Contains (filter_map h read) a → Contains (filter_map h own_items_of) a
  read_is_own h a there =
      let from = from_filter_map h read a there in
      in_filter_map h own_items_of from.0 a (((laws.published s router).2 from.0).0 from.1) from.2

  no_other : (y : PlainCaps) → Contains (filter_map caps_of read) y → y ≡ plain_caps s.own.items.caps
  no_other y there =
      let one : Contains (plain_caps s.own.items.caps ∷ []) y =
      subst (λ (list : List PlainCaps). Contains list y) (one_version s.own.born s.own.items) (read_is_own caps_of y there) in
      sym (Contains-one (plain_caps s.own.items.caps) y one)

  version_read : Contains (filter_map caps_of read) (plain_caps s.own.items.caps)
  version_read =
      let version : PlainItem = Version (plain_caps s.own.items.caps) (codes "hncp") in
      in_filter_map caps_of read version (plain_caps s.own.items.caps)
      (((laws.published s router).2 version).1 (Contains-head version _)) refl

  pub own_version : HasItems s.own.body (λ items. version_of items ≡ Some (plain_caps s.own.items.caps))
  own_version = (read, (laws.published s router).1, first_is (filter_map caps_of read) (plain_caps s.own.items.caps) version_read no_other)

pub own_versions : ReadLaws → OwnVersions
own_versions laws s router = own_version laws s router
