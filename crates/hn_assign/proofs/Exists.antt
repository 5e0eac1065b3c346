-- A view has a list of advertised prefixes.
use Rattle.hn_base.proofs.Names.{◌≡◌, ◌↔◌, ◌∙◌, ◌⊎◌, ℕ, List, [], ◌∷◌, ◌++◌, map, Option, None, Some, Contains, refl, sym, subst, inl, inr, filter_map, cases_eq, Contains-append_cases}
use Rattle.hn_base.proofs.Names.{Contains-append_left, Contains-append_right, none-some}
use Rattle.hn_assign.proofs.Names.{Contains-head, Contains-tail, Contains-cases, Contains-map, Contains-from_map, nothing_in, PlainItem, HasAssigned, HasVersion, assigned_prefix_of, AssignedPrefix}
use Rattle.hn_assign.proofs.Names.{Entry, Advertised, Assigned, IsSaidByNode, IsOfOther, IsOwn, IsAdvertised, own_advertised, AdvertisedExists}
use Rattle.hn_base.proofs.AscendingLists.{Contains-one}
use Rattle.hn_base.proofs.SoOrNot.{Decided}
use Rattle.hn_typed.specs.Item.{PlainCaps}
use Rattle.hn_data.specs.Items.{AreItems}
use Rattle.hn_data.specs.Laws.{ItemsAreUnique, ItemsOrNone}
use Rattle.hn_data.specs.Said.{version_of}
use Rattle.hn_assign.proofs.AdvertisedBy.{said_by, of_node, own_some}
use Rattle.hn_assign.proofs.GrownByEach.{Of}

-- ---- lists of what belongs

-- there is a list of these
abbrev Listed : (Advertised → Type 0) → Type 0
Listed P = (list : List Advertised) × ((a : Advertised) → Contains list a ↔ P a)

none_listed : (P : Advertised → Type 0) → ((a : Advertised) → ¬ (P a)) → Listed P
none_listed P none = ([], λ a. (λ h. absurd (nothing_in a h), λ h. absurd (none a h)))

-- what belongs to some element
each_listed : {B : Type 0} (P : B → Advertised → Type 0) → ((b : B) → Listed (P b)) → (bs : List B) → Listed (Of P bs)
each_listed P each [] = none_listed (Of P []) (λ a h. nothing_in h.0 h.1)
each_listed {B} P each (b ∷ bs) =
    let here = each b in
    let rest = each_listed P each bs in (
      here.0 ++ rest.0,
      λ a. (
        λ h. elim (Contains-append_cases here.0 rest.0 a h) [
          | inl first ↦ (b, Contains-head b bs, (here.1 a).0 first)
          | inr later ↦ let found = (rest.1 a).0 later in (found.0, Contains-tail b bs found.0 found.1, found.2)
        ],
        λ h. elim (Contains-cases b bs h.0 h.1) [
          | inl same ↦ Contains-append_left here.0 rest.0 a ((here.1 a).1 (subst (λ (x : B). P x a) (sym same) h.2))
          | inr later ↦ Contains-append_right here.0 rest.0 a ((rest.1 a).1 (h.0, later, h.2))
        ],
      ),
    )

-- what belongs to one or the other
both_listed : (P Q R : Advertised → Type 0) → ((a : Advertised) → (P a ⊎ Q a) ↔ R a) → Listed P → Listed Q → Listed R
both_listed P Q R same p q = (
  p.0 ++ q.0,
  λ a. (
    λ h. (same a).0 (elim (Contains-append_cases p.0 q.0 a h) [ inl first ↦ inl ((p.1 a).0 first) | inr later ↦ inr ((q.1 a).0 later) ]),
    λ h. elim ((same a).1 h) [ inl first ↦ Contains-append_left p.0 q.0 a ((p.1 a).1 first) | inr later ↦ Contains-append_right p.0 q.0 a ((q.1 a).1 later) ],
  ),
)

-- ---- what the router itself advertises

own_listed : (own : ℕ) (c : Assigned) → Listed (IsOwn own c)
own_listed own c = by_priority c.published refl
  where
    by_priority : (o : Option ℕ) → c.published ≡ o → Listed (IsOwn own c)
    by_priority None is = none_listed (IsOwn own c) (λ a h. none-some h.priority (sym is ∙ h.published))
    by_priority (Some p) is = (
      own_advertised own p c ∷ [],
      λ a. (
        λ h. elim ((own_some own p c [] a is).0 (inr (Contains-one (own_advertised own p c) a h))) [ inl none ↦ absurd (nothing_in a none) | inr of_own ↦ of_own ],
        λ h. elim ((own_some own p c [] a is).1 (inr h)) [
          | inl none ↦ absurd (nothing_in a none)
          | inr same ↦ subst (Contains (own_advertised own p c ∷ [])) same (Contains-head (own_advertised own p c) [])
        ],
      ),
    )

-- ---- what others advertise

module _ (items_or_none : ItemsOrNone) (items_unique : ItemsAreUnique) where
  version_or_not : (bytes : List ℕ) → Decided (HasVersion bytes)
  version_or_not bytes = elim (items_or_none bytes) [
    | inr none ↦ inr (λ h. none h.1.0 h.1.1)
    | inl (items, are) ↦ by_first items are (version_of items) refl
  ]
    where
      by_first : (items : List PlainItem) → AreItems bytes items → (o : Option PlainCaps) → version_of items ≡ o → Decided (HasVersion bytes)
      by_first items are (Some caps) is = inl (caps, (items, are, is))
      by_first items are None is = inr (λ h. none-some h.0 (sym is ∙ subst (λ (l : List PlainItem). version_of l ≡ Some h.0) (items_unique bytes h.1.0 items h.1.1 are) h.1.2))

  -- the Assigned-Prefixes of a node's data
  node_listed : (entry : Entry) → Listed (IsSaidByNode entry)
  node_listed entry = elim (items_or_none entry.body) [
    | inr none ↦ none_listed (IsSaidByNode entry) (λ a h. none h.assigned.0 h.assigned.1)
    | inl (items, are) ↦ of_items items are
  ]
    where
      of_items : (items : List PlainItem) → AreItems entry.body items → Listed (IsSaidByNode entry)
      of_items items are =
          let said = filter_map assigned_prefix_of items in
          let exact : (s : AssignedPrefix) → Contains said s ↔ HasAssigned entry.body s = λ s. (
            λ h. (items, are, h),
            λ h. subst (λ (l : List PlainItem). Contains (filter_map assigned_prefix_of l) s) (items_unique entry.body h.0 items h.1 are) h.2,
          ) in (
            map (said_by entry.id) said,
            λ a. (
              λ h. elim ((of_node entry said [] a exact).0 (inr (Contains-from_map (said_by entry.id) said a h))) [ inl none ↦ absurd (nothing_in a none) | inr of_entry ↦ of_entry ],
              λ h. elim ((of_node entry said [] a exact).1 (inr h)) [
                | inl none ↦ absurd (nothing_in a none)
                | inr (s, there, same) ↦ subst (Contains (map (said_by entry.id) said)) same (Contains-map (said_by entry.id) said s there)
              ],
            ),
          )

  other_listed : (own : ℕ) (entry : Entry) → Listed (IsOfOther own entry)
  other_listed own entry = elim (cases_eq entry.id.0 own) [
    | inl same ↦ none_listed (IsOfOther own entry) (λ a h. h.another same)
    | inr another ↦ elim (version_or_not entry.body) [
      | inr none ↦ none_listed (IsOfOther own entry) (λ a h. none h.version)
      | inl version ↦ let listed = node_listed entry in (listed.0, λ a. (λ h. record { another = another; version = version; says = (listed.1 a).0 h }, λ h. (listed.1 a).1 h.says))
    ]
  ]

  pub advertised_exists : AdvertisedExists
  advertised_exists view assigned =
      both_listed (Of (IsOfOther view.own) view.nodes) (Of (IsOwn view.own) assigned) (IsAdvertised view assigned) (λ a. (λ h. h, λ h. h))
      (each_listed (IsOfOther view.own) (other_listed view.own) view.nodes) (each_listed (IsOwn view.own) (own_listed view.own) assigned)
