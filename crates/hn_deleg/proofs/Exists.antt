-- A view has a list of usable prefixes.
use Rattle.hn_base.proofs.Names.{◌≡◌, ◌∙◌, ◌⊎◌, ◌↔◌, ℕ, ◌+◌, ◌≤◌, List, [], ◌∷◌, ◌++◌, Option, Some, None, length, take, get_or, slice_get, min, max, Contains, refl, sym, ap, subst, inl, inr, suc}
use Rattle.hn_base.proofs.Names.{zero, arith, All, filter_map, IsStrictlySortedBy, cases_lt, take_all, All-contains, Contains-append_left, Contains-append_right, Contains-append_cases}
use Rattle.hn_base.proofs.Names.{slice_get-get_or, same_Some, none-some, PlainPrefix, IsPrefix, IsWithin, last_address, prefix_cmp}
use Rattle.hn_deleg.proofs.Names.{Contains-head, Contains-tail, Contains-cases, Contains-map, nothing_in, all_of, in_filter_map, from_filter_map, prefix_total, exact_prefix, PlainItem, HasDelegation}
use Rattle.hn_deleg.proofs.Names.{delegation_of, HasVersion, PlainView, Delegation, Entry, Delegated, live_of, HasPrefixes, IsLiveAt, IsLiveIn, AreOutermost, IsCovered, IsReadyFor, HasLifetimesIn}
use Rattle.hn_deleg.proofs.Names.{prefixes_of, AreUsable}
use Rattle.hn_base.proofs.AscendingMade.{ascending_of}
use Rattle.hn_base.proofs.SoOrNot.{Decided, one_or_none}
use Rattle.hn_base.proofs.DecidingTests.{cases_by}
use Rattle.hn_typed.specs.Item.{PlainCaps, External}
use Rattle.hn_data.specs.Delegations.{IsDelegatedIn}
use Rattle.hn_data.specs.Items.{AreItems, HasItems}
use Rattle.hn_data.specs.Laws.{ItemsAreUnique, ItemsOrNone}
use Rattle.hn_data.specs.Said.{version_of}
use Rattle.hn_deleg.proofs.Filtered.{IsFiltered, filtered_none, ready_at, filtered_same_at, filtered_more_at, outermost_from_filtered}
use Rattle.hn_deleg.proofs.Fits.{candidate_is_prefix}
use Rattle.hn_deleg.proofs.Live.{live_added, live_same}
use Rattle.hn_deleg.proofs.Prefixes.{WithinIsRange}
use Rattle.hn_deleg.proofs.GreatestLifetimes.{AreTops, tops_none, tops_more_at, tops_other_at, lifetimes_from_tops}
use Rattle.hn_deleg.proofs.UsableFromLive.{candidate_from_live, valid_candidates, kept_in_live, usable}

-- ---- the External-Connections among items

external_of : PlainItem → Option (List ℕ)
external_of (External subs) = Some subs
external_of _ = None

is_external : (item : PlainItem) (subs : List ℕ) → external_of item ≡ Some subs → item ≡ External subs
unfolding external_of
is_external (External inner) subs is = ap External (same_Some inner subs is)
is_external _ subs is = absurd (none-some subs is)

externals : (items : List PlainItem) (subs : List ℕ) → Contains items (External subs) ↔ Contains (filter_map external_of items) subs
unfolding external_of
externals items subs = (
  λ h. in_filter_map external_of items (External subs) subs h refl,
  λ h. let found = from_filter_map external_of items subs h in subst (Contains items) (is_external found.0 subs found.2) found.1,
)

-- ---- what data say

module _ (items_or_none : ItemsOrNone) (items_unique : ItemsAreUnique) where
  version_or_not : (bytes : List ℕ) → Decided (HasVersion bytes)
  version_or_not bytes = elim (items_or_none bytes) [
    | inr none ↦ inr (λ h. none h.1.0 h.1.1)
    | inl (items, are) ↦ by_first items are (version_of items) refl
  ]
    where
      by_first : (items : List PlainItem) → AreItems bytes items → (o : Option PlainCaps) → version_of items ≡ o → Decided (HasVersion bytes)
      by_first items are (Some caps) is = inl (caps, (items, are, is))
      by_first items are None is = inr (λ h. none-some h.0 (sym is ∙ subst (λ (l : List PlainItem). version_of l ≡ Some h.0) (items_unique bytes h.1.0 items h.1.1 are) h.1.2))

  -- the delegated prefixes inside some External-Connections
  inside : (all : List (List ℕ))
      → (ds : List Delegation) × ((d : Delegation) → Contains ds d ↔ ((subs : List ℕ) × Contains all subs × HasItems subs (λ inner. Contains (filter_map delegation_of inner) d)))
  inside [] = ([], λ d. (λ h. absurd (nothing_in d h), λ h. absurd (nothing_in h.0 h.1)))
  inside (first ∷ all) = go (inside all) (items_or_none first)
    where
      go : (ds : List Delegation) × ((d : Delegation) → Contains ds d ↔ ((subs : List ℕ) × Contains all subs × HasItems subs (λ inner. Contains (filter_map delegation_of inner) d)))
          → ((items : List PlainItem) × AreItems first items) ⊎ ((items : List PlainItem) → ¬ (AreItems first items))
          → (ds : List Delegation) × ((d : Delegation) → Contains ds d ↔ ((subs : List ℕ) × Contains (first ∷ all) subs × HasItems subs (λ inner. Contains (filter_map delegation_of inner) d)))
      go (rest, exact) (inr none) = (
        rest,
        λ d. (
          λ h. let found = (exact d).0 h in (found.0, Contains-tail first all found.0 found.1, found.2),
          λ h. elim (Contains-cases first all h.0 h.1) [
            | inl same ↦ absurd (none h.2.0 (subst (λ (bytes : List ℕ). AreItems bytes h.2.0) (sym same) h.2.1))
            | inr later ↦ (exact d).1 (h.0, later, h.2)
          ],
        ),
      )
      go (rest, exact) (inl (items, are)) =
          let here = filter_map delegation_of items in (
            here ++ rest,
            λ d. (
              λ h. elim (Contains-append_cases here rest d h) [
                | inl among ↦ (first, Contains-head first all, (items, are, among))
                | inr later ↦ let found = (exact d).0 later in (found.0, Contains-tail first all found.0 found.1, found.2)
              ],
              λ h. elim (Contains-cases first all h.0 h.1) [
                | inl same ↦
                    let one = items_unique first h.2.0 items (subst (λ (bytes : List ℕ). AreItems bytes h.2.0) (sym same) h.2.1) are in
                    Contains-append_left here rest d (subst (λ (l : List PlainItem). Contains (filter_map delegation_of l) d) one h.2.2)
                | inr later ↦ Contains-append_right here rest d ((exact d).1 (h.0, later, h.2))
              ],
            ),
          )

  said : (bytes : List ℕ) → (ds : List Delegation) × ((d : Delegation) → Contains ds d ↔ HasDelegation bytes d)
  said bytes = elim (items_or_none bytes) [
    | inr none ↦ ([], λ d. (λ h. absurd (nothing_in d h), λ h. absurd (none h.0 h.1)))
    | inl (items, are) ↦
        let found = inside (filter_map external_of items) in (
          found.0,
          λ d. (
            λ h. let in_one = (found.1 d).0 h in (items, are, record { subs = in_one.0; external = (externals items in_one.0).1 in_one.1; inside = in_one.2 }),
            λ h.
                let here : IsDelegatedIn items d = subst (λ (l : List PlainItem). IsDelegatedIn l d) (items_unique bytes h.0 items h.1 are) h.2 in
                (found.1 d).1 (here.subs, (externals items here.subs).0 here.external, here.inside),
          ),
        )
  ]

  -- ---- what nodes announce that is live

  added : (node : Entry) (old : List Delegated) → (new : List Delegated) × ((u : Delegated) → Contains new u ↔ (Contains old u ⊎ IsLiveAt node u))
  added node old = elim (version_or_not node.body) [
    | inl version ↦ let ds = said node.body in (old ++ filter_map (live_of node.age) ds.0, live_added node old (old ++ filter_map (live_of node.age) ds.0) ds.0 version ds.1 refl)
    | inr none ↦ (old, live_same node old none)
  ]

  live_in : (nodes : List Entry) → (live : List Delegated) × ((u : Delegated) → Contains live u ↔ IsLiveIn nodes u)
  live_in [] = ([], λ u. (λ h. absurd (nothing_in u h), λ h. absurd (nothing_in h.node h.among)))
  live_in (node ∷ nodes) =
      let rest = live_in nodes in
      let more = added node rest.0 in (
        more.0,
        λ u. (
          λ h. elim ((more.1 u).0 h) [
            | inl before ↦ let l = (rest.1 u).0 before in record { node = l.node; among = Contains-tail node nodes l.node l.among; at = l.at }
            | inr at ↦ record { node = node; among = Contains-head node nodes; at = at }
          ],
          λ h. (more.1 u).1 (elim (Contains-cases node nodes h.node h.among) [
            | inl same ↦ inr (subst (λ (n : Entry). IsLiveAt n u) (sym same) h.at)
            | inr later ↦ inl ((rest.1 u).1 (record { node = h.node; among = later; at = h.at }))
          ]),
        ),
      )

  -- ---- the outermost ones

  module _ (within_range : WithinIsRange) where
    within_or_not : (p q : PlainPrefix) → IsPrefix p → IsPrefix q → Decided (IsWithin p q)
    within_or_not p q valid_p valid_q = elim (cases_lt p.bits q.bits) [
      | inl below ↦ inr (λ w. let range = ((within_range q p valid_q valid_p).0 w).0 in omega (arith, below, range))
      | inr first ↦
          elim (cases_lt (last_address q) (last_address p)) [
            | inl past ↦ inr (λ w. let range = ((within_range q p valid_q valid_p).0 w).1 in omega (arith, past, range))
            | inr last ↦ inl ((within_range q p valid_q valid_p).1 (first, last))
          ]
    ]

    covered_or_not : (kept : List PlainPrefix) (p : PlainPrefix) → IsReadyFor kept p → Decided (IsCovered kept p)
    covered_or_not kept p ready = elim (one_or_none (IsWithin p) kept (λ q there. within_or_not p q ready.valid_p (ready.valid q there))) [
      | inl (q, there, w) ↦ inl (record { outer = q; among = there; inside = w })
      | inr none ↦ inr (λ c. none c.outer c.among c.inside)
    ]

    filtered_first : (ascending : List PlainPrefix) → IsStrictlySortedBy prefix_cmp ascending → All IsPrefix ascending → (n : ℕ)
        → n ≤ length ascending → (kept : List PlainPrefix) × IsFiltered (take n ascending) kept
    filtered_first ascending up valid zero within = ([], filtered_none)
    filtered_first ascending up valid (suc n) within =
        let p = get_or ascending n (record { bits = 0; len = 0 }) in
        let at = slice_get-get_or ascending n (record { bits = 0; len = 0 }) (omega (arith, within)) in
        let more : n + 1 ≡ suc n = omega arith in
        let before = filtered_first ascending up valid n (omega (arith, within)) in
        next p at more before.0 before.1 (covered_or_not before.0 p (ready_at ascending before.0 n p at up valid before.1))
      where
        next : (p : PlainPrefix) → slice_get ascending n ≡ Some p → n + 1 ≡ suc n → (kept : List PlainPrefix) → IsFiltered (take n ascending) kept
            → Decided (IsCovered kept p) → (kept : List PlainPrefix) × IsFiltered (take (suc n) ascending) kept
        next p at more kept f (inl c) = (kept, subst (λ (k : ℕ). IsFiltered (take k ascending) kept) more (filtered_same_at within_range ascending kept n p at up valid f c))
        next p at more kept f (inr none) = (
          kept ++ p ∷ [],
          subst (λ (k : ℕ). IsFiltered (take k ascending) (kept ++ p ∷ [])) more (filtered_more_at within_range ascending kept n p at up valid f none),
        )

    outermost_of : (ascending : List PlainPrefix) → IsStrictlySortedBy prefix_cmp ascending → All IsPrefix ascending → (kept : List PlainPrefix) × AreOutermost ascending kept
    outermost_of ascending up valid =
        let all = filtered_first ascending up valid (length ascending) (omega arith) in
        let whole = take_all (length ascending) ascending (omega arith) in
        (all.0, outermost_from_filtered ascending all.0 (subst (λ (l : List PlainPrefix). IsFiltered l all.0) whole all.1))

    -- ---- the lifetimes

    -- both tops of a prefix
    abbrev HasTops : List Delegated → PlainPrefix → Type 0
    HasTops xs p = (valid : ℕ) × (preferred : ℕ) × AreTops xs p valid preferred

    tops_first : (live : List Delegated) (p : PlainPrefix) (n : ℕ) → n ≤ length live → HasTops (take n live) p
    tops_first live p zero within = (0, 0, tops_none p)
    tops_first live p (suc n) within =
        let u = get_or live n (record { prefix = record { bits = 0; len = 0 }; valid = 0; preferred = 0 }) in
        let at = slice_get-get_or live n (record { prefix = record { bits = 0; len = 0 }; valid = 0; preferred = 0 }) (omega (arith, within)) in
        let more : n + 1 ≡ suc n = omega arith in
        let before = tops_first live p n (omega (arith, within)) in
        next u at more before (cases_by prefix_cmp prefix_total exact_prefix u.prefix p)
      where
        next : (u : Delegated) → slice_get live n ≡ Some u → n + 1 ≡ suc n → HasTops (take n live) p → Decided (u.prefix ≡ p) → HasTops (take (suc n) live) p
        next u at more (valid, preferred, tops) (inl is) = (
          max u.valid valid,
          max u.preferred preferred,
          subst (λ (k : ℕ). AreTops (take k live) p (max u.valid valid) (max u.preferred preferred)) more (tops_more_at live n u p valid preferred at tops is),
        )
        next u at more (valid, preferred, tops) (inr other) =
            (valid, preferred, subst (λ (k : ℕ). AreTops (take k live) p valid preferred) more (tops_other_at live n u p valid preferred at tops other))

    with_lifetimes : (live : List Delegated) (p : PlainPrefix) → Contains (prefixes_of live) p → (u : Delegated) × (u.prefix ≡ p) × HasLifetimesIn live u
    with_lifetimes live p there =
        let tops = tops_first live p (length live) (omega arith) in
        let whole = take_all (length live) live (omega arith) in
        let u : Delegated = record { prefix = p; valid = tops.0; preferred = min tops.1 tops.0 } in
        (u, refl, lifetimes_from_tops live u tops.1 there (subst (λ (l : List Delegated). AreTops l p tops.0 tops.1) whole tops.2) refl)

    all_with_lifetimes : (live : List Delegated) (ps : List PlainPrefix) → ((p : PlainPrefix) → Contains ps p → Contains (prefixes_of live) p)
        → (list : List Delegated) × (prefixes_of list ≡ ps) × ((u : Delegated) → Contains list u → HasLifetimesIn live u)
    all_with_lifetimes live [] there = ([], refl, λ u h. absurd (nothing_in u h))
    all_with_lifetimes live (p ∷ ps) there =
        let one = with_lifetimes live p (there p (Contains-head p ps)) in
        let rest = all_with_lifetimes live ps (λ q h. there q (Contains-tail p ps q h)) in (
          one.0 ∷ rest.0,
          ap (λ (q : PlainPrefix). q ∷ prefixes_of rest.0) one.1 ∙ ap (λ (qs : List PlainPrefix). p ∷ qs) rest.1,
          λ u h. elim (Contains-cases one.0 rest.0 u h) [
            | inl same ↦ subst (HasLifetimesIn live) same one.2
            | inr later ↦ rest.2 u later
          ],
        )

    pub usable_exists : (view : PlainView) → (list : List Delegated) × AreUsable view list
    usable_exists view =
        let live = live_in view.nodes in
        let ps = prefixes_of live.0 in
        let sorted = ascending_of prefix_cmp prefix_total exact_prefix ps in
        let prefixes : HasPrefixes live.0 = all_of (λ u. IsPrefix u.prefix) live.0
        (λ u h. candidate_is_prefix view u.prefix (candidate_from_live view live.0 u.prefix live.1 (Contains-map (λ (x : Delegated). x.prefix) live.0 u h))) in
        let valid = valid_candidates live.0 sorted.0 prefixes sorted.2 in
        let outer = outermost_of sorted.0 sorted.1 valid in
        let there = kept_in_live live.0 sorted.0 outer.0 32 sorted.2 outer.1 in
        let list = all_with_lifetimes live.0 (take 32 outer.0) (λ p h. All-contains (Contains (prefixes_of live.0)) (take 32 outer.0) p there h) in
        (list.0, usable view live.0 sorted.0 outer.0 list.0 live.1 sorted.2 outer.1 list.1 (all_of (HasLifetimesIn live.0) list.0 list.2))
