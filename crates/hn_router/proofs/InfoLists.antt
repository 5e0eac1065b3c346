-- What an endpoint advertises of a router's assignments, one after the other.
use Rattle.hn_base.proofs.Names.{◌≡◌, ◌↔◌, ℕ, ◌+◌, ◌<◌, List, [], ◌∷◌, ◌++◌, map, take, get_or, slice_get, Some, arith, Ordering, Contains, refl, sym, ◌∙◌, ap, subst, ⊎_elim, All, Less, Equal}
use Rattle.hn_base.proofs.Names.{Greater, on, nat_cmp, ordering_then, nat_cmp_total, tied_itself, map-append, length-take, get_or-take, All-contains, All-push, All-take, Contains-push}
use Rattle.hn_base.proofs.Names.{Contains-push_cases, Contains-append_left, Less-from_sorted, get_or_from_slice_get, slice_get_within, PlainPrefix, IsPrefix, IsWithin, prefix_cmp}
use Rattle.hn_router.proofs.Names.{nothing_in, sorted_parts, contains_at, EpId, Info, Assigned, IsInDelegated, assigned_pair, IsAscending, PlainView, Delegated, AreUsable, InsideKeepsTheOrder, State}
use Rattle.hn_router.proofs.Names.{seen_by, AreInfos, IsInfoFrom, HasNoInfo, prefix_total}
use Rattle.std.specs.List.Sorted.{IsStrictlySortedBy}
use Rattle.hn_base.proofs.AscendingLists.{Contains-map, Contains-from_map, sorted_push}
use Rattle.hn_base.proofs.PartsAtPlaces.{one_of_ascending}
use Rattle.hn_pair.specs.Pair.{pair_cmp}
use Rattle.hn_deleg.specs.Used.{prefixes_of, whole_seconds}
use Rattle.hn_base.proofs.FrontOfList.{front_at}

-- ---- orders

first_less : (a b : Ordering) → b ≡ Equal → ordering_then a b ≡ Less → a ≡ Less
first_less Less b tied h = refl
first_less Equal b tied h = absurd (cc)
first_less Greater b tied h = absurd (cc)

-- of one endpoint the delegated prefixes ascend
delegated_less : (a c : Assigned) → a.endpoint ≡ c.endpoint → pair_cmp (assigned_pair a) (assigned_pair c) ≡ Less → prefix_cmp a.delegated c.delegated ≡ Less
delegated_less a c same less =
    let tied : nat_cmp a.endpoint.0 c.endpoint.0 ≡ Equal = ap (λ (e : EpId). nat_cmp a.endpoint.0 e.0) (sym same) ∙ tied_itself nat_cmp_total a.endpoint.0 in
    first_less (prefix_cmp a.delegated c.delegated) (nat_cmp a.endpoint.0 c.endpoint.0) tied less

-- a prefix has one element
one_used : (xs : List Delegated) (u v : Delegated) → IsStrictlySortedBy prefix_cmp (prefixes_of xs) → Contains xs u → Contains xs v → u.prefix ≡ v.prefix → u ≡ v
one_used xs u v up hu hv same =
    one_of_ascending (λ (d : Delegated). d.prefix) prefix_cmp prefix_total xs ((sorted_parts (λ (d : Delegated). d.prefix) prefix_cmp xs).1 up) u v hu hv same

-- ---- of one assignment

-- what is advertised of an assignment is one
one_info : (view : PlainView) (usable : List Delegated) (e : EpId) (c : Assigned) (i j : Info) → AreUsable view usable → IsInfoFrom usable e c i → IsInfoFrom usable e c j → i ≡ j
one_info view usable e c i j are f g =
    let same : f.delegated ≡ g.delegated = one_used usable f.delegated g.delegated are.ascending f.is_used g.is_used (f.of_delegated ∙ sym g.of_delegated) in
    let prefix : i.prefix ≡ j.prefix = f.prefix ∙ sym g.prefix in
    let valid : i.valid ≡ j.valid = f.valid ∙ ap (λ (d : Delegated). whole_seconds d.valid) same ∙ sym g.valid in
    let preferred : i.preferred ≡ j.preferred = f.preferred ∙ ap (λ (d : Delegated). whole_seconds d.preferred) same ∙ sym g.preferred in
    λ k. record { prefix = prefix k; valid = valid k; preferred = preferred k }

-- its delegated prefix is a used one, and has its prefix inside
used_one : (usable : List Delegated) (e : EpId) (c : Assigned) (i : Info) → IsInfoFrom usable e c i → Contains (prefixes_of usable) c.delegated
used_one usable e c i f = subst (Contains (prefixes_of usable)) f.of_delegated (Contains-map (λ (u : Delegated). u.prefix) usable f.delegated f.is_used)

inside_one : (usable : List Delegated) (e : EpId) (c : Assigned) (i : Info) → IsInDelegated c → IsInfoFrom usable e c i → IsWithin i.prefix c.delegated
inside_one usable e c i inside f = subst (λ (p : PlainPrefix). IsWithin p c.delegated) (sym f.prefix) inside

-- ---- of several assignments

-- what is advertised of these assignments, in ascending order
pub record AreInfosOf (usable : List Delegated) (e : EpId) (assigned : List Assigned) (infos : List Info) : Type 0 where
  pub ascending : IsStrictlySortedBy prefix_cmp (map (λ i. i.prefix) infos)
  pub valid : All (λ i. IsPrefix i.prefix) infos
  pub each : (i : Info) → Contains infos i ↔ ((c : Assigned) × Contains assigned c × IsInfoFrom usable e c i)

pub infos_none : (usable : List Delegated) (e : EpId) → AreInfosOf usable e [] []
unfolding IsStrictlySortedBy
infos_none usable e = record {
  ascending = tt;
  valid = λ k d lt. absurd (nothing_in d (k, lt, refl));
  each = λ i. (λ h. absurd (nothing_in i h), λ h. absurd (nothing_in h.0 h.1));
}

-- the next assignment of a router comes after these, and each is inside its delegated prefix
pub record IsNext (view : PlainView) (usable : List Delegated) (done : List Assigned) (c : Assigned) : Type 0 where
  pub are_usable : AreUsable view usable
  pub before : All (λ b. pair_cmp (assigned_pair b) (assigned_pair c) ≡ Less) done
  pub inside : All IsInDelegated done
  pub inside_c : IsInDelegated c

-- one that is advertised of an earlier assignment comes before
before_next : InsideKeepsTheOrder → (view : PlainView) (usable : List Delegated) (e : EpId) (done : List Assigned) (c : Assigned) (b : Assigned) (i j : Info)
    → IsNext view usable done c → Contains done b
    → IsInfoFrom usable e b j → IsInfoFrom usable e c i → IsPrefix j.prefix → IsPrefix i.prefix → prefix_cmp j.prefix i.prefix ≡ Less
before_next keeps view usable e done c b i j next early from_b from_c valid_j valid_i =
    let less : pair_cmp (assigned_pair b) (assigned_pair c) ≡ Less = All-contains (λ (x : Assigned). pair_cmp (assigned_pair x) (assigned_pair c) ≡ Less) done b next.before early in
    let inside_b = All-contains IsInDelegated done b next.inside early in
    keeps view usable b.delegated c.delegated j.prefix i.prefix next.are_usable (used_one usable e b j from_b) (used_one usable e c i from_c) valid_j valid_i
    (inside_one usable e b j inside_b from_b) (inside_one usable e c i next.inside_c from_c) (delegated_less b c (from_b.of_endpoint ∙ sym from_c.of_endpoint) less)

pub infos_more : InsideKeepsTheOrder → (view : PlainView) (usable : List Delegated) (e : EpId) (done : List Assigned) (c : Assigned) (infos : List Info) (i : Info) → IsNext view usable done c
    → AreInfosOf usable e done infos → IsInfoFrom usable e c i → IsPrefix i.prefix → AreInfosOf usable e (done ++ c ∷ []) (infos ++ i ∷ [])
infos_more keeps view usable e done c infos i next were from valid = record {
  ascending = subst (IsStrictlySortedBy prefix_cmp) (sym (map-append (λ (x : Info). x.prefix) infos (i ∷ [])))
      (sorted_push prefix_cmp (map (λ (x : Info). x.prefix) infos) i.prefix were.ascending (λ q h.
      let found = Contains-from_map (λ (x : Info). x.prefix) infos q h in
      let b = (were.each found.0).0 found.1 in
      let valid_j = All-contains (λ (x : Info). IsPrefix x.prefix) infos found.0 were.valid found.1 in
      subst (λ (p : PlainPrefix). prefix_cmp p i.prefix ≡ Less) found.2 (before_next keeps view usable e done c b.0 i found.0 next b.1 b.2 from valid_j valid)));
  valid = All-push (λ (x : Info). IsPrefix x.prefix) infos i were.valid valid;
  each = λ j. (
    λ h. ⊎_elim
        (λ (old : Contains infos j). let b = (were.each j).0 old in (b.0, Contains-append_left done (c ∷ []) b.0 b.1, b.2))
        (λ (new : i ≡ j). (c, Contains-push done c, subst (IsInfoFrom usable e c) new from))
        (Contains-push_cases infos i j h),
    λ h. ⊎_elim
        (λ (old : Contains done h.0). Contains-append_left infos (i ∷ []) j ((were.each j).1 (h.0, old, h.2)))
        (λ (new : c ≡ h.0).
        let same : i ≡ j = one_info view usable e c i j next.are_usable from (subst (λ (x : Assigned). IsInfoFrom usable e x j) (sym new) h.2) in
        subst (Contains (infos ++ i ∷ [])) same (Contains-push infos i))
        (Contains-push_cases done c h.0 h.1),
  );
}

pub infos_same : (usable : List Delegated) (e : EpId) (done : List Assigned) (c : Assigned) (infos : List Info) → AreInfosOf usable e done infos
    → HasNoInfo usable e c → AreInfosOf usable e (done ++ c ∷ []) infos
infos_same usable e done c infos were none = record {
  ascending = were.ascending;
  valid = were.valid;
  each = λ j. (
    λ h. let b = (were.each j).0 h in (b.0, Contains-append_left done (c ∷ []) b.0 b.1, b.2),
    λ h. ⊎_elim
        (λ (old : Contains done h.0). (were.each j).1 (h.0, old, h.2))
        (λ (new : c ≡ h.0). absurd (none j (subst (λ (x : Assigned). IsInfoFrom usable e x j) (sym new) h.2)))
        (Contains-push_cases done c h.0 h.1),
  );
}

-- ---- the same, by the place of the next assignment

before_at : (xs : List Assigned) (n : ℕ) (c : Assigned) → slice_get xs n ≡ Some c → IsAscending assigned_pair xs → All (λ b. pair_cmp (assigned_pair b) (assigned_pair c) ≡ Less) (take n xs)
before_at xs n c at up k d within =
    let size = length-take n xs in
    let early : k < n = omega arith in
    let less : pair_cmp (assigned_pair (get_or xs k d)) (assigned_pair (get_or xs n d)) ≡ Less = Less-from_sorted (on assigned_pair pair_cmp) xs k n d up early (slice_get_within xs n c at) in
    rw (get_or-take n xs k d early) (subst (λ (b : Assigned). pair_cmp (assigned_pair (get_or xs k d)) (assigned_pair b) ≡ Less) (get_or_from_slice_get xs n c d at) less)

next_at : (view : PlainView) (usable : List Delegated) (xs : List Assigned) (n : ℕ) (c : Assigned) → slice_get xs n ≡ Some c → AreUsable view usable
    → IsAscending assigned_pair xs → All IsInDelegated xs
    → IsNext view usable (take n xs) c
next_at view usable xs n c at are up inside = record {
  are_usable = are;
  before = before_at xs n c at up;
  inside = All-take IsInDelegated n xs inside;
  inside_c = All-contains IsInDelegated xs c inside (contains_at xs n c at);
}

pub infos_more_at : InsideKeepsTheOrder → (view : PlainView) (usable : List Delegated) (e : EpId) (xs : List Assigned) (n : ℕ) (c : Assigned) (infos : List Info) (i : Info)
    → slice_get xs n ≡ Some c → AreUsable view usable → IsAscending assigned_pair xs → All IsInDelegated xs → AreInfosOf usable e (take n xs) infos
    → IsInfoFrom usable e c i → IsPrefix i.prefix → AreInfosOf usable e (take (n + 1) xs) (infos ++ i ∷ [])
infos_more_at keeps view usable e xs n c infos i at are up inside were from valid =
    subst (λ (l : List Assigned). AreInfosOf usable e l (infos ++ i ∷ [])) (sym (front_at xs n c at))
    (infos_more keeps view usable e (take n xs) c infos i (next_at view usable xs n c at are up inside) were from valid)

pub infos_same_at : (usable : List Delegated) (e : EpId) (xs : List Assigned) (n : ℕ) (c : Assigned) (infos : List Info)
    → slice_get xs n ≡ Some c → AreInfosOf usable e (take n xs) infos → HasNoInfo usable e c
    → AreInfosOf usable e (take (n + 1) xs) infos
infos_same_at usable e xs n c infos at were none = subst (λ (l : List Assigned). AreInfosOf usable e l infos) (sym (front_at xs n c at)) (infos_same usable e (take n xs) c infos were none)

-- ---- of a router

pub infos_are : (s : State) (usable : List Delegated) (e : EpId) (infos : List Info) → AreUsable (seen_by s) usable → AreInfosOf usable e s.held.assigned infos → AreInfos s e infos
infos_are s usable e infos are of = record {
  usable = usable;
  are_usable = are;
  ascending = of.ascending;
  each = λ i. (
    λ h. let b = (of.each i).0 h in
        let f = b.2 in
        record {
          assignment = b.0;
          held = b.1;
          of_endpoint = f.of_endpoint;
          applied = f.applied;
          delegated = f.delegated;
          is_used = f.is_used;
          of_delegated = f.of_delegated;
          prefix = f.prefix;
          valid = f.valid;
          preferred = f.preferred;
        },
    λ h. (of.each i).1 (
      h.assignment,
      h.held,
      record {
        of_endpoint = h.of_endpoint;
        applied = h.applied;
        delegated = h.delegated;
        is_used = h.is_used;
        of_delegated = h.of_delegated;
        prefix = h.prefix;
        valid = h.valid;
        preferred = h.preferred;
      },
    ),
  );
}
