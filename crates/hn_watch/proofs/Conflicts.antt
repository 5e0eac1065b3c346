-- The sequence numbers with which a node is shown with different hashes.
use Rattle.hn_base.proofs.Names.{◌≡◌, ◌≢◌, ◌∙◌, ◌<◌, ◌≤◌, ◌-◌, ◌^◌, ℕ, Bool, true, false, List, [], ◌∷◌, map, filter, Option, Some, None, Any, Contains, refl, sym, ap, subst, inl, inr, ⊎_elim, arith}
use Rattle.hn_base.proofs.Names.{◌==◌, ◌&&◌, AllByRecursion, Less, Greater, nat_cmp, ordering_then, is_gt, pointwise, bytes_decides, IsTotalOrder, option_and_then, IsExact, cases_Bool, and_parts}
use Rattle.hn_base.proofs.Names.{and_from, both_ways, cond_both, eqb-true, eq-eqb, tied_itself, by_ranked, nat_cmp_total, length-map, length-filter, All-contains, IsDistinct-from_sorted}
use Rattle.hn_watch.proofs.Names.{All, nat_eq, Ordering, NodeId, Contains-head, Contains-tail, Contains-cases, Contains-map, Contains-from_map, nothing_in, same_node, Shown, Claim, NodeNumber}
use Rattle.hn_watch.proofs.Names.{number_cmp, hashes_of, IsClaimOf, AreConflicts}
use Rattle.std.specs.List.Sorted.{IsStrictlySortedBy}
use Rattle.std.specs.declared.ops.Bound.TheVariants.{Included}
use Rattle.std.proofs.lemmas.Option.{option_and_then_some}
use Rattle.std.specs.Map.{lookup, keys_of}
use Rattle.std.specs.BTreeMap.{is_at}
use Rattle.std.specs.BTreeMap.Range.{range_contains}
use Rattle.std.proofs.lemmas.Cmp.{ranked, eq_by_cmp_equiv}
use Rattle.std.proofs.lemmas.Map.Views.{lookup-from_Contains, Contains-from_lookup, tells_apart, IsInRange-from_range_contains, range_contains-from_IsInRange}
use Rattle.hn_base.proofs.Elements.{in_filter, from_filter}
use Rattle.hn_watch.specs.Seen.{IsConflict}
use Rattle.hn_watch.specs.Remembered.{is_differing, places_of_node, conflicts_in}
use Rattle.hn_watch.proofs.Orders.{number_total, exact_number}

-- ---- the hashes that are shown with a node and a number

abbrev shown_with : NodeId → ℕ → List ℕ → Shown
shown_with node number hash = record { node = node; number = number; hash = hash }

hash_shown : (node : NodeId) (number : ℕ) (shown : List Shown) (hash : List ℕ) → Contains (hashes_of node number shown) hash → Contains shown (shown_with node number hash)
hash_shown node number shown hash there =
    let test : Shown → Bool = λ s. s.node.0 == node.0 && s.number == number in
    let found = Contains-from_map (λ (s : Shown). s.hash) (filter test shown) hash there in
    let passes = from_filter test shown found.0 found.1 in
    let parts = and_parts _ _ passes.1 in
    let node_is : found.0.node ≡ node = same_node found.0.node node (eqb-true found.0.node.0 node.0 parts.0) in
    let number_is : found.0.number ≡ number = eqb-true found.0.number number parts.1 in
    let same : found.0 ≡ shown_with node number hash = λ i. record { node = node_is i; number = number_is i; hash = found.2 i } in
    subst (Contains shown) same passes.0

shown_hash : (node : NodeId) (number : ℕ) (shown : List Shown) (hash : List ℕ) → Contains shown (shown_with node number hash) → Contains (hashes_of node number shown) hash
shown_hash node number shown hash there =
    let test : Shown → Bool = λ s. s.node.0 == node.0 && s.number == number in
    let passes : test (shown_with node number hash) ≡ true = and_from _ _ (eq-eqb node.0 node.0 refl) (eq-eqb number number refl) in
    Contains-map (λ (s : Shown). s.hash) (filter test shown) (shown_with node number hash) (in_filter test shown (shown_with node number hash) there passes)

-- ---- two different hashes

-- two of some hashes that differ
record AreTwo (hashes : List (List ℕ)) : Type 0 where
  one : List ℕ
  other : List ℕ
  has_one : Contains hashes one
  has_other : Contains hashes other
  differ : one ≢ other

-- one of the later hashes differs from the first, or each is the first
other_than : (first : List ℕ) (more : List (List ℕ)) (hash : List ℕ) → Contains (first ∷ more) hash → hash ≢ first → Any (λ h. h ≢ first) more
other_than first more hash there apart =
    ⊎_elim (λ (e : first ≡ hash). absurd (apart (sym e))) (λ (later : Contains more hash). (later.0, hash, later.1, later.2, apart)) (Contains-cases first more hash there)

-- a claim differs where it is of two different hashes
two_differ : (hashes : List (List ℕ)) (place : Option Claim) → IsClaimOf hashes place → AreTwo hashes → (claim : Claim) × (place ≡ Some claim) × (claim.differs ≡ true)
two_differ [] None is two = absurd (nothing_in two.one two.has_one)
two_differ [] (Some claim) is two = absurd is
two_differ (first ∷ more) None is two = absurd is
two_differ (first ∷ more) (Some claim) is two =
    let any : Any (λ h. h ≢ first) more =
    elim (cases_Bool (pointwise nat_eq two.one first)) [
      | inl same ↦ other_than first more two.other two.has_other (λ e. two.differ ((bytes_decides two.one first).0 same ∙ sym e))
      | inr apart ↦ other_than first more two.one two.has_one (λ e. both_ways (pointwise nat_eq two.one first) apart ((bytes_decides two.one first).1 e))
    ] in
    (claim, refl, is.1.1 any)

differ_two : (hashes : List (List ℕ)) (place : Option Claim) → IsClaimOf hashes place → is_differing place ≡ true → AreTwo hashes
differ_two [] None is differs = absurd cc
differ_two [] (Some claim) is differs = absurd is
differ_two (first ∷ more) None is differs = absurd is
differ_two (first ∷ more) (Some claim) is differs =
    let any = is.1.0 differs in record {
      one = any.1;
      other = first;
      has_one = Contains-tail first more any.1 (any.0, any.2, any.3);
      has_other = Contains-head first more;
      differ = any.4;
    }

-- ---- the places of a node

below_gt : (a b : ℕ) → a ≤ b → is_gt (nat_cmp a b) ≡ false
below_gt a b le =
    by_ranked (a < b) (a ≡ b) (b < a) (nat_cmp a b) (ranked a b (nat_cmp a b) refl) (λ is _. ap is_gt is) (λ is _. ap is_gt is) (λ _ gt. absurd (omega arith))

then_le : (a b : ℕ) (o : Ordering) → is_gt (ordering_then (nat_cmp a b) o) ≡ false → a ≤ b
then_le a b o not_gt =
    by_ranked (a < b) (a ≡ b) (b < a) (nat_cmp a b) (ranked a b (nat_cmp a b) refl) (λ _ lt. omega arith) (λ _ e. omega arith)
    (λ is gt. let greater : is_gt (ordering_then Greater o) ≡ false = subst (λ (p : Ordering). is_gt (ordering_then p o) ≡ false) is not_gt in absurd cc)

-- of equal nodes the numbers decide
same_then : (n : ℕ) (o : Ordering) → ordering_then (nat_cmp n n) o ≡ o
same_then n o = ap (λ p. ordering_then p o) (tied_itself nat_cmp_total n)

abbrev first_of : NodeId → NodeNumber
first_of node = record { node = node; number = 0 }

abbrev last_of : NodeId → NodeNumber
last_of node = record { node = node; number = 2 ^ 32 - 1 }

range_node : (node : NodeId) (key : NodeNumber) → range_contains number_cmp (Included (first_of node)) (Included (last_of node)) key ≡ true → key.node ≡ node
range_node node key within =
    let parts = IsInRange-from_range_contains number_total (Included (first_of node)) (Included (last_of node)) key within in
    let low : node.0 ≤ key.node.0 = then_le node.0 key.node.0 (nat_cmp 0 key.number) parts.0 in
    let high : key.node.0 ≤ node.0 = then_le key.node.0 node.0 (nat_cmp key.number (2 ^ 32 - 1)) parts.1 in
    same_node key.node node (omega arith)

node_range : (node : NodeId) (number : ℕ) → number < 2 ^ 32 → range_contains number_cmp (Included (first_of node)) (Included (last_of node)) (record { node = node; number = number }) ≡ true
node_range node number fits =
    range_contains-from_IsInRange number_total (Included (first_of node)) (Included (last_of node)) (record { node = node; number = number }) (
      ap is_gt (same_then node.0 (nat_cmp 0 number)) ∙ below_gt 0 number (omega arith),
      ap is_gt (same_then node.0 (nat_cmp number (2 ^ 32 - 1))) ∙ below_gt number (2 ^ 32 - 1) (omega arith),
    )

-- entries in order whose keys have one node are in order by their numbers
module _ (node : NodeId) where
  abbrev Entry : Type 0
  Entry = NodeNumber × Option Claim

  later_numbers : (key : NodeNumber) → key.node ≡ node → (es : List Entry) → ((e : Entry) → Contains es e → e.0.node ≡ node) → AllByRecursion (λ k. number_cmp key k ≡ Less) (map (λ e. e.0) es)
      → AllByRecursion (λ n. nat_cmp key.number n ≡ Less) (map (λ e. e.0.number) es)
  later_numbers key is [] each up = tt
  later_numbers key is (e ∷ es) each up =
      let other : e.0.node ≡ node = each e (Contains-head e es) in
      let nodes : nat_cmp key.node.0 e.0.node.0 ≡ nat_cmp node.0 node.0 = cc in (
        sym (ap (λ o. ordering_then o (nat_cmp key.number e.0.number)) nodes ∙ same_then node.0 (nat_cmp key.number e.0.number)) ∙ up.0,
        later_numbers key is es (λ x there. each x (Contains-tail e es x there)) up.1,
      )

  numbers_ascend : (es : List Entry) → ((e : Entry) → Contains es e → e.0.node ≡ node) → IsStrictlySortedBy number_cmp (map (λ e. e.0) es) → IsStrictlySortedBy nat_cmp (map (λ e. e.0.number) es)
  unfolding IsStrictlySortedBy
  numbers_ascend [] each up = tt
  numbers_ascend (e ∷ es) each up = (
    later_numbers e.0 (each e (Contains-head e es)) es (λ x there. each x (Contains-tail e es x there)) up.0,
    numbers_ascend es (λ x there. each x (Contains-tail e es x there)) up.1,
  )

-- a filter keeps the order of the keys
module _ {K V : Type 0} (cmp : K → K → Ordering) (test : K × V → Bool) where
  later_kept : (key : K) (es : List (K × V)) → AllByRecursion (λ k. cmp key k ≡ Less) (map (λ e. e.0) es) → AllByRecursion (λ k. cmp key k ≡ Less) (map (λ e. e.0) (filter test es))
  later_kept key [] up = tt
  later_kept key (e ∷ es) up =
      let more = later_kept key es up.1 in
      cond_both (test e) (e ∷ filter test es) (filter test es) (λ kept. AllByRecursion (λ k. cmp key k ≡ Less) (map (λ x. x.0) kept)) (λ _. (up.0, more)) (λ _. more)

  pub keys_ascend : (es : List (K × V)) → IsStrictlySortedBy cmp (map (λ e. e.0) es) → IsStrictlySortedBy cmp (map (λ e. e.0) (filter test es))
  unfolding IsStrictlySortedBy
  keys_ascend [] up = tt
  keys_ascend (e ∷ es) up =
      let more = keys_ascend es up.1 in
      cond_both (test e) (e ∷ filter test es) (filter test es) (λ kept. IsStrictlySortedBy cmp (map (λ x. x.0) kept)) (λ _. (later_kept e.0 es up.0, more)) (λ _. more)

-- ---- what is held, and the entries of a map in order

module _ {K V : Type 0} (cmp : K → K → Ordering) (total : IsTotalOrder cmp) (exact : IsExact cmp) (es : List (K × Option V)) (up : IsStrictlySortedBy cmp (map (λ e. e.0) es)) where
  pub entry_held : (key : K) (value : V) → Contains es (key, Some value) → option_and_then (λ v. v) (lookup (is_at (cmp key)) es) ≡ Some value
  entry_held key value there =
      ap (option_and_then (λ v. v)) (lookup-from_Contains (eq_by_cmp_equiv total) key (Some value) es (IsDistinct-from_sorted cmp (keys_of es) up) there)

  pub held_entry : (key : K) (value : V) → option_and_then (λ v. v) (lookup (is_at (cmp key)) es) ≡ Some value → Contains es (key, Some value)
  held_entry key value is =
      option_and_then_some (λ v. v) (lookup (is_at (cmp key)) es) value is (λ place found same. Contains-from_lookup (tells_apart exact) key (Some value) es (found ∙ ap Some same))

-- ---- the conflicts of a node

module _ (shown : List Shown) (fits : All (λ s. s.number < 2 ^ 32) shown) (es : List (NodeNumber × Option Claim)) (up : IsStrictlySortedBy number_cmp (map (λ e. e.0) es))
    (claims : (node : NodeId) (number : ℕ) → IsClaimOf (hashes_of node number shown) (option_and_then (λ v. v) (lookup (is_at (number_cmp (record { node = node; number = number }))) es)))
    (node : NodeId) where
  abbrev differing : NodeNumber × Option Claim → Bool
  differing e = is_differing e.1

  abbrev number_in : NodeNumber × Option Claim → ℕ
  number_in e = e.0.number

  abbrev found : List (NodeNumber × Option Claim)
  found = filter differing (places_of_node node es)

  -- what is found is of the node, and there
  found_is : (e : NodeNumber × Option Claim) → Contains found e → Contains es e × (e.0.node ≡ node) × (is_differing e.1 ≡ true)
  found_is e there =
      let passes = from_filter differing (places_of_node node es) e there in
      let within = from_filter (λ (p : NodeNumber × Option Claim). range_contains number_cmp (Included (first_of node)) (Included (last_of node)) p.0) es e passes.0 in
      (within.0, range_node node e.0 within.1, passes.1)

  to_conflict : (number : ℕ) → Contains (map number_in found) number → IsConflict shown node number
  to_conflict number there =
      let place = Contains-from_map number_in found number there in
      let is = found_is place.0 place.1 in
      let key : place.0.0 ≡ record { node = node; number = number } = λ i. record { node = is.1 i; number = place.2 i } in
      from_place place.0.1 is.2 (subst (λ (k : NodeNumber). Contains es (k, place.0.1)) key is.0)
    where
      from_place : (place : Option Claim) → is_differing place ≡ true → Contains es (record { node = node; number = number }, place) → IsConflict shown node number
      from_place None differs at = absurd cc
      from_place (Some claim) differs at =
          let key : NodeNumber = record { node = node; number = number } in
          let here = entry_held number_cmp number_total exact_number es up key claim at in
          let two = differ_two (hashes_of node number shown) (Some claim) (subst (λ (o : Option Claim). IsClaimOf (hashes_of node number shown) o) here (claims node number)) differs in
          record {
            one = two.one;
            other = two.other;
            shows_one = hash_shown node number shown two.one two.has_one;
            shows_other = hash_shown node number shown two.other two.has_other;
            differ = two.differ;
          }

  from_conflict : (number : ℕ) → IsConflict shown node number → Contains (map number_in found) number
  from_conflict number conflict =
      let key : NodeNumber = record { node = node; number = number } in
      let two : AreTwo (hashes_of node number shown) = record {
        one = conflict.one;
        other = conflict.other;
        has_one = shown_hash node number shown conflict.one conflict.shows_one;
        has_other = shown_hash node number shown conflict.other conflict.shows_other;
        differ = conflict.differ;
      } in
      let claim = two_differ (hashes_of node number shown) (option_and_then (λ v. v) (lookup (is_at (number_cmp key)) es)) (claims node number) two in
      let entry : NodeNumber × Option Claim = (key, Some claim.0) in
      let there : Contains es entry = held_entry number_cmp number_total exact_number es up key claim.0 claim.1 in
      let fit : number < 2 ^ 32 = All-contains (λ (s : Shown). s.number < 2 ^ 32) shown (shown_with node number conflict.one) fits conflict.shows_one in
      let within : Contains (places_of_node node es) entry = in_filter
      (λ (p : NodeNumber × Option Claim). range_contains number_cmp (Included (first_of node)) (Included (last_of node)) p.0) es entry there (node_range node number fit) in
      Contains-map number_in found entry (in_filter differing (places_of_node node es) entry within claim.2)

  pub are_conflicts : AreConflicts shown node (conflicts_in es node)
  are_conflicts = record {
    numbers = map number_in found;
    ascending = numbers_ascend node found (λ e there. (found_is e there).1)
        (keys_ascend number_cmp differing (places_of_node node es) (keys_ascend number_cmp (λ p. range_contains number_cmp (Included (first_of node)) (Included (last_of node)) p.0) es up));
    exactly = λ number. (to_conflict number, from_conflict number);
    as_many = sym (length-map found number_in ∙ length-filter differing (places_of_node node es));
  }
