-- What nodes announce that is live, one node after the other.
use Rattle.hn_base.proofs.Names.{◌≡◌, ◌⊎◌, ◌↔◌, ℕ, ◌<◌, ◌≤◌, List, take, slice_get, ◌+◌, [], ◌∷◌, ◌++◌, Contains, Option, Some, None, Bool, true, false, cond, refl, sym, ◌∙◌, ap, subst, inl, inr}
use Rattle.hn_base.proofs.Names.{⊎_elim, arith, append_assoc, ◌&&◌, nat_le, filter_map, cons_option, same_Some, none-some, nat_tests, All-push, filter_map-append, Contains-push, Contains-push_cases}
use Rattle.hn_base.proofs.Names.{Contains-append_left, Contains-append_right, Contains-append_cases, IsPrefix, append-nil, and_parts}
use Rattle.hn_deleg.proofs.Names.{nothing_in, in_filter_map, from_filter_map, HasVersion, HasDelegation, Delegation, Entry, remaining, live_of, HasPrefixes, IsLiveAt, IsLiveIn, Delegated, front_at}
use Rattle.std.specs.Prelude.{nat_lt}

-- ---- the delegations of a node

-- what is added to a list for some delegations
pub record AreAdded (old new : List Delegated) (age : ℕ) (said : List Delegation) : Type 0 where
  pub added : new ≡ old ++ filter_map (live_of age) said
  pub valid : HasPrefixes old → HasPrefixes new

pub added_none : (old : List Delegated) (age : ℕ) → AreAdded old old age []
added_none old age = record { added = sym (append-nil old); valid = λ h. h }

one_more : (age : ℕ) (said : List Delegation) (d : Delegation) → filter_map (live_of age) (said ++ d ∷ []) ≡ filter_map (live_of age) said ++ cons_option (live_of age d) []
one_more age said d = filter_map-append (live_of age) said (d ∷ [])

pub added_more : (old new : List Delegated) (age : ℕ) (said : List Delegation) (d : Delegation) (u : Delegated) → AreAdded old new age said
    → Some u ≡ live_of age d → IsPrefix u.prefix → AreAdded old (new ++ u ∷ []) age (said ++ d ∷ [])
added_more old new age said d u were is valid =
    let last : cons_option (live_of age d) [] ≡ u ∷ [] = ap (λ (o : Option Delegated). cons_option o []) (sym is) in
    record {
      added = ap (λ (l : List Delegated). l ++ u ∷ []) were.added ∙ append_assoc old (filter_map (live_of age) said) (u ∷ [])
          ∙ ap (λ (l : List Delegated). old ++ l) (ap (λ (l : List Delegated). filter_map (live_of age) said ++ l) (sym last) ∙ sym (one_more age said d));
      valid = λ h. All-push (λ (x : Delegated). IsPrefix x.prefix) new u (were.valid h) valid;
    }

pub added_same : (old new : List Delegated) (age : ℕ) (said : List Delegation) (d : Delegation) → AreAdded old new age said → None ≡ live_of age d → AreAdded old new age (said ++ d ∷ [])
added_same old new age said d were is =
    let last : cons_option (live_of age d) [] ≡ [] = ap (λ (o : Option Delegated). cons_option o []) (sym is) in
    record {
      added = were.added ∙ sym (append-nil (old ++ filter_map (live_of age) said)) ∙ append_assoc old (filter_map (live_of age) said) []
          ∙ ap (λ (l : List Delegated). old ++ l) (ap (λ (l : List Delegated). filter_map (live_of age) said ++ l) (sym last) ∙ sym (one_more age said d));
      valid = were.valid;
    }

pub added_more_at : (old new : List Delegated) (age : ℕ) (said : List Delegation) (n : ℕ) (d : Delegation) (u : Delegated)
    → AreAdded old new age (take n said) → slice_get said n ≡ Some d → Some u ≡ live_of age d → IsPrefix u.prefix
    → AreAdded old (new ++ u ∷ []) age (take (n + 1) said)
added_more_at old new age said n d u were at is valid = subst (AreAdded old (new ++ u ∷ []) age) (sym (front_at said n d at)) (added_more old new age (take n said) d u were is valid)

pub added_same_at : (old new : List Delegated) (age : ℕ) (said : List Delegation) (n : ℕ) (d : Delegation) → AreAdded old new age (take n said)
    → slice_get said n ≡ Some d → None ≡ live_of age d → AreAdded old new age (take (n + 1) said)
added_same_at old new age said n d were at is = subst (AreAdded old new age) (sym (front_at said n d at)) (added_same old new age (take n said) d were is)

-- ---- a node

pub live_added : (node : Entry) (old new : List Delegated) (said : List Delegation) → HasVersion node.body → ((d : Delegation) → Contains said d ↔ HasDelegation node.body d)
    → new ≡ old ++ filter_map (live_of node.age) said → (u : Delegated) → Contains new u ↔ (Contains old u ⊎ IsLiveAt node u)
live_added node old new said version are is u =
    let more = filter_map (live_of node.age) said in (
      λ h. ⊎_elim (λ (before : Contains old u). inl before)
          (λ (added : Contains more u).
          let found = from_filter_map (live_of node.age) said u added in
          inr (record { version = version; delegation = found.0; said = (are found.0).0 found.1; remains = found.2 }))
          (Contains-append_cases old more u (subst (λ (l : List Delegated). Contains l u) is h)),
      λ h. subst (λ (l : List Delegated). Contains l u) (sym is) (⊎_elim (λ (before : Contains old u). Contains-append_left old more u before)
          (λ (at : IsLiveAt node u). Contains-append_right old more u (in_filter_map (live_of node.age) said at.delegation u ((are at.delegation).1 at.said) at.remains))
          h),
    )

pub live_same : (node : Entry) (list : List Delegated) → ¬ (HasVersion node.body) → (u : Delegated) → Contains list u ↔ (Contains list u ⊎ IsLiveAt node u)
live_same node list none u = (λ h. inl h, λ h. ⊎_elim (λ (before : Contains list u). before) (λ (at : IsLiveAt node u). absurd (none at.version)) h)

-- ---- nodes

pub live_none : (u : Delegated) → Contains {X = Delegated} [] u ↔ IsLiveIn [] u
live_none u = (λ h. absurd (nothing_in u h), λ h. absurd (nothing_in h.node h.among))

pub live_more : (nodes : List Entry) (node : Entry) (old new : List Delegated) → ((u : Delegated) → Contains old u ↔ IsLiveIn nodes u)
    → ((u : Delegated) → Contains new u ↔ (Contains old u ⊎ IsLiveAt node u))
    → (u : Delegated) → Contains new u ↔ IsLiveIn (nodes ++ node ∷ []) u
live_more nodes node old new were are u = (
  λ h. ⊎_elim (λ (before : Contains old u). let l = (were u).0 before in record { node = l.node; among = Contains-append_left nodes (node ∷ []) l.node l.among; at = l.at })
      (λ (at : IsLiveAt node u). record { node = node; among = Contains-push nodes node; at = at })
      ((are u).0 h),
  λ h. (are u).1 (⊎_elim (λ (before : Contains nodes h.node). inl ((were u).1 (record { node = h.node; among = before; at = h.at })))
      (λ (is : node ≡ h.node). inr (subst (λ (n : Entry). IsLiveAt n u) (sym is) h.at))
      (Contains-push_cases nodes node h.node h.among)),
)

pub live_more_at : (nodes : List Entry) (n : ℕ) (node : Entry) (old new : List Delegated) → slice_get nodes n ≡ Some node → ((u : Delegated) → Contains old u ↔ IsLiveIn (take n nodes) u)
    → ((u : Delegated) → Contains new u ↔ (Contains old u ⊎ IsLiveAt node u)) → (u : Delegated) → Contains new u ↔ IsLiveIn (take (n + 1) nodes) u
live_more_at nodes n node old new at were are u = subst (λ (l : List Entry). Contains new u ↔ IsLiveIn l u) (sym (front_at nodes n node at)) (live_more (take n nodes) node old new were are u)

-- ---- what remains

of_test : {Y : Type 0} (b : Bool) (x y : Y) → cond b (Some x) None ≡ Some y → (b ≡ true) × (x ≡ y)
of_test true x y h = (refl, same_Some x y h)
of_test false x y h = absurd (none-some y h)

-- what a delegation that is live has left
pub record Leaves (age : ℕ) (d : Delegation) (u : Delegated) : Type 0 where
  pub short : d.prefix.len ≤ 64
  pub live : 0 < remaining age d.valid
  pub prefix_is : u.prefix ≡ d.prefix
  pub valid_is : u.valid ≡ remaining age d.valid
  pub preferred_is : u.preferred ≡ remaining age d.preferred

le_from_test : (m n : ℕ) → nat_le m n ≡ true → m ≤ n
le_from_test m n h = grind (arith, nat_tests)

lt_from_test : (m n : ℕ) → nat_lt m n ≡ true → m < n
lt_from_test m n h = grind (arith, nat_tests)

test_from_le : (m n : ℕ) → m ≤ n → nat_le m n ≡ true
test_from_le m n h = grind (arith, nat_tests)

test_from_lt : (m n : ℕ) → m < n → nat_lt m n ≡ true
test_from_lt m n h = grind (arith, nat_tests)

abbrev pub left_of : ℕ → Delegation → Delegated
left_of age d = record { prefix = d.prefix; valid = remaining age d.valid; preferred = remaining age d.preferred }

pub leaves : (age : ℕ) (d : Delegation) (u : Delegated) → live_of age d ≡ Some u → Leaves age d u
leaves age d u h =
    let split = of_test (nat_le d.prefix.len 64 && nat_lt 0 (remaining age d.valid)) (left_of age d) u h in
    let tests = and_parts (nat_le d.prefix.len 64) (nat_lt 0 (remaining age d.valid)) split.0 in
    record {
      short = le_from_test d.prefix.len 64 tests.0;
      live = lt_from_test 0 (remaining age d.valid) tests.1;
      prefix_is = sym (ap (λ (x : Delegated). x.prefix) split.1);
      valid_is = sym (ap (λ (x : Delegated). x.valid) split.1);
      preferred_is = sym (ap (λ (x : Delegated). x.preferred) split.1);
    }

pub left : (age : ℕ) (d : Delegation) → d.prefix.len ≤ 64 → 0 < remaining age d.valid → live_of age d ≡ Some (left_of age d)
left age d short live =
    let one = test_from_le d.prefix.len 64 short in
    let two = test_from_lt 0 (remaining age d.valid) live in
    ap (λ (b : Bool). cond (b && nat_lt 0 (remaining age d.valid)) (Some (left_of age d)) None) one ∙ ap (λ (b : Bool). cond b (Some (left_of age d)) None) two
