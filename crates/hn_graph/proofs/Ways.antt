-- Paths, one node longer at their end, and what holds along them.
use Rattle.hn_base.proofs.Names.{◌≡◌, ℕ, ◌+◌, ◌-◌, ◌<◌, ◌≤◌, suc, List, [], ◌∷◌, ◌++◌, length, get_or, take, Some, refl, sym, ap, ⊎_elim, arith, slice_get, Contains, AllAdjacentBelow, cases_lt}
use Rattle.hn_base.proofs.Names.{length_push, get_or_append_left, get_or_push, take_at, All-push, All-nil, All-head, All-tail, All-same, same_Some, none-some}
use Rattle.hn_graph.proofs.Names.{ids_of, Entry, AreAdjacent, IsLeadingOn, IsReachable}
use Rattle.std.proofs.Common.{All}

-- a path to the node z itself, after the nodes in front
pub record IsWay (own : ℕ) (nodes front : List Entry) (z : Entry) : Type 0 where
  pub of_nodes : All (λ x. Contains nodes x) (front ++ z ∷ [])
  pub from_own : slice_get (ids_of (front ++ z ∷ [])) 0 ≡ Some own
  pub adjacent : AllAdjacentBelow AreAdjacent (front ++ z ∷ []) (length front + 1)
  pub recent : All IsLeadingOn front

-- some path leads to the node
abbrev pub HasWay : ℕ → List Entry → Entry → Type 0
HasWay own nodes z = (front : List Entry) × IsWay own nodes front z

pub way_to_own : (own : ℕ) (nodes : List Entry) (x : Entry) → Contains nodes x → x.id.0 ≡ own → HasWay own nodes x
way_to_own own nodes x there is = (
  [],
  record {
    of_nodes = All-push (λ y. Contains nodes y) [] x (All-nil (λ y. Contains nodes y)) there;
    from_own = ap Some is;
    adjacent = λ k d lt. absurd (omega arith);
    recent = All-nil IsLeadingOn;
  },
)

first_stays : (front : List Entry) (x z : Entry) (own : ℕ) → slice_get (ids_of (front ++ x ∷ [])) 0 ≡ Some own → slice_get (ids_of ((front ++ x ∷ []) ++ z ∷ [])) 0 ≡ Some own
first_stays [] x z own h = h
first_stays (y ∷ front) x z own h = h

adjacent_more : (front : List Entry) (x z : Entry) → AllAdjacentBelow AreAdjacent (front ++ x ∷ []) (length front + 1) → AreAdjacent x z
    → AllAdjacentBelow AreAdjacent ((front ++ x ∷ []) ++ z ∷ []) (length (front ++ x ∷ []) + 1)
adjacent_more front x z were are k d lt =
    let xs = front ++ x ∷ [] in
    let long : length xs ≡ length front + 1 = length_push front x in
    let first : get_or (xs ++ z ∷ []) k d ≡ get_or xs k d = get_or_append_left xs (z ∷ []) d k (omega arith) in
    ⊎_elim (λ (below : k + 1 < length front + 1).
    let second : get_or (xs ++ z ∷ []) (k + 1) d ≡ get_or xs (k + 1) d = get_or_append_left xs (z ∷ []) d (k + 1) (omega arith) in
    rw (first, second) (were k d below))
    (λ (rest : length front + 1 ≤ k + 1).
    let to_x : get_or xs k d ≡ x = get_or_push front x d k (omega arith) in
    let second : get_or (xs ++ z ∷ []) (k + 1) d ≡ z = get_or_push xs z d (k + 1) (omega arith) in
    rw (first, to_x, second) are)
    (cases_lt (k + 1) (length front + 1))

-- one step further
pub way_further : (own : ℕ) (nodes : List Entry) (x z : Entry) → HasWay own nodes x → IsLeadingOn x → AreAdjacent x z → Contains nodes z → HasWay own nodes z
way_further own nodes x z (front, way) recent are there = (
  front ++ x ∷ [],
  record {
    of_nodes = All-push (λ y. Contains nodes y) (front ++ x ∷ []) z way.of_nodes there;
    from_own = first_stays front x z own way.from_own;
    adjacent = adjacent_more front x z way.adjacent are;
    recent = All-push IsLeadingOn front x way.recent recent;
  },
)

last_is : (front : List Entry) (z : Entry) → slice_get (ids_of (front ++ z ∷ [])) (length front) ≡ Some z.id.0
last_is [] z = refl
last_is (x ∷ front) z = last_is front z

-- a way is a path
pub path_from_way : (own : ℕ) (nodes : List Entry) (z : Entry) → HasWay own nodes z → IsReachable own nodes z.id.0
path_from_way own nodes z (front, way) =
    let long : length (front ++ z ∷ []) ≡ length front + 1 = length_push front z in
    let before_last : length (front ++ z ∷ []) - 1 ≡ length front = omega arith in
    let kept : take (length (front ++ z ∷ []) - 1) (front ++ z ∷ []) ≡ front = take_at front (z ∷ []) (length (front ++ z ∷ []) - 1) (sym before_last) in (
      front ++ z ∷ [],
      record {
        of_nodes = way.of_nodes;
        from_own = way.from_own;
        to_y = rw before_last (last_is front z);
        adjacent = λ k d lt. way.adjacent k d (omega arith);
        recent = All-same IsLeadingOn _ front kept way.recent;
      },
    )

-- what each step keeps, and the first node has, the last node of a path has
pub along : (nodes : List Entry) (P : Entry → Type 0)
    → ((x z : Entry) → P x → IsLeadingOn x → AreAdjacent x z → Contains nodes z → P z)
    → (x : Entry) (rest : List Entry) (y : ℕ) → P x
    → All (λ z. Contains nodes z) (x ∷ rest) → AllAdjacentBelow AreAdjacent (x ∷ rest) (length (x ∷ rest)) → All IsLeadingOn (take (length rest) (x ∷ rest))
    → slice_get (ids_of (x ∷ rest)) (length rest) ≡ Some y → (z : Entry) × P z × (z.id.0 ≡ y)
along nodes P step x [] y here of_nodes adjacent recent last = (x, here, same_Some x.id.0 y last)
along nodes P step x (w ∷ rest) y here of_nodes adjacent recent last =
    let are : AreAdjacent x w = adjacent 0 x (omega arith) in
    let now : IsLeadingOn x = All-head IsLeadingOn x (take (length rest) (w ∷ rest)) recent in
    let others = All-tail (λ z. Contains nodes z) x (w ∷ rest) of_nodes in
    let there : Contains nodes w = All-head (λ z. Contains nodes z) w rest others in
    along nodes P step w rest y (step x w here now are there) others
    (λ k d lt.
    let e : suc k + 1 ≡ suc (k + 1) = omega arith in
    let f = adjacent (suc k) d (omega arith) in
    rw e at f)
    (All-tail IsLeadingOn x (take (length rest) (w ∷ rest)) recent) last

-- the same, for a path
pub along_path : (own : ℕ) (nodes : List Entry) (P : Entry → Type 0)
    → ((x : Entry) → Contains nodes x → x.id.0 ≡ own → P x)
    → ((x z : Entry) → P x → IsLeadingOn x → AreAdjacent x z → Contains nodes z → P z)
    → (y : ℕ) → IsReachable own nodes y → (z : Entry) × P z × (z.id.0 ≡ y)
along_path own nodes P start step y ([], is) = absurd (none-some own is.from_own)
along_path own nodes P start step y (x ∷ rest, is) =
    let there : Contains nodes x = All-head (λ z. Contains nodes z) x rest is.of_nodes in
    let e : length (x ∷ rest) - 1 ≡ length rest = omega arith in
    along nodes P step x rest y (start x there (same_Some x.id.0 own is.from_own)) is.of_nodes is.adjacent (rw e at is.recent) (rw e at is.to_y)
