-- The endpoints of a router, when one is put in place, added or taken out.
use Rattle.hn_base.proofs.Names.{◌≡◌, ◌≢◌, ◌<◌, ◌≤◌, ◌+◌, ◌-◌, ◌^◌, ◌∙◌, ℕ, zero, suc, Bool, true, false, List, [], ◌∷◌, length, map, filter, take, drop, set, get_or, refl, sym, subst, arith, Some}
use Rattle.hn_base.proofs.Names.{inl, inr, ap, insert, ◌==◌, option_map_or, nat_cmp, IsPartitionPoint, IsPartitionedBy, IsNonDecreasingBy, map-set_same, cases_lt, lt-ltb, le-ltb, ltb-true, ltb-false}
use Rattle.hn_base.proofs.Names.{ne_eqb, eqb-true, eqb-false, get_or-map, length-map, map-append, take-map, length-insert, All-append, All-cons, All-filter, All-nil, All-set, All-take, position-Some}
use Rattle.hn_base.proofs.Names.{IsPartitionedBy-ltb, length-filter, count_by-le-length, below_from_sorted}
use Rattle.hn_own.proofs.Names.{nat_lt, EpId, hashed, Port, filter-front, filter-back, number, ArePorts, is_port, is_attached, heard_at}
use Rattle.std.proofs.Common.{length-set}
use Rattle.std.specs.Prelude.{position, Option, None}
use Rattle.std.specs.List.Sorted.{IsStrictlySortedBy}
use Rattle.std.proofs.lemmas.List.{drop-map}
use Rattle.std.proofs.lemmas.List.Edits.{get_or-insert_below, get_or-insert_at, get_or-insert_above}
use Rattle.std.proofs.lemmas.List.Elements.{All-drop}
use Rattle.std.proofs.lemmas.Map.Keys.{sorted_from_strictly_increasing}
use Rattle.hn_base.specs.declared.ids.NodeId.{NodeId}
use Rattle.hn_base.proofs.AscendingNumbers.{ascending-filter}
use Rattle.hn_base.proofs.PassingElements.{map-one, none_passes}
use Rattle.hn_base.proofs.FrontOfList.{find-at, find-none}
use Rattle.hn_own.specs.Ports.{port_at, put_port, attached}

-- an endpoint has a number of 4 bytes other than 0
abbrev pub IsNumber : Port → Type 0
IsNumber p = (0 < p.id.0) × (p.id.0 < 2 ^ 32)

abbrev numbers : List Port → List ℕ
numbers ports = map number ports

-- ---- one more number at its place

inserted : (ks : List ℕ) (i m k : ℕ) → IsStrictlySortedBy nat_cmp ks → i ≤ length ks → ((j : ℕ) → j < i → get_or ks j 0 < m)
    → ((j : ℕ) → i ≤ j → j < length ks → m < get_or ks j 0) → k + 1 < length (insert ks i m) → get_or (insert ks i m) k 0 < get_or (insert ks i m) (k + 1) 0
inserted ks i m k up within before after less =
    let long = length-insert ks i m within in
    elim (cases_lt (k + 1) i) [
      | inl below ↦
          rw (get_or-insert_below ks i m 0 k (omega arith) within, get_or-insert_below ks i m 0 (k + 1) below within) (below_from_sorted ks k (k + 1) 0 up (omega arith) (omega arith))
      | inr from ↦ elim (cases_lt k i) [
        | inl last ↦
            let here : k + 1 ≡ i = omega arith in
            rw (here, get_or-insert_below ks i m 0 k last within, get_or-insert_at ks i m 0 within) (before k last)
        | inr past ↦ at k past less
      ]
    ]
  where
    at : (k : ℕ) → i ≤ k → k + 1 < length (insert ks i m) → get_or (insert ks i m) k 0 < get_or (insert ks i m) (k + 1) 0
    at k past less =
        let long = length-insert ks i m within in
        elim (cases_lt i k) [
          | inl above ↦
              let one : (k - 1) + 1 ≡ k = omega arith in
              rw (get_or-insert_above ks i m 0 k past within)
              (subst (λ (n : ℕ). get_or (insert ks i m) n 0 < get_or ks k 0) one
              (rw (get_or-insert_above ks i m 0 (k - 1) (omega arith) within) (below_from_sorted ks (k - 1) k 0 up (omega arith) (omega arith))))
          | inr here ↦
              let same : k ≡ i = omega arith in
              rw (get_or-insert_above ks i m 0 k past within)
              (subst (λ (n : ℕ). get_or (insert ks i m) n 0 < get_or ks k 0) (sym same) (rw (get_or-insert_at ks i m 0 within) (after k past (omega arith))))
        ]

sorted-insert : (ks : List ℕ) (i m : ℕ) → IsStrictlySortedBy nat_cmp ks → i ≤ length ks → ((j : ℕ) → j < i → get_or ks j 0 < m)
    → ((j : ℕ) → i ≤ j → j < length ks → m < get_or ks j 0) → IsStrictlySortedBy nat_cmp (insert ks i m)
sorted-insert ks i m up within before after =
    sorted_from_strictly_increasing (insert ks i m) (λ k less. inserted ks i m k up within before after less)

-- ---- the numbers of endpoints rise, and so each is there once

rises : (ports : List Port) (i j : ℕ) (d : Port) → ArePorts ports → i < j → j < length ports → (get_or ports i d).id.0 < (get_or ports j d).id.0
rises ports i j d are less within =
    let long = length-map ports number in
    let below = below_from_sorted (numbers ports) i j d.id.0 are.ascending less (omega arith) in
    rw (← get_or-map number ports i d d.id.0 (omega arith), ← get_or-map number ports j d d.id.0 within) below

not_falling : (ports : List Port) → ArePorts ports → IsNonDecreasingBy number ports
not_falling ports are i j d le within =
    elim (cases_lt i j) [
      | inl less ↦ let up = rises ports i j d are less within in omega arith
      | inr ge ↦ let same : i ≡ j = omega arith in rw same (omega arith)
    ]

-- the lower numbers come first
pub ArePorts-partitioned : (at : EpId) (ports : List Port) → ArePorts ports → IsPartitionedBy (λ p. nat_lt p.id.0 at.0) ports
ArePorts-partitioned at ports are = IsPartitionedBy-ltb number ports at.0 (not_falling ports are)

apart : (ports : List Port) (i j : ℕ) (d : Port) → ArePorts ports → i < length ports → j < length ports → j ≢ i → (get_or ports j d).id.0 ≡ (get_or ports i d).id.0 → ⊥
apart ports i j d are within within' other same =
    elim (cases_lt i j) [
      | inl less ↦ let up = rises ports i j d are less within' in omega arith
      | inr past ↦ let down = rises ports j i d are (omega arith) within in omega arith
    ]

-- ---- one in place of another

pub put_port-set : (ports : List Port) (i : ℕ) (port : Port) → ArePorts ports → position (is_port port.id) ports ≡ Some i → put_port port ports ≡ set ports i port
put_port-set ports i port are found =
    let at = position-Some (is_port port.id) ports i port found in
    let here : (get_or ports i port).id.0 ≡ port.id.0 = eqb-true _ _ at.1 in
    map-one (is_port port.id) (λ (_ : Port). port) ports i port at.0 at.1
    (λ k within other. ne_eqb (get_or ports k port).id.0 port.id.0 (λ same. apart ports i k port are at.0 within other (same ∙ sym here)))

pub ArePorts-set : (ports : List Port) (i : ℕ) (port : Port) → ArePorts ports → position (is_port port.id) ports ≡ Some i → ArePorts (set ports i port)
ArePorts-set ports i port are found =
    let at = position-Some (is_port port.id) ports i port found in
    let here : (get_or ports i port).id.0 ≡ port.id.0 = eqb-true _ _ at.1 in
    record {
      ascending = rw (map-set_same number ports i port port (sym here)) are.ascending;
      few = let few = are.few in omega (arith, length-set {A = Port});
      numbered = All-set IsNumber ports i port (rw (← here) (are.numbered i port at.0)) are.numbered;
    }

-- ---- one hears the local network state hash

-- so it is of the one at its place
abbrev heard : NodeId × EpId → ℕ → List Port → ℕ → Port → Port
heard sender now ports i d = hashed true (Some sender) now (get_or ports i d)

same_number : (at : EpId) (ports : List Port) (i : ℕ) (d : Port) → position (is_port at) ports ≡ Some i → (get_or ports i d).id.0 ≡ at.0
same_number at ports i d found = eqb-true _ _ (position-Some (is_port at) ports i d found).1

heard_found : (at : EpId) (sender : NodeId × EpId) (now : ℕ) (ports : List Port) (i : ℕ) (d : Port) → position (is_port at) ports ≡ Some i
    → position (is_port (heard sender now ports i d).id) ports ≡ Some i
heard_found at sender now ports i d found = ap (λ (n : ℕ). position (λ p. p.id.0 == n) ports) (same_number at ports i d found) ∙ found

pub heard_at-set : (at : EpId) (sender : NodeId × EpId) (now : ℕ) (ports : List Port) (i : ℕ) (d : Port) → ArePorts ports → position (is_port at) ports ≡ Some i
    → heard_at at sender now ports ≡ set ports i (hashed true (Some sender) now (get_or ports i d))
heard_at-set at sender now ports i d are found =
    let place = position-Some (is_port at) ports i d found in
    let here : port_at at ports ≡ Some (get_or ports i d) = find-at (is_port at) ports i d place.0 (λ k e less. (position-Some (is_port at) ports i e found).2 k less) place.1 in
    ap (λ (o : Option Port). option_map_or (λ port. put_port (hashed true (Some sender) now port) ports) o ports) here
    ∙ put_port-set ports i (heard sender now ports i d) are (heard_found at sender now ports i d found)

pub heard_at-none : (at : EpId) (sender : NodeId × EpId) (now : ℕ) (ports : List Port) → position (is_port at) ports ≡ None → heard_at at sender now ports ≡ ports
heard_at-none at sender now ports none =
    ap (λ (o : Option Port). option_map_or (λ port. put_port (hashed true (Some sender) now port) ports) o ports)
    (find-none (is_port at) ports (none_passes (is_port at) ports none))

pub ArePorts-heard : (at : EpId) (sender : NodeId × EpId) (now : ℕ) (ports : List Port) (i : ℕ) (d : Port) → ArePorts ports → position (is_port at) ports ≡ Some i
    → ArePorts (set ports i (hashed true (Some sender) now (get_or ports i d)))
ArePorts-heard at sender now ports i d are found = ArePorts-set ports i (heard sender now ports i d) are (heard_found at sender now ports i d found)

-- ---- one more

-- what is not attached has another number than each that is
unattached : (at : EpId) (ports : List Port) → is_attached at ports ≡ false → (k : ℕ) (d : Port) → k < length ports → is_port at (get_or ports k d) ≡ false
unattached at [] none k d within = absurd (omega arith)
unattached at (p ∷ ports) none k d within = by_test (is_port at p) refl (λ rest. unattached at ports rest) k within
  where
    by_test : (b : Bool) → is_port at p ≡ b → (is_attached at ports ≡ false → (k : ℕ) (d : Port) → k < length ports → is_port at (get_or ports k d) ≡ false)
        → (k : ℕ) → k < length (p ∷ ports) → is_port at (get_or (p ∷ ports) k d) ≡ false
    by_test true is others k within = let some : is_attached at (p ∷ ports) ≡ true = rw is refl in absurd cc
    by_test false is others zero within = is
    by_test false is others (suc k) within = let rest : is_attached at ports ≡ false = rw is at none in others rest k d (omega arith)

-- the place at which the lower numbers end
pub record IsPlaceFor (at : EpId) (ports : List Port) (i : ℕ) : Type 0 where
  pub within : i ≤ length ports
  pub before : (k : ℕ) (d : Port) → k < i → (get_or ports k d).id.0 < at.0
  pub after : (k : ℕ) (d : Port) → i ≤ k → k < length ports → at.0 < (get_or ports k d).id.0

pub place_for : (at : EpId) (ports : List Port) (i : ℕ) → is_attached at ports ≡ false → i ≤ length ports
    → IsPartitionPoint (λ (p : Port). nat_lt p.id.0 at.0 ≡ true) (λ (p : Port). nat_lt p.id.0 at.0 ≡ false) ports i → IsPlaceFor at ports i
place_for at ports i none within parts = record {
  within = within;
  before = λ k d less. ltb-true _ _ (parts.0 k d (omega arith) less);
  after = λ k d past less.
      let le = ltb-false _ _ (parts.1 k d past less) in
      let other = eqb-false _ _ (unattached at ports none k d less) in
      omega arith;
}

pub attached-insert : (port : Port) (ports : List Port) (i : ℕ) → IsPlaceFor port.id ports i → insert ports i port ≡ attached port ports
attached-insert port ports i place =
    let front : take i ports ≡ filter (λ p. nat_lt p.id.0 port.id.0) ports =
    sym (filter-front (λ (p : Port). nat_lt p.id.0 port.id.0) ports i
    (λ k d less in'. lt-ltb (get_or ports k d).id.0 port.id.0 (place.before k d less))
    (λ k d past less. let more = place.after k d past less in le-ltb (get_or ports k d).id.0 port.id.0 (omega arith)))
    in
    let back : drop i ports ≡ filter (λ p. nat_lt port.id.0 p.id.0) ports =
    sym (filter-back (λ (p : Port). nat_lt port.id.0 p.id.0) ports i
    (λ k d less in'. let lower = place.before k d less in le-ltb port.id.0 (get_or ports k d).id.0 (omega arith))
    (λ k d past less. lt-ltb port.id.0 (get_or ports k d).id.0 (place.after k d past less)))
    in
    cc

numbers-insert : (ports : List Port) (i : ℕ) (port : Port) → numbers (insert ports i port) ≡ insert (numbers ports) i port.id.0
numbers-insert ports i port =
    map-append number (take i ports) (port ∷ drop i ports) ∙ (let front = take-map number i ports in let back = drop-map number i ports in cc)

pub ArePorts-insert : (ports : List Port) (i : ℕ) (port : Port) → ArePorts ports → IsPlaceFor port.id ports i → IsNumber port → length ports < 16 → ArePorts (insert ports i port)
ArePorts-insert ports i port are place one room =
    let long = length-map ports number in
    let up = sorted-insert (numbers ports) i port.id.0 are.ascending (rw long place.within)
    (λ j less. let within = place.within in rw (get_or-map number ports j port 0 (omega arith)) (place.before j port less))
    (λ j past less. rw (get_or-map number ports j port 0 (omega arith)) (place.after j port past (omega arith)))
    in
    record {
      ascending = rw (numbers-insert ports i port) up;
      few = omega (arith, length-insert ports i port place.within);
      numbered = All-append IsNumber (take i ports) (port ∷ drop i ports) (All-take IsNumber i ports are.numbered)
          (All-cons IsNumber port (drop i ports) one (All-drop IsNumber i ports are.numbered));
    }

-- ---- none, and some

pub ArePorts-none : ArePorts []
unfolding IsStrictlySortedBy
ArePorts-none = record { ascending = tt; few = omega arith; numbered = All-nil IsNumber }

pub ArePorts-filter : (q : Port → Bool) (ports : List Port) → ArePorts ports → ArePorts (filter q ports)
ArePorts-filter q ports are = record {
  ascending = ascending-filter number q ports are.ascending;
  few = let few = are.few in omega (arith, length-filter q ports, count_by-le-length q ports);
  numbered = All-filter q IsNumber ports are.numbered;
}
