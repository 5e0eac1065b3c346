-- Where a router says the same of its peers after expiry, none of them had expired.
use Rattle.hn_base.proofs.Names.{◌≡◌, ◌≢◌, ◌∙◌, ◌≤◌, Bool, true, false, cond, List, [], ◌∷◌, ◌++◌, map, filter, length, Some, inl, inr, refl, sym, ap, subst, arith, All, find, ◌==◌, nat_cmp, eqb-true}
use Rattle.hn_base.proofs.Names.{ne_eqb, append-nil, length-map, All-nil, All-cons, filter-append}
use Rattle.hn_rules.proofs.Names.{Contains, Contains-head, Contains-tail, Contains-map, all_of, EpId, PeerLink, Neighbour, Port, link_at, links_at, links_of, number, ArePorts, is_port, port_at}
use Rattle.hn_rules.proofs.Names.{endpoints_of, Running, State, AreHeard, IsExpired, Without, IsPortExpiry, IsExpiry}
use Rattle.std.specs.List.Sorted.{IsStrictlySortedBy}
use Rattle.hn_rules.proofs.PortsInTurn.{Puts, apart, are_ports, found_itself, none_above, ports_alone, ran_at, with_ports}

-- ---- a list without some of its elements

module _ {A : Type 0} (P : A → Type 0) where
  fewer : (xs ys : List A) → Without P xs ys → length ys ≤ length xs
  fewer [] ys is = subst (λ (l : List A). length l ≤ 0) (sym is) (omega arith)
  fewer (x ∷ xs) ys (inl (_, more)) = let less = fewer xs ys more in omega (arith, less)
  fewer (x ∷ xs) ys (inr (rest, _, more, is)) = let less = fewer xs rest more in subst (λ (l : List A). length l ≤ length (x ∷ xs)) (sym is) (omega (arith, less))

  -- as many are left: none was taken out
  as_many : (xs ys : List A) → Without P xs ys → length ys ≡ length xs → All (λ x. ¬ (P x)) xs × (ys ≡ xs)
  as_many [] ys is many = (All-nil (λ x. ¬ (P x)), is)
  as_many (x ∷ xs) ys (inl (_, more)) many = absurd (let less = fewer xs ys more in omega (arith, less, many))
  as_many (x ∷ xs) ys (inr (rest, stays, more, is)) many =
      let same : length rest ≡ length xs = (let l = ap length is in omega (arith, l, many)) in
      let tail = as_many xs rest more same in
      (All-cons (λ y. ¬ (P y)) x xs stays tail.0, is ∙ ap (λ (l : List A). x ∷ l) tail.1)

-- ---- what is said of the peers of one endpoint

abbrev is_of : EpId → PeerLink → Bool
is_of at link = link.endpoint.0 == at.0

links_there : (at : EpId) (p : Port) (peers : List Neighbour) (b : Bool) → is_port at p ≡ b → filter (is_of at) (map (link_at p) peers) ≡ cond b (map (link_at p) peers) []
links_there at p [] true is = refl
links_there at p [] false is = refl
links_there at p (x ∷ peers) true is = let more = links_there at p peers true is in rw (is, more) refl
links_there at p (x ∷ peers) false is = rw is (links_there at p peers false is)

none_there : (at : EpId) (ports : List Port) → ((q : Port) → Contains ports q → q.id.0 ≢ at.0) → filter (is_of at) (links_of ports) ≡ []
none_there at [] none = refl
none_there at (p ∷ ports) none =
    filter-append (is_of at) (links_at p) (links_of ports)
    ∙ ap (λ (links : List PeerLink). links ++ filter (is_of at) (links_of ports)) (links_there at p p.peers false (ne_eqb p.id.0 at.0 (none p (Contains-head p ports))))
    ∙ none_there at ports (λ q there. none q (Contains-tail p ports q there))

links_found : (at : EpId) (ports : List Port) (port : Port) → IsStrictlySortedBy nat_cmp (map number ports) → port_at at ports ≡ Some port
    → filter (is_of at) (links_of ports) ≡ links_at port
unfolding IsStrictlySortedBy
links_found at [] port up found = absurd cc
links_found at (p ∷ ports) port up found = filter-append (is_of at) (links_at p) (links_of ports) ∙ by_test (is_port at p) refl found (links_found at ports port up.1)
  where
    by_test : (b : Bool) → is_port at p ≡ b → cond b (Some p) (find (is_port at) ports) ≡ Some port
        → (port_at at ports ≡ Some port → filter (is_of at) (links_of ports) ≡ links_at port)
        → filter (is_of at) (links_at p) ++ filter (is_of at) (links_of ports) ≡ links_at port
    by_test true is found more =
        let same : p ≡ port = cc in
        let none = none_there at ports (λ q there one. none_above p ports up q there (one ∙ sym (eqb-true p.id.0 at.0 is))) in
        ap (λ (links : List PeerLink). links ++ filter (is_of at) (links_of ports)) (links_there at p p.peers true is)
        ∙ ap (λ (links : List PeerLink). links_at p ++ links) none ∙ append-nil (links_at p) ∙ ap links_at same
    by_test false is found more = ap (λ (links : List PeerLink). links ++ filter (is_of at) (links_of ports)) (links_there at p p.peers false is) ∙ more found

-- ---- expiry

abbrev expiry_puts : (port : Port) (x y : Running) → IsPortExpiry port x y → Puts port x y
expiry_puts port x y is = record { next = record port { peers = is.peers }; same = refl; gives = ap (λ (r : Running). r.state) is.gives }

-- expiry changes endpoints alone
pub expiry_ports : (r a : Running) → IsExpiry r a → a.state ≡ (with_ports r a.state.ports).state
expiry_ports r a expiry = ports_alone IsPortExpiry expiry_puts (endpoints_of r.state.ports) r a expiry

pub none_expired : (r a : Running) → ArePorts r.state.ports → IsExpiry r a → links_of a.state.ports ≡ links_of r.state.ports → AreHeard r.state.moment r.state
none_expired r a are expiry same = all_of (λ (port : Port). All (λ (peer : Neighbour). ¬ (IsExpired r.state peer)) port.peers) r.state.ports here
  where
    after : ArePorts a.state.ports
    after = are_ports IsPortExpiry expiry_puts (endpoints_of r.state.ports) r a expiry are

    here : (port : Port) → Contains r.state.ports port → All (λ (peer : Neighbour). ¬ (IsExpired r.state peer)) port.peers
    here port there =
        let found = found_itself r.state.ports port are there in
        let ran = ran_at IsPortExpiry expiry_puts (endpoints_of r.state.ports) (apart r.state.ports are.ascending) port
        (Contains-map (λ (p : Port). p.id) r.state.ports port there) r a found expiry in
        let left = ran.holds.peers in
        let said = sym (links_found port.id a.state.ports (record port { peers = left }) after.ascending ran.left) ∙ ap (filter (is_of port.id)) same
        ∙ links_found port.id r.state.ports port are.ascending found in
        let many : length left ≡ length port.peers = sym (length-map left (link_at port)) ∙ ap length said ∙ length-map port.peers (link_at port) in
        subst (λ (s : State). All (λ (peer : Neighbour). ¬ (IsExpired s peer)) port.peers) ran.alone
        (as_many (IsExpired ran.before.state) port.peers left ran.holds.without many).0
