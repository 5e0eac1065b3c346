-- The peers of an endpoint, when one is renewed or added.
use Rattle.hn_base.proofs.Names.{◌≡◌, ◌≢◌, ◌<◌, ◌∙◌, ℕ, Bool, true, false, List, [], ◌∷◌, ◌++◌, length, map, Some, inl, inr, ap, sym, get_or, arith, length-append, map-set_same, if◌then◌else◌, ◌==◌}
use Rattle.hn_base.proofs.Names.{◌&&◌, AllPairs, and_parts, cases_lt, eqb-true, nat_tests, position-Some, all_pairs_push}
use Rattle.hn_dncp.proofs.Names.{NodeId, EpId, Neighbour, is_peer, has_peer, IsOther, ArePeers}
use Rattle.std.proofs.Common.{length-set}
use Rattle.std.proofs.Math.ListN.{get_or-map}
use Rattle.std.specs.Prelude.{slice_set, position}
use Rattle.hn_base.proofs.PassingElements.{map-one, each_fails}

-- a peer's node and endpoint, and whether they are those of another
abbrev key : Neighbour → ℕ × ℕ
key peer = (peer.node.0, peer.endpoint.0)

abbrev is_key : ℕ × ℕ → ℕ × ℕ → Bool
is_key k other = other.0 == k.0 && other.1 == k.1

same_key : (k other : ℕ × ℕ) → is_key k other ≡ true → other ≡ k
same_key k other is =
    let is_both = and_parts (other.0 == k.0) (other.1 == k.1) is in
    let first : other.0 ≡ k.0 = eqb-true _ _ is_both.0 in
    let second : other.1 ≡ k.1 = eqb-true _ _ is_both.1 in
    ap (λ (n : ℕ). let l : ℕ × ℕ = (n, other.1) in l) first ∙ ap (λ (n : ℕ). let l : ℕ × ℕ = (k.0, n) in l) second

flips : (k other : ℕ × ℕ) → is_key k other ≡ is_key other k
flips k other = grind (arith, nat_tests)

-- where one peer is an endpoint, no other is
only_one : (k : ℕ × ℕ) (peers : List Neighbour) (i j : ℕ) (d : Neighbour) → AllPairs IsOther peers → i < length peers
    → is_key k (key (get_or peers i d)) ≡ true → j < length peers → j ≢ i → is_key k (key (get_or peers j d)) ≡ false
only_one k peers i j d once within here within' other =
    ap (λ l. is_key l (key (get_or peers j d))) (sym (same_key k (key (get_or peers i d)) here)) ∙ apart
  where
    apart : is_key (key (get_or peers i d)) (key (get_or peers j d)) ≡ false
    apart =
        elim (cases_lt i j) [
          | inl less ↦ once i j d less within'
          | inr past ↦ flips (key (get_or peers i d)) (key (get_or peers j d)) ∙ once j i d (omega arith) within
        ]

-- a known peer is changed
pub renewed : (node : NodeId) (endpoint : EpId) (f : Neighbour → Neighbour) (peers : List Neighbour) (i : ℕ) (x : Neighbour) → ArePeers peers
    → position (is_peer node endpoint) peers ≡ Some i → x ≡ get_or peers i x → map (λ peer. if is_peer node endpoint peer then f peer else peer) peers ≡ slice_set peers i (f x)
renewed node endpoint f peers i x are found is =
    let at = position-Some (is_peer node endpoint) peers i x found in
    rw is (map-one (is_peer node endpoint) f peers i x at.0 at.1 (λ k within other. only_one (node.0, endpoint.0) peers i k x are.once at.0 at.1 within other))

-- a peer is replaced by one with its node and endpoint
pub ArePeers-set : (peers : List Neighbour) (i : ℕ) (y d : Neighbour) → ArePeers peers → key y ≡ key (get_or peers i d) → ArePeers (slice_set peers i y)
ArePeers-set peers i y d are same = record {
  few = let fewer = are.few in omega (arith, length-set {A = Neighbour});
  once = λ j k e less within.
      ap (λ l. is_key l (key (get_or (slice_set peers i y) k e))) (kept j e)
      ∙ ap (is_key (key (get_or peers j e))) (kept k e)
      ∙ are.once j k e less (omega (arith, within, length-set {A = Neighbour}));
}
  where
    kept : (k : ℕ) (e : Neighbour) → key (get_or (slice_set peers i y) k e) ≡ key (get_or peers k e)
    kept k e =
        sym (get_or-map key (slice_set peers i y) k e) ∙ ap (λ keys. get_or keys k (key e)) (map-set_same key peers i y d same) ∙ get_or-map key peers k e

-- the peer at the place that was found is that endpoint
pub found_key : (peers : List Neighbour) (i : ℕ) (y d : Neighbour) → position (is_peer y.node y.endpoint) peers ≡ Some i → key y ≡ key (get_or peers i d)
found_key peers i y d found = sym (same_key (key y) (key (get_or peers i d)) (position-Some (is_peer y.node y.endpoint) peers i d found).1)

-- an unknown peer is added where there is room
pub ArePeers-push : (peers : List Neighbour) (y : Neighbour) → ArePeers peers → length peers < 64 → has_peer y.node y.endpoint peers ≡ false → ArePeers (peers ++ y ∷ [])
ArePeers-push peers y are room unknown = record {
  few = omega (arith, length-append peers (y ∷ []));
  once = all_pairs_push IsOther peers y are.once (λ k d within. flips (key (get_or peers k d)) (key y) ∙ each_fails (is_peer y.node y.endpoint) peers unknown k d within);
}
