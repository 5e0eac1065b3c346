-- The list of a set has those that are reached.
use Rattle.hn_base.proofs.Names.{◌≡◌, ◌↔◌, Bool, true, IsTrue, List, Contains, refl, subst, list_any, eqb-true, eq-eqb, and_parts, All-contains}
use Rattle.hn_audit.proofs.Names.{◌&&◌, ◌==◌, All, NodeId, same_node, Member, Parts, IsReached, is_in_set, set_of, all_of, any_from, any_of, in_filter, from_filter}

and_true : (a b : Bool) → a ≡ true → b ≡ true → (a && b) ≡ true
and_true a b e f = rw (e, f) refl

-- a router is in the set if and only if it runs and is reached
pub in_set : (reach : List NodeId) (m : Member) → IsTrue (is_in_set reach m) ↔ (IsTrue m.running × Contains reach m.router.id)
in_set reach m = (
  λ h.
      let parts = and_parts m.running (list_any (λ id. id.0 == m.router.id.0) reach) h in
      let found = any_of (λ (id : NodeId). id.0 == m.router.id.0) reach parts.1 in
      (parts.0, subst (Contains reach) (same_node found.0 m.router.id (eqb-true found.0.0 m.router.id.0 found.2)) found.1),
  λ h. and_true m.running (list_any (λ id. id.0 == m.router.id.0) reach) h.0 (any_from (λ (id : NodeId). id.0 == m.router.id.0) reach m.router.id h.1 (eq-eqb m.router.id.0 m.router.id.0 refl)),
)

-- the list of the set has those that are reached
pub set_has : (w : Parts) (r m : Member) → Contains (set_of w r) m ↔ IsReached w r m
set_has w r m = (
  λ h.
      let found = from_filter (is_in_set r.router.reach) w.members m h in
      let parts = (in_set r.router.reach m).0 found.1 in
      record { runs = record { there = found.0; running = parts.0 }; reached = parts.1 },
  λ h. in_filter (is_in_set r.router.reach) w.members m h.runs.there ((in_set r.router.reach m).1 (h.runs.running, h.reached)),
)

-- a fact of all of the list is one of each that is reached
pub each_of_set : (w : Parts) (r : Member) (P : Member → Type 0) → All P (set_of w r) ↔ ((m : Member) → IsReached w r m → P m)
each_of_set w r P = (
  λ all m reached. All-contains P (set_of w r) m all ((set_has w r m).1 reached),
  λ each. all_of P (set_of w r) (λ m there. each m ((set_has w r m).0 there)),
)

-- and one of all pairs is one of each two
pub each_two : (w : Parts) (r : Member) (P : Member → Member → Type 0) → All (λ s. All (P s) (set_of w r)) (set_of w r) → (s u : Member) → IsReached w r s → IsReached w r u → P s u
each_two w r P all s u one other = (each_of_set w r (P s)).0 ((each_of_set w r (λ s. All (P s) (set_of w r))).0 all s one) u other
