-- A router's posts ascend, and are few. What it holds for other posts than that of a private link is as before.
use Rattle.hn_base.proofs.Names.{◌≡◌, ◌≤◌, ◌<◌, ◌^◌, ℕ, Bool, not, List, [], ◌∷◌, length, map, Option, None, Some, refl, sym, arith, All, ◌==◌, Less, AllByRecursion, nat_cmp_is, on, nat_cmp}
use Rattle.hn_base.proofs.Names.{length-map, All-filter, All-head, All-tail, IsStrictlySortedBy-filter, length-filter, count_by-le-length}
use Rattle.hn_own.proofs.Names.{EpId, Assigned, Held, HasOwnPriority, Port, without_private, number, ArePorts}
use Rattle.std.specs.List.Sorted.{IsStrictlySortedBy}
use Rattle.hn_base.proofs.AscendingLists.{sorted_parts}
use Rattle.hn_pair.specs.declared.backoff.Backoff.{Backoff}
use Rattle.hn_pair.specs.Facts.{IsInDelegated}
use Rattle.hn_pair.specs.Pair.{pair_cmp, assigned_pair, backoff_pair}
use Rattle.hn_own.specs.HeldPairs.{AreHeldPairs}
use Rattle.hn_own.specs.Ports.{endpoints_of}
use Rattle.hn_own.specs.Posts.{posts_of}

-- the numbers of the endpoints are those of the list
numbers_of : (ports : List Port) → map (λ (e : EpId). e.0) (endpoints_of ports) ≡ map number ports
numbers_of [] = refl
numbers_of (p ∷ ports) = let rest = numbers_of ports in rw rest refl

endpoints_ascend : (ports : List Port) → ArePorts ports → IsStrictlySortedBy (on (λ (e : EpId). e.0) nat_cmp) (endpoints_of ports)
endpoints_ascend ports are = (sorted_parts (λ (e : EpId). e.0) nat_cmp (endpoints_of ports)).1 (rw (numbers_of ports) are.ascending)

above_private : (ports : List Port) → All (λ p. (0 < p.id.0) × (p.id.0 < 2 ^ 32)) ports → AllByRecursion (λ (e : EpId). nat_cmp 0 e.0 ≡ Less) (endpoints_of ports)
above_private [] each = tt
above_private (p ∷ ports) each =
    let here = All-head (λ (p : Port). (0 < p.id.0) × (p.id.0 < 2 ^ 32)) p ports each in
    (sym (nat_cmp_is 0 p.id.0 Less here.0), above_private ports (All-tail (λ (p : Port). (0 < p.id.0) × (p.id.0 < 2 ^ 32)) p ports each))

pub ascend : (private : Option ℕ) (ports : List Port) → ArePorts ports → IsStrictlySortedBy (on (λ (e : EpId). e.0) nat_cmp) (posts_of private ports)
unfolding IsStrictlySortedBy
ascend None ports are = endpoints_ascend ports are
ascend (Some length) ports are = (above_private ports are.numbered, endpoints_ascend ports are)

pub few : (private : Option ℕ) (ports : List Port) → ArePorts ports → length (posts_of private ports) ≤ 17
few None ports are = let few = are.few in omega (arith, length-map ports (λ (p : Port). p.id))
few (Some n) ports are = let few = are.few in omega (arith, length-map ports (λ (p : Port). p.id))

-- ---- what is held

pub stays : (held : Held) → AreHeldPairs held → AreHeldPairs (without_private held)
stays held are =
    let kept : Assigned → Bool = λ c. not (c.endpoint.0 == 0) in
    let waits : Backoff → Bool = λ b. not (b.endpoint.0 == 0) in
    record {
      assigned = IsStrictlySortedBy-filter (on assigned_pair pair_cmp) kept held.assigned are.assigned;
      backoffs = IsStrictlySortedBy-filter (on backoff_pair pair_cmp) waits held.backoffs are.backoffs;
      few = let few = are.few in omega (arith, length-filter kept held.assigned, count_by-le-length kept held.assigned);
      inside = All-filter kept IsInDelegated held.assigned are.inside;
      priority = All-filter kept HasOwnPriority held.assigned are.priority;
    }
