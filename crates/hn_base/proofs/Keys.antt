-- Identifiers and keys are known by their fields, keys that are equal in their order are one, and an element is found by
-- the number of its endpoint identifier.
use Rattle.hn_base.proofs.Names.{◌≡◌, ℕ, true, List, Contains, Option, is_some, map, Decides, ap, subst, ◌==◌, IsTotalOrder, on, then_cmp, nat_cmp, eqb-true, eq-eqb, on_total, then_total}
use Rattle.hn_base.proofs.Names.{nat_cmp_total, key_cmp, IsExact}
use Rattle.hn_base.proofs.Names.{find}
use Rattle.hn_base.specs.declared.ids.NodeId.{NodeId}
use Rattle.hn_base.specs.declared.ids.EpId.{EpId}
use Rattle.hn_base.specs.declared.key.Key.{Key}
use Rattle.hn_base.proofs.AscendingLists.{exact_nat, exact_then, Contains-map, Contains-from_map}
use Rattle.hn_base.proofs.Elements.{found_there, passing_found}

pub same_node : (a b : NodeId) → a.0 ≡ b.0 → a ≡ b
same_node a b e = λ i. record { 0 = e i }

pub same_id : (a b : EpId) → a.0 ≡ b.0 → a ≡ b
same_id a b e = λ i. record { 0 = e i }

pub node_decided : (a b : NodeId) → Decides (a.0 == b.0) (a ≡ b)
node_decided a b = (λ e. same_node a b (eqb-true a.0 b.0 e), λ e. eq-eqb a.0 b.0 (ap (λ (n : NodeId). n.0) e))

-- ---- elements that have an endpoint identifier each

-- where one has this identifier, one is found by its number
pub id_is_found : {A : Type 0} (id_of : A → EpId) (xs : List A) (e : EpId) → Contains (map id_of xs) e → is_some (find (λ (x : A). (id_of x).0 == e.0) xs) ≡ true
id_is_found {A} id_of xs e there =
    let from = Contains-from_map id_of xs e there in
    let passes : ((id_of from.0).0 == e.0) ≡ true = eq-eqb (id_of from.0).0 e.0 (ap (λ (id : EpId). id.0) from.2) in
    let found = passing_found (λ (x : A). (id_of x).0 == e.0) xs from.0 from.1 passes in
    ap (λ (o : Option A). is_some o) found.1

-- and where one is found by its number, one has it
pub found_is_id : {A : Type 0} (id_of : A → EpId) (xs : List A) (e : EpId) → is_some (find (λ (x : A). (id_of x).0 == e.0) xs) ≡ true → Contains (map id_of xs) e
found_is_id {A} id_of xs e is =
    let found = found_there (λ (x : A). (id_of x).0 == e.0) xs is in
    let same : id_of found.0 ≡ e = same_id (id_of found.0) e (eqb-true (id_of found.0).0 e.0 found.2) in
    subst (Contains (map id_of xs)) same (Contains-map id_of xs found.0 found.1)

-- ---- keys

pub key_total : IsTotalOrder key_cmp
key_total = then_total (on_total (λ (k : Key). k.priority) nat_cmp_total) (then_total (on_total (λ (k : Key). k.node.0) nat_cmp_total) (on_total (λ (k : Key). k.endpoint.0) nat_cmp_total))

pub exact_key : IsExact key_cmp
exact_key =
    exact_then (λ k. k.priority) (λ k. (k.node.0, k.endpoint.0)) nat_cmp (then_cmp (on (λ p. p.0) nat_cmp) (on (λ p. p.1) nat_cmp)) exact_nat
    (exact_then {K = ℕ × ℕ} (λ p. p.0) (λ p. p.1) nat_cmp nat_cmp exact_nat exact_nat (λ p q first second. λ i. (first i, second i)))
    (λ k other priority rest. λ i. record { priority = priority i; node = record { 0 = (rest i).0 }; endpoint = record { 0 = (rest i).1 } })
