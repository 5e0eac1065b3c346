-- The orders of nodes and of their sequence numbers, what is older, and what is at a key after a value was put there.
use Rattle.hn_base.proofs.Names.{◌≡◌, ◌≢◌, ◌↔◌, ◌∙◌, ℕ, Bool, true, false, cond, Option, Some, IsTrue, refl, sym, ap, IsTotalOrder, is_eq, nat_cmp, cond-true, cond-false, false_from_ne_true}
use Rattle.hn_base.proofs.Names.{false≢true, leb-true, le-leb, on_total, then_total, nat_cmp_total, tied_itself, node_cmp, IsExact, IsOlder}
use Rattle.hn_watch.proofs.Names.{Ordering, NodeId, same_node, NodeNumber, number_cmp, is_older}
use Rattle.hn_base.proofs.AscendingLists.{exact_nat, exact_then, equal_from_is_eq}

pub node_total : IsTotalOrder node_cmp
node_total = on_total (λ (n : NodeId). n.0) nat_cmp_total

pub exact_node : IsExact node_cmp
exact_node a b h = same_node a b (exact_nat a.0 b.0 h)

pub number_total : IsTotalOrder number_cmp
number_total = then_total (on_total (λ (n : NodeNumber). n.node.0) nat_cmp_total) (on_total (λ (n : NodeNumber). n.number) nat_cmp_total)

pub exact_number : IsExact number_cmp
exact_number = exact_then (λ n. n.node.0) (λ n. n.number) nat_cmp nat_cmp exact_nat exact_nat (λ a b node number. λ i. record { node = record { 0 = node i }; number = number i })

pub older_test : (test : Bool) (a b : ℕ) → (IsTrue test ↔ IsOlder a b) → test ≡ is_older a b
older_test true a b h = sym (le-leb _ _ (h.0 refl))
older_test false a b h = sym (false_from_ne_true (is_older a b) (λ t. false≢true (h.1 (leb-true _ _ t))))

module _ {K V : Type 0} (cmp : K → K → Ordering) (key : K) (value : V) (old new : K → Option V) (put : (q : K) → new q ≡ cond (is_eq (cmp key q)) (Some value) (old q)) where
  pub put_here : IsTotalOrder cmp → new key ≡ Some value
  put_here total = put key ∙ cond-true _ _ _ (ap is_eq (tied_itself total key))

  pub put_there : IsExact cmp → (q : K) → q ≢ key → new q ≡ old q
  put_there exact q apart = put q ∙ cond-false _ _ _ (false_from_ne_true _ (λ is. apart (sym (exact key q (equal_from_is_eq (cmp key q) is)))))
