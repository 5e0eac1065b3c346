-- Prefixes are known by their bits and their length: when two are one, and their order.
use Rattle.hn_base.proofs.Names.{◌≡◌, Bool, Decides, rules, ◌==◌, ◌&&◌, IsTotalOrder, comparing, nat_cmp, IsExact, PlainPrefix, prefix_cmp}
use Rattle.hn_base.proofs.AscendingLists.{exact_nat, exact_then}
use Rattle.hn_base.proofs.DecidingTests.{numbers_decide}

pub same_prefix : (p q : PlainPrefix) → p.bits ≡ q.bits → p.len ≡ q.len → p ≡ q
same_prefix p q bits len = λ i. record { bits = bits i; len = len i }

abbrev pub is_one_prefix : PlainPrefix → PlainPrefix → Bool
is_one_prefix p q = p.bits == q.bits && p.len == q.len

pub prefix_decided : (p q : PlainPrefix) → Decides (is_one_prefix p q) (p ≡ q)
prefix_decided = numbers_decide (λ p. p.bits) (λ p. p.len) same_prefix

pub prefix_total : IsTotalOrder prefix_cmp
prefix_total = search (comparing, rules)

pub exact_prefix : IsExact prefix_cmp
exact_prefix = exact_then (λ p. p.bits) (λ p. p.len) nat_cmp nat_cmp exact_nat exact_nat same_prefix
