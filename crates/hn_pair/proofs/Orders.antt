-- The order of pairs is total, and only equal ones are equal by it.
use Rattle.hn_base.proofs.Names.{◌≡◌, rules, IsTotalOrder, comparing, nat_cmp, IsExact, prefix_cmp}
use Rattle.hn_pair.proofs.Names.{Pair, pair_cmp}
use Rattle.hn_base.proofs.AscendingLists.{exact_nat, exact_then}
use Rattle.hn_base.proofs.Prefixes.{exact_prefix}

pub pair_total : IsTotalOrder pair_cmp
pair_total = search (comparing, rules)

same_pair : (x y : Pair) → x.delegated ≡ y.delegated → x.endpoint.0 ≡ y.endpoint.0 → x ≡ y
same_pair x y delegated endpoint = λ i. record { delegated = delegated i; endpoint = record { 0 = endpoint i } }

pub pair_exact : IsExact pair_cmp
pair_exact = exact_then (λ p. p.delegated) (λ p. p.endpoint.0) prefix_cmp nat_cmp exact_prefix exact_nat same_pair
