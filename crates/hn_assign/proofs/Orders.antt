-- The orders of pairs and of advertised prefixes are total, and only equal ones are equal by them.
use Rattle.hn_base.proofs.Names.{◌≡◌, rules, IsTotalOrder, comparing, nat_cmp, on_total, then_total, IsExact, key_cmp, prefix_cmp}
use Rattle.hn_assign.proofs.Names.{Advertised, Pair, advertised_cmp, pair_cmp}
use Rattle.hn_base.proofs.AscendingLists.{exact_nat, exact_then}
use Rattle.hn_base.proofs.Keys.{key_total, exact_key}
use Rattle.hn_base.proofs.Prefixes.{exact_prefix}

pub advertised_total : IsTotalOrder advertised_cmp
advertised_total = then_total (on_total (λ (a : Advertised). a.key) key_total) (search (comparing, rules))

pub pair_total : IsTotalOrder pair_cmp
pair_total = search (comparing, rules)

pub same_pair : (x y : Pair) → x.delegated ≡ y.delegated → x.endpoint.0 ≡ y.endpoint.0 → x ≡ y
same_pair x y delegated endpoint = λ i. record { delegated = delegated i; endpoint = record { 0 = endpoint i } }

pub advertised_exact : IsExact advertised_cmp
advertised_exact = exact_then (λ a. a.key) (λ a. a.prefix) key_cmp prefix_cmp exact_key exact_prefix (λ a b key prefix. λ i. record { key = key i; prefix = prefix i })

pub pair_exact : IsExact pair_cmp
pair_exact = exact_then (λ p. p.delegated) (λ p. p.endpoint.0) prefix_cmp nat_cmp exact_prefix exact_nat same_pair
