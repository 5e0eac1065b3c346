use Rattle.hn_base.proofs.Names.{rules, Contains-permutation, IsPermutation-sym}
use Rattle.hn_assign.proofs.Names.{Advertised}
use Rattle.std.proofs.lemmas.List.Sorted.{IsNonDecreasingBy-from_sort_by_key}
use Rattle.hn_assign.proofs.index.merge_by_bits.Goals as goal

pub returns-clause-ascending : goal.returns-clause-ascending
returns-clause-ascending c = IsNonDecreasingBy-from_sort_by_key (λ (a : Advertised). a.prefix.bits) _ c.in_ok-sort_by_key.ensures.sorted (λ a r q k. search rules)

pub returns-clause-same : goal.returns-clause-same
returns-clause-same c x =
    let moved = c.sort_by_key.ensures.permutation in
    (λ h. Contains-permutation _ _ x (IsPermutation-sym _ _ moved) h, λ h. Contains-permutation _ _ x moved h)
