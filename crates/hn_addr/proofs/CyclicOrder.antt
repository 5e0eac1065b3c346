-- How far numbers are from a start.
use Rattle.hn_base.proofs.Names.{◌≡◌, ℕ, ◌+◌, ◌-◌, ◌<◌, ◌≤◌, inl, inr, arith, cases_lt}
use Rattle.hn_addr.proofs.Names.{start_of, ahead}

pub ahead_from : (start k : ℕ) → 1 ≤ start → start ≤ 65535 → start ≤ k → k ≤ 65535 → ahead start k ≡ k - start
ahead_from start k low high from most = omega arith

pub ahead_before : (start k : ℕ) → start ≤ 65535 → 1 ≤ k → k < start → ahead start k ≡ k + 65535 - start
ahead_before start k high low before = omega arith

pub start_low : (word : ℕ) → 1 ≤ start_of word
start_low word = omega arith

pub start_high : (word : ℕ) → start_of word ≤ 65535
start_high word = omega arith

pub same_ahead : (word j k : ℕ) → 1 ≤ j → j ≤ 65535 → 1 ≤ k → k ≤ 65535 → ahead (start_of word) k ≤ ahead (start_of word) j → ahead (start_of word) j ≤ ahead (start_of word) k → j ≡ k
same_ahead word j k a b c d le ge = by_cases (start_of word) (start_low word) (start_high word) le ge
  where
    by_cases : (start : ℕ) → 1 ≤ start → start ≤ 65535 → ahead start k ≤ ahead start j → ahead start j ≤ ahead start k → j ≡ k
    by_cases start low high le ge =
        elim (cases_lt j start) [
          | inl j_before ↦ let at_j = ahead_before start j high a j_before in
              elim (cases_lt k start) [
                | inl k_before ↦ let at_k = ahead_before start k high c k_before in omega arith
                | inr k_from ↦ let at_k = ahead_from start k low high k_from d in omega arith
              ]
          | inr j_from ↦ let at_j = ahead_from start j low high j_from b in
              elim (cases_lt k start) [
                | inl k_before ↦ let at_k = ahead_before start k high c k_before in omega arith
                | inr k_from ↦ let at_k = ahead_from start k low high k_from d in omega arith
              ]
        ]
