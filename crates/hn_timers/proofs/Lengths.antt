-- The length after a length is one.
use Rattle.hn_base.proofs.Names.{◌≡◌, ℕ, suc, ◌*◌, ◌^◌, ◌≤◌, inl, inr, subst, arith, pow-suc, cases_lt}
use Rattle.std.proofs.Math.Pow.{pow_mono}
use Rattle.hn_timers.specs.Length.{IsLength, next_length}

pub IsLength-next_length : (n : ℕ) → IsLength n → IsLength (next_length n)
IsLength-next_length n length =
    elim (cases_lt length.0 7) [
      | inl below ↦
          let bounded : 2 ^ suc length.0 ≤ 2 ^ 7 = pow_mono below in
          (suc length.0, below, omega (arith, length.2, pow-suc 2 length.0))
      | inr above ↦
          let last : length.0 ≡ 7 = omega (arith, length.1) in
          let longest : n ≡ 200 * 2 ^ 7 = subst (λ (j : ℕ). n ≡ 200 * 2 ^ j) last length.2 in
          (7, omega arith, omega arith)
    ]
