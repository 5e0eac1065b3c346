-- Numbers of 128 bits by the first of them.
use Rattle.hn_base.proofs.Names.{◌≡◌, ℕ, ◌+◌, ◌-◌, ◌/◌, ◌^◌, ◌≤◌, ap, arith}
use Rattle.std.proofs.lemmas.Nat.{shr-shr}

-- two that begin alike in a longer length begin alike in a shorter one
pub alike_in_shorter : (a b short long : ℕ) → short ≤ long → a / 2 ^ (128 - long) ≡ b / 2 ^ (128 - long) → a / 2 ^ (128 - short) ≡ b / 2 ^ (128 - short)
alike_in_shorter a b short long shorter same =
    let more : ℕ = (128 - short) - (128 - long) in
    let sum : 128 - short ≡ (128 - long) + more = omega arith in
    rw (sum, ← shr-shr a (128 - long) more, ← shr-shr b (128 - long) more) (ap (λ n. n / 2 ^ more) same)
