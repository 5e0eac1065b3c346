use Rattle.std.specs.Prelude.{◌≡◌, Result}
use Rattle.std.specs.Borrow.{LendsSoOk, Fml, RattleType, MutBor}
use Rattle.hn_base.specs.contracts.shared.Shared.{the_row}

-- once the borrow r ends, the value that s borrows is the last one written through r, and at `Err` it is as it was
abbrev pub lends_shared : (T : RattleType) → MutBor T.Denot → {E : Type 0} → Result (MutBor T.Denot) E → Fml
lends_shared T s r = LendsSoOk (the_row T) T s r (λ n w. n ≡ w) (λ n. n ≡ s.now)
