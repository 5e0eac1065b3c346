-- Advertised prefixes in order of their bits: those that begin inside a prefix follow one another.
use Rattle.hn_base.proofs.Names.{◌≡◌, ◌↔◌, ◌∙◌, ℕ, ◌+◌, ◌-◌, ◌<◌, ◌≤◌, true, false, nat_lt, List, length, get_or, drop, min, ap, subst, ⊎_elim, arith, IsPartitionPoint}
use Rattle.hn_base.proofs.Names.{IsNonDecreasingBy, cases_lt, get_or-drop, length-take, PlainPrefix, IsInside}
use Rattle.hn_assign.proofs.Names.{length-drop, Advertised, IsFrontUpTo}
use Rattle.std.proofs.Common.{ltb-true}
use Rattle.hn_assign.specs.Between.{AreBetween}

-- the first addresses before the place are below an address, and those from it on are not
abbrev pub IsBelow : List Advertised → ℕ → ℕ → Type 0
IsBelow adv first = IsPartitionPoint (λ a. nat_lt a.prefix.bits first ≡ true) (λ a. nat_lt a.prefix.bits first ≡ false) adv

-- the addresses inside are those from the first to the last
abbrev pub IsFromTo : PlainPrefix → ℕ → ℕ → Type 0
IsFromTo outer first last = (address : ℕ) → IsInside address outer ↔ (first ≤ address) × (address ≤ last)

module _ (adv : List Advertised) (outer : PlainPrefix) (first last start : ℕ) (front : List Advertised) (from_to : IsFromTo outer first last)
    (rises : IsNonDecreasingBy (λ (a : Advertised). a.prefix.bits) adv) (below : IsBelow adv first start) (bounded : start ≤ length adv) (is : IsFrontUpTo (drop start adv) last front) where
  rest : length (drop start adv) ≡ length adv - start
  rest = length-drop start adv

  -- one that is inside is not before the start
  from_start : (k : ℕ) (a : Advertised) → k < length adv → get_or adv k a ≡ a → first ≤ a.prefix.bits → start ≤ k
  from_start k a lt at low =
      ⊎_elim
      (λ (less : k < start).
      let before : nat_lt a.prefix.bits first ≡ true = subst (λ (x : Advertised). nat_lt x.prefix.bits first ≡ true) at (below.0 k a (omega arith) less) in
      let under = ltb-true _ _ before in absurd (omega (arith, low)))
      (λ (past : start ≤ k). past) (cases_lt k start)

  -- nor behind the end
  to_end : (k : ℕ) (a : Advertised) → k < length adv → start ≤ k → get_or adv k a ≡ a → a.prefix.bits ≤ last → k - start < is.count
  to_end k a lt from at high =
      ⊎_elim
      (λ (less : k - start < is.count). less)
      (λ (past : is.count ≤ k - start).
      let next = is.next a (omega (arith, rest)) in
      let there : get_or (drop start adv) is.count a ≡ get_or adv (start + is.count) a = get_or-drop start adv is.count a in
      let above : last < (get_or adv (start + is.count) a).prefix.bits = subst (λ (x : Advertised). last < x.prefix.bits) there next in
      let up : (get_or adv (start + is.count) a).prefix.bits ≤ (get_or adv k a).prefix.bits = rises (start + is.count) k a (omega arith) lt in
      let here : (get_or adv k a).prefix.bits ≡ a.prefix.bits = ap (λ (x : Advertised). x.prefix.bits) at in
      absurd (omega arith))
      (cases_lt (k - start) is.count)

  -- so those that are inside stand between the start and the end
  pub are_between : AreBetween adv outer start (start + length front)
  are_between =
      let size : length front ≡ min is.count (length (drop start adv)) = ap length is.taken ∙ length-take is.count (drop start adv) in
      record {
        order = omega arith;
        within = omega (arith, rest, size);
        each = λ k a lt at inside.
            let here = (from_to a.prefix.bits).0 inside in
            let low : start ≤ k = from_start k a lt at here.0 in
            let high : k - start < is.count = to_end k a lt low at here.1 in
            (low, omega (arith, rest, size));
      }

-- all stand between the first and the last
pub all_between : (adv : List Advertised) (outer : PlainPrefix) (n : ℕ) → n ≡ length adv → AreBetween adv outer 0 n
all_between adv outer n is = record { order = omega arith; within = omega arith; each = λ k a lt at inside. (omega arith, omega arith) }
