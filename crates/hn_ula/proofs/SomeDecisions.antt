-- Over each stream of words a router decides something: it cannot be that it does not.
use Rattle.hn_base.proofs.Names.{◌≡◌, ◌≢◌, ◌+◌, ◌-◌, ◌*◌, ◌/◌, ◌^◌, ◌<◌, ◌≤◌, ℕ, List, [], ◌∷◌, refl, sym, inl, inr, arith, ranked, nat_cmp, ordering_then, Less, Equal, Greater, lt-div-mul-add}
use Rattle.hn_base.proofs.Names.{pow_pos, LineElse, Some!, PlainPrefix, prefix_cmp, Begins}
use Rattle.hn_ula.proofs.Names.{State, IsOwnOf, IsGreatestOwn, MustGo, HasTwo, IsToAnnounce, Withdraws, Announces, made_of, Ula, Keep, Announce, Withdraw}
use Rattle.std.specs.declared.cmp.Ordering.{Ordering}
use Rattle.hn_base.proofs.FirstWords.{begins_next}
use Rattle.hn_base.proofs.SomeExists.{some_by, some_least, some_then}
use Rattle.hn_ula.specs.Laws.{HasADecision, DecisionExists}
use Rattle.hn_ula.specs.Ula.{IsLocal}

-- ---- the lines of the rule, from the last one on

abbrev LastLine : Ula → List ℕ → Type 0
LastLine ula words = (ula ≡ Keep) × (words ≡ [])

abbrev ThirdLine : State → Ula → List ℕ → Type 0
ThirdLine s ula words = LineElse (IsToAnnounce s) (Announces ula words) (LastLine ula words)

abbrev SecondLine : State → Ula → List ℕ → Type 0
SecondLine s ula words = LineElse (HasTwo s) (Withdraws s ula words) (ThirdLine s ula words)

-- ---- the greatest prefix of its own

-- a prefix inside fd00::/8 is of an address below 2^128
local_below : (p : PlainPrefix) → IsLocal p → p.bits < 2 ^ 128
local_below p local =
    let same : p.bits / 2 ^ 120 ≡ 0xfd = local p.bits refl in
    let less : p.bits < p.bits / 2 ^ 120 * 2 ^ 120 + 2 ^ 120 = lt-div-mul-add (pow_pos 120) in
    omega (arith, same, less)

not_less_first : (a b : Ordering) → a ≢ Less → b ≢ Less → ordering_then a b ≢ Less
not_less_first Less b x y h = x refl
not_less_first Equal b x y h = y h
not_less_first Greater b x y h = absurd (cc)

not_below : (m n : ℕ) → n ≤ m → nat_cmp m n ≢ Less
not_below m n le is = let less : m < n = ranked m n Less (sym is) in omega (arith, le, less)

not_less : (p q : PlainPrefix) → q.bits ≤ p.bits → q.len ≤ p.len → prefix_cmp p q ≢ Less
not_less p q bits len = not_less_first (nat_cmp p.bits q.bits) (nat_cmp p.len q.len) (not_below p.bits q.bits bits) (not_below p.len q.len len)

module _ (s : State) where
  -- so far below 2^128 is a prefix of its own
  abbrev IsBelow : ℕ → Type 0
  IsBelow far = (p : PlainPrefix) × IsOwnOf s p × (2 ^ 128 - p.bits ≡ far)

  some_greatest : (p : PlainPrefix) → IsOwnOf s p → Some! (IsGreatestOwn s)
  some_greatest p own = some_then (some_least IsBelow (2 ^ 128 - p.bits) (p, own, refl)) (λ far least none.
      let (best, has, is) = least.1 in
      none best (record {
        own = has;
        greatest = λ q also.
            let nearer : far ≤ 2 ^ 128 - q.bits = least.2 (2 ^ 128 - q.bits) (q, also, refl) in
            let below = local_below q also.local in
            let at = local_below best has.local in
            let long = has.long in
            let also_long = also.long in
            not_less best q (omega (arith, nearer, below, at, is)) (omega (arith, long, also_long));
      }))

  -- ---- a line of the rule

  module _ (stream : ℕ → ℕ) where
    -- what a router may decide by some lines
    abbrev By : (Ula → List ℕ → Type 0) → Type 0
    By Lines = Some! (λ (o : Ula × List ℕ). Lines o.0 o.1 × Begins o.1 stream)

    some_line : (condition : Type 0) (Answer Others : Ula → List ℕ → Type 0) → (condition → By Answer) → By Others
        → By (λ ula words. LineElse condition (Answer ula words) (Others ula words))
    some_line condition Answer Others where_so others = some_by condition
        (λ so. some_then (where_so so) (λ o is none. none o (inl (so, is.0), is.1)))
        (λ not. some_then others (λ o is none. none o (inr (not, is.0), is.1)))

    withdraws : (p : PlainPrefix) → IsOwnOf s p → By (Withdraws s)
    withdraws p own = some_then (some_greatest p own) (λ best is none. none (Withdraw best, []) ((best, is, refl, refl), λ i less. absurd (omega (arith, less))))

    announces : By Announces
    announces none =
        none (Announce (made_of (stream 0) (stream 1)), stream 0 ∷ stream 1 ∷ [])
        ((stream 0, stream 1, refl, refl), begins_next (stream 0 ∷ []) stream (begins_next [] stream (λ i less. absurd (omega (arith, less)))))

    keeps : By LastLine
    keeps none = none (Keep, []) ((refl, refl), λ i less. absurd (omega (arith, less)))

pub some_decision : DecisionExists
unfolding HasADecision
some_decision s stream =
    some_line s stream (MustGo s) (Withdraws s) (SecondLine s) (λ must. withdraws s stream must.one must.has)
    (some_line s stream (HasTwo s) (Withdraws s) (ThirdLine s) (λ two. withdraws s stream two.0 two.2)
    (some_line s stream (IsToAnnounce s) Announces LastLine (λ _. announces s stream) (keeps s stream)))
