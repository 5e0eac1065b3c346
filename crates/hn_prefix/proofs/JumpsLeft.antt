-- How many jumps past taken prefixes are still to come: at most two for each taken prefix, and fewer after each jump.
use Rattle.hn_base.proofs.Names.{◌≡◌, ℕ, ◌+◌, ◌-◌, ◌*◌, ◌%◌, ◌<◌, ◌≤◌, inl, inr, List, length, get_or, cond, arith, ap, ◌∙◌, remove, mod-eq_of_lt, cases_lt, nat_tests, count_by-le-length, PlainPrefix}
use Rattle.hn_base.proofs.Names.{last_address}
use Rattle.hn_prefix.proofs.Names.{Contains, sub_prefix_count, next_place}
use Rattle.std.specs.Prelude.{count_by, sum_by, nat_lt}
use Rattle.std.proofs.Math.Nat.{add-mod_left}
use Rattle.std.proofs.lemmas.List.Sums.{sum_by-le-sum_by, sum_by-remove}

-- how many taken prefixes reach beyond a place
abbrev pub reaching : PlainPrefix → List PlainPrefix → ℕ → ℕ → ℕ
reaching outer taken len place = count_by (λ t. nat_lt place (next_place outer len (last_address t))) taken

-- how many jumps are still to come at most, `at` places from place 0, of two rounds: in each round one for each taken
-- prefix that reaches beyond the place, so never more than twice the number of taken prefixes
abbrev pub jumps_left : PlainPrefix → List PlainPrefix → ℕ → ℕ → ℕ
jumps_left outer taken len at = reaching outer taken len at + reaching outer taken len (at - sub_prefix_count outer len)

pub few_jumps : (outer : PlainPrefix) (taken : List PlainPrefix) (len at : ℕ) → jumps_left outer taken len at ≤ 2 * length taken
few_jumps outer taken len at =
    let now : reaching outer taken len at ≤ length taken = count_by-le-length _ taken in
    let then : reaching outer taken len (at - sub_prefix_count outer len) ≤ length taken = count_by-le-length _ taken in
    omega arith

fewer_by : (f g : PlainPrefix → ℕ) (xs : List PlainPrefix) (i : ℕ) (x : PlainPrefix) → i < length xs → get_or xs i x ≡ x → ((y : PlainPrefix) → f y ≤ g y) → f x < g x → sum_by f xs < sum_by g xs
fewer_by f g xs i x below is none_more less =
    let others : sum_by f (remove xs i) ≤ sum_by g (remove xs i) = sum_by-le-sum_by f g (remove xs i) none_more in
    let all_f : sum_by f (remove xs i) + f (get_or xs i x) ≡ sum_by f xs = sum_by-remove f xs i x below in
    let all_g : sum_by g (remove xs i) + g (get_or xs i x) ≡ sum_by g xs = sum_by-remove g xs i x below in
    let one_f : f (get_or xs i x) ≡ f x = ap f is in
    let one_g : g (get_or xs i x) ≡ g x = ap g is in
    omega arith

-- what a test of an order counts
counted_less : (a b n : ℕ) → a ≤ b → cond (nat_lt b n) 1 0 ≤ cond (nat_lt a n) 1 0
counted_less a b n below = grind (arith, nat_tests)

counted_once : (a b : ℕ) → a < b → cond (nat_lt b b) 1 0 < cond (nat_lt a b) 1 0
counted_once a b below = grind (arith, nat_tests)

no_more_reach : (outer : PlainPrefix) (taken : List PlainPrefix) (len a b : ℕ) → a ≤ b → reaching outer taken len b ≤ reaching outer taken len a
no_more_reach outer taken len a b below =
    sum_by-le-sum_by (λ t. cond (nat_lt b (next_place outer len (last_address t))) 1 0) (λ t. cond (nat_lt a (next_place outer len (last_address t))) 1 0) taken
    (λ t. counted_less a b (next_place outer len (last_address t)) below)

fewer_reach : (outer : PlainPrefix) (taken : List PlainPrefix) (blocker : PlainPrefix) (len place : ℕ) → Contains taken blocker
    → place < next_place outer len (last_address blocker) → reaching outer taken len (next_place outer len (last_address blocker)) < reaching outer taken len place
fewer_reach outer taken blocker len place among below =
    fewer_by (λ t. cond (nat_lt (next_place outer len (last_address blocker)) (next_place outer len (last_address t))) 1 0) (λ t. cond (nat_lt place (next_place outer len (last_address t))) 1 0) taken
    among.0 blocker among.1 among.2
    (λ t. counted_less place (next_place outer len (last_address blocker)) (next_place outer len (last_address t)) (omega arith))
    (counted_once place (next_place outer len (last_address blocker)) below)

-- a jump to the place after a taken prefix leaves fewer jumps to come
pub jump_counts : (taken : List PlainPrefix) (outer blocker : PlainPrefix) (len at next place following : ℕ) → Contains taken blocker
    → following ≡ next_place outer len (last_address blocker) → at < 2 * sub_prefix_count outer len → place ≡ at % sub_prefix_count outer len
    → place < following → next ≡ at + (following - place) → jumps_left outer taken len next < jumps_left outer taken len at
jump_counts taken outer blocker len at next place following among following_is two_rounds place_is later next_is =
    let count : ℕ = sub_prefix_count outer len in
    elim (cases_lt at count) [
      | inl first_round ↦
          let same : at % count ≡ at = mod-eq_of_lt first_round in
          let fewer = fewer_reach outer taken blocker len at among (omega arith) in
          let moved : reaching outer taken len next ≡ reaching outer taken len (next_place outer len (last_address blocker)) = ap (λ n. reaching outer taken len n) (omega arith) in
          let others = no_more_reach outer taken len (at - count) (next - count) (omega arith) in
          omega arith
      | inr second_round ↦
          let sum : at ≡ count + (at - count) = omega arith in
          let same : at % count ≡ at - count = ap (λ n. n % count) sum ∙ (add-mod_left count (at - count) ∙ mod-eq_of_lt (omega arith)) in
          let fewer = fewer_reach outer taken blocker len (at - count) among (omega arith) in
          let moved : reaching outer taken len (next - count) ≡ reaching outer taken len (next_place outer len (last_address blocker)) = ap (λ n. reaching outer taken len n) (omega arith) in
          let others = no_more_reach outer taken len at next (omega arith) in
          omega arith
    ]
