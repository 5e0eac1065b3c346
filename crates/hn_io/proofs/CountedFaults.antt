-- How the count of faults goes on from call to call.
use Rattle.hn_base.proofs.Names.{◌≡◌, ◌≤◌, ◌<◌, ◌+◌, ◌^◌, ℕ, zero, suc, Bool, true, false, refl, List, [], arith, ◌==◌, list_any}
use Rattle.std.specs.Prelude.{IsTrue}
use Rattle.hn_io.specs.Faults.{Counts, IsCaused}
use Rattle.hn_io.specs.Memory.{faults_among}

-- a call that is listed is one more fault
one_more : (fails : List ℕ) (made : ℕ) → list_any (λ number. number == suc made) fails ≡ true → faults_among fails (suc made) ≡ faults_among fails made + 1
unfolding faults_among
one_more fails made h = rw h refl

-- a call that is not listed is none
no_more : (fails : List ℕ) (made : ℕ) → list_any (λ number. number == suc made) fails ≡ false → faults_among fails (suc made) ≡ faults_among fails made
unfolding faults_among
no_more fails made h = rw h (omega arith)

-- by whether a call is listed
at_most_one : (fails : List ℕ) (made : ℕ) (listed : Bool) → list_any (λ number. number == suc made) fails ≡ listed → faults_among fails (suc made) ≤ faults_among fails made + 1
at_most_one fails made true h = omega (arith, one_more fails made h)
at_most_one fails made false h = omega (arith, no_more fails made h)

-- no more calls failed than were made
within_calls : (fails : List ℕ) (made : ℕ) → faults_among fails made ≤ made
unfolding faults_among
within_calls fails zero = omega arith
within_calls fails (suc made) = omega (arith, within_calls fails made, at_most_one fails made (list_any (λ number. number == suc made) fails) refl)

counted : (fails : List ℕ) (made : ℕ) (listed : Bool) → list_any (λ number. number == suc made) fails ≡ listed → made + 1 < 2 ^ 64
    → Counts (IsTrue listed) (faults_among fails made) (faults_among fails (suc made))
counted fails made true h short =
    let more = one_more fails made h in
    let within = within_calls fails made in
    record { rises = λ _. omega arith; stays = λ else. absurd (else refl); never_falls = omega arith }
counted fails made false h short =
    let same = no_more fails made h in
    record { rises = λ told. absurd cc; stays = λ _. same; never_falls = omega arith }

never_listed : (fails : List ℕ) (made : ℕ) (listed : Bool) → list_any (λ number. number == suc made) fails ≡ listed → fails ≡ [] → ¬ (IsTrue listed)
never_listed fails made listed h none told = let empty : list_any (λ number. number == suc made) fails ≡ false = rw none refl in absurd cc

-- what the next call, which fails if it is listed, does to the count
pub caused : (fails : List ℕ) (made : ℕ) (listed : Bool) → list_any (λ number. number == suc made) fails ≡ listed → made + 1 < 2 ^ 64
    → IsCaused (IsTrue listed) (faults_among fails made) (faults_among fails (suc made)) (fails ≡ []) (fails ≡ [])
caused fails made listed h short = record {
  counts = counted fails made listed h short;
  reliable = λ none. (none, never_listed fails made listed h none);
}
