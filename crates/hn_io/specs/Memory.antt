use Rattle.std.specs.Prelude.{ℕ, zero, suc, ◌+◌, ◌-◌, ◌==◌, ◌^◌, ◌<◌, List, Contains, min, if◌then◌else◌}
use Rattle.std.specs.List.{list_any}

-- the calls of an object, numbered from 1: how many were made, and the numbers of those that fail
pub record CallCount : Type 0 where
  pub made : ℕ
  pub fails : List ℕ

-- the number of the next call is listed; past 2^64 - 1 calls have no numbers
abbrev pub IsListed : CallCount → Type 0
IsListed calls = (calls.made + 1 < 2 ^ 64) × Contains calls.fails (calls.made + 1)

-- after one more call
abbrev pub called : CallCount → CallCount
called calls = record { made = min (calls.made + 1) (2 ^ 64 - 1); fails = calls.fails }

-- how many of the first `made` calls are listed
unfoldable pub faults_among : List ℕ → ℕ → ℕ
faults_among fails zero = 0
faults_among fails (suc made) = faults_among fails made + (if list_any (λ number. number == suc made) fails then 1 else 0)

-- how many of the calls that were made are listed
abbrev pub faults_so_far : CallCount → ℕ
faults_so_far calls = faults_among calls.fails calls.made

-- a source in memory: what is left, and its calls
pub record MemorySource : Type 0 where
  pub left : List ℕ
  pub calls : CallCount

-- a sink in memory: what it holds, and its calls
pub record MemorySink : Type 0 where
  pub held : List ℕ
  pub calls : CallCount
