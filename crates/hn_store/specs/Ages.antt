-- How old data are at a moment, and until when they are young (RFC 7787, section 4.6).
use Rattle.std.specs.Prelude.{ℕ, ◌+◌, ◌-◌, ◌^◌, ◌<◌, List, All}
use Rattle.hn_store.specs.declared.stored.Stored.{Stored}
use Rattle.hn_store.specs.declared.stored.HeldNode.{HeldNode}

-- the age with which the data arrived, and the time since then
abbrev pub age_of : ℕ → Stored → ℕ
age_of now stored = stored.age + (now - stored.at)

-- before a moment the data are younger than 2^32 - 2^15 ms
abbrev pub IsAgeUndueBefore : ℕ → Stored → Type 0
IsAgeUndueBefore end stored = (now : ℕ) → now < end → age_of now stored < 2 ^ 32 - 2 ^ 15

-- so are those of each node
abbrev pub AreAgesUndueBefore : ℕ → List HeldNode → Type 0
AreAgesUndueBefore end nodes = All (λ node. IsAgeUndueBefore end node.stored) nodes
