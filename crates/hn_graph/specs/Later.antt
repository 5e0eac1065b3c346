-- Reachability while time passes.
use Rattle.std.specs.Prelude.{◌≡◌, ℕ, ◌+◌, ◌-◌, ◌^◌, List}
use Rattle.hn_base.specs.Sooner.{IsOfElement}
use Rattle.hn_data.specs.declared.view.Entry.{Entry}

-- the moment at which data come to the age from which no path leads on; now, if they have
abbrev pub age_limit : ℕ → Entry → ℕ
age_limit now node = now + (2 ^ 32 - 2 ^ 15 - node.age)

-- that moment, of one of these nodes
abbrev pub IsAgeLimit : List Entry → ℕ → ℕ → Type 0
IsAgeLimit nodes now = IsOfElement (λ node m. m ≡ age_limit now node) nodes
