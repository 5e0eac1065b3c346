-- The first words of the lines that have the same after it.
use Rattle.std.specs.Prelude.{◌≡◌, ◌≢◌, ◌⊎◌, ℕ, List, [], ◌∷◌, ◌++◌, codes}
use Rattle.std.specs.List.{AllByRecursion}

-- the word is one of these
abbrev pub IsOneOf : List (List ℕ) → List ℕ → Type 0
IsOneOf [] word = ⊥
IsOneOf (first ∷ firsts) word = (word ≡ first) ⊎ IsOneOf firsts word

-- the word is none of these
abbrev pub IsNoneOf : List (List ℕ) → List ℕ → Type 0
IsNoneOf firsts word = AllByRecursion (λ first. word ≢ first) firsts

-- a name
abbrev pub name_firsts : List (List ℕ)
name_firsts = codes "link" ∷ codes "stop" ∷ codes "start" ∷ codes "tick" ∷ codes "show" ∷ codes "hash" ∷ codes "used" ∷ codes "prefixes"
    ∷ codes "audit" ∷ codes "address" ∷ codes "addresses" ∷ codes "addressed" ∷ codes "ula" ∷ codes "ulas" ∷ []

-- a name and an endpoint
abbrev pub endpoint_firsts : List (List ℕ)
endpoint_firsts = codes "detach" ∷ codes "advert" ∷ codes "radv" ∷ codes "solicit" ∷ []

-- a number of 64 bits
abbrev pub number_firsts : List (List ℕ)
number_firsts = codes "seed" ∷ codes "deliver" ∷ codes "drop" ∷ []

-- two names
abbrev pub pair_firsts : List (List ℕ)
pair_firsts = codes "compare" ∷ codes "sync" ∷ []

-- nothing
abbrev pub lone_firsts : List (List ℕ)
lone_firsts = codes "flow" ∷ codes "mail" ∷ []

-- the words that share what is after them with others
abbrev pub shared_firsts : List (List ℕ)
shared_firsts = endpoint_firsts ++ number_firsts ++ pair_firsts ++ lone_firsts ++ name_firsts

-- alone with a router and its node, an endpoint beside more, or capabilities
abbrev pub router_firsts : List (List ℕ)
router_firsts = codes "router" ∷ codes "attach" ∷ codes "caps" ∷ codes "elect" ∷ codes "inject" ∷ []

-- alone with a prefix, or with the length of one
abbrev pub prefix_firsts : List (List ℕ)
prefix_firsts = codes "external" ∷ codes "withdraw" ∷ codes "private" ∷ []

-- alone with numbers in a range
abbrev pub range_firsts : List (List ℕ)
range_firsts = codes "loss" ∷ codes "time" ∷ codes "run" ∷ []

-- the words of version 2 alone
abbrev pub later_firsts : List (List ℕ)
later_firsts = codes "private" ∷ codes "address" ∷ codes "addresses" ∷ codes "addressed" ∷ codes "ula" ∷ codes "ulas" ∷ codes "sync" ∷ codes "radv" ∷ codes "solicit" ∷ []
