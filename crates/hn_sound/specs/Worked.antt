-- A home of three routers on three links, each router on two of them.
use Rattle.std.specs.Prelude.{◌==◌, not, Some, None, [], ◌∷◌}
use Rattle.hn_base.specs.Prefix.{PlainPrefix}
use Rattle.hn_sound.specs.Home.{Home}
use Rattle.hn_sound.specs.Written.{delegated, subnet, endpoint, has, home_of}

-- fd00::/64 has one prefix of length 64, and fd00:1::/48, which no router wants, has many
abbrev pub single : PlainPrefix
single = record { bits = 0xfd000000_00000000_00000000_00000000; len = 64 }

abbrev pub unwanted : PlainPrefix
unwanted = record { bits = 0xfd000001_00000000_00000000_00000000; len = 48 }

-- on link 1 the second router publishes one prefix, and the first router has another or the same, not published
abbrev pub home_with : PlainPrefix → PlainPrefix → Home
home_with published followed =
    let home = home_of
    (endpoint 1 1 1 ∷ endpoint 1 2 3
    ∷ endpoint 2 1 1 ∷ endpoint 2 2 2
    ∷ endpoint 3 1 2 ∷ endpoint 3 2 3
    ∷ [])
    (delegated ∷ single ∷ unwanted ∷ [])
    -- link 1
    (has (endpoint 2 1 1) delegated published (Some 2)
    ∷ has (endpoint 1 1 1) delegated followed None
    -- link 2
    ∷ has (endpoint 3 1 2) delegated (subnet 2) (Some 2)
    ∷ has (endpoint 2 2 2) delegated (subnet 2) None
    -- link 3
    ∷ has (endpoint 1 2 3) delegated (subnet 3) (Some 2)
    ∷ has (endpoint 3 2 3) delegated (subnet 3) None
    -- link 1 has the one prefix inside the second used one
    ∷ has (endpoint 1 1 1) single single (Some 2)
    ∷ has (endpoint 2 1 1) single single None
    ∷ []) in
    record home { wants = λ node d. not (d.len == 48) }

-- link n has the prefix 2001:db8:0:n::/64
abbrev pub worked : Home
worked = home_with (subnet 1) (subnet 1)

-- 2001:db8:0:2::/63, which overlaps the prefix of link 2 and that of link 3
abbrev pub overlapping : PlainPrefix
overlapping = record { bits = 0x20010db8_00000002_00000000_00000000; len = 63 }
