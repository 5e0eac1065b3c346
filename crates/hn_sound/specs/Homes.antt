-- Homes of two routers that are not sound, since one premise fails, or one condition of rest.
use Rattle.std.specs.Prelude.{◌==◌, ◌&&◌, not, Some, None, [], ◌∷◌}
use Rattle.hn_sound.specs.Home.{Home, Endpoint}
use Rattle.hn_sound.specs.Written.{wide, delegated, subnet, endpoint, has, home_of}

-- two routers on one link, and the second one on another
abbrev pub first : Endpoint
first = endpoint 1 1 1

abbrev pub second : Endpoint
second = endpoint 2 1 1

abbrev pub far : Endpoint
far = endpoint 2 1 2

-- ---- a premise fails

-- two routers on two links have one identifier, and so one key
abbrev pub shared_identifier : Home
shared_identifier =
    home_of (endpoint 1 1 1 ∷ endpoint 1 1 2 ∷ []) (delegated ∷ [])
    (has (endpoint 1 1 1) delegated (subnet 0) (Some 2) ∷ [])

-- a router has two endpoints on one link, each with a prefix of its own
abbrev pub twice_on_link : Home
twice_on_link =
    home_of (first ∷ endpoint 1 2 1 ∷ second ∷ []) (delegated ∷ [])
    (has first delegated (subnet 0) (Some 2)
    ∷ has (endpoint 1 2 1) delegated (subnet 1) (Some 2)
    ∷ has second delegated (subnet 1) None
    ∷ [])

-- one used prefix is inside another, and the first router does not want the inner one
abbrev pub nested : Home
nested =
    let home = home_of (first ∷ second ∷ []) (wide ∷ delegated ∷ [])
    (has first wide (subnet 0) (Some 2)
    ∷ has second wide (subnet 0) None
    ∷ has second delegated (subnet 0) None
    ∷ []) in
    record home { wants = λ node d. not ((node.0 == 1) && (d.len == 56)) }

-- the first router has a prefix inside one that is not used, and does not want the used one
abbrev pub not_used : Home
not_used =
    let home = home_of (first ∷ second ∷ []) (delegated ∷ [])
    (has first wide (subnet 0) (Some 2)
    ∷ has second delegated (subnet 0) None
    ∷ []) in
    record home { wants = λ node d. not (node.0 == 1) }

-- the second router publishes a prefix that is not inside the delegated one
abbrev pub outside : Home
outside =
    home_of (first ∷ second ∷ []) (delegated ∷ [])
    (has first delegated (subnet 0) (Some 2)
    ∷ has second delegated (subnet 256) (Some 2)
    ∷ [])

-- the first router publishes two prefixes for one endpoint
abbrev pub two_for_one : Home
two_for_one =
    home_of (first ∷ second ∷ []) (delegated ∷ [])
    (has first delegated (subnet 0) (Some 2)
    ∷ has first delegated (subnet 1) (Some 2)
    ∷ has second delegated (subnet 1) None
    ∷ [])

-- two links have one prefix, published with priority 1, which is below the priority that both are judged with
abbrev pub low_priority : Home
low_priority =
    home_of (first ∷ far ∷ []) (delegated ∷ [])
    (has first delegated (subnet 0) (Some 1)
    ∷ has far delegated (subnet 0) (Some 1)
    ∷ [])

-- ---- a condition of rest fails

-- nothing is assigned, while all is wanted and free
abbrev pub nothing_assigned : Home
nothing_assigned = home_of (first ∷ second ∷ []) (delegated ∷ []) []

-- both have a prefix, and neither publishes it
abbrev pub no_publisher : Home
no_publisher =
    home_of (first ∷ second ∷ []) (delegated ∷ [])
    (has first delegated (subnet 0) None
    ∷ has second delegated (subnet 0) None
    ∷ [])

-- two links have one prefix
abbrev pub one_for_two_links : Home
one_for_two_links =
    home_of (first ∷ far ∷ []) (delegated ∷ [])
    (has first delegated (subnet 0) (Some 2)
    ∷ has far delegated (subnet 0) (Some 2)
    ∷ [])

-- one link has two prefixes, both published
abbrev pub two_publishers : Home
two_publishers =
    home_of (first ∷ second ∷ []) (delegated ∷ [])
    (has first delegated (subnet 0) (Some 2)
    ∷ has second delegated (subnet 1) (Some 2)
    ∷ [])

-- both publish the prefix of the link
abbrev pub published_twice : Home
published_twice =
    home_of (first ∷ second ∷ []) (delegated ∷ [])
    (has first delegated (subnet 0) (Some 2)
    ∷ has second delegated (subnet 0) (Some 2)
    ∷ [])

-- one link has two prefixes, one of them published
abbrev pub two_prefixes : Home
two_prefixes =
    home_of (first ∷ second ∷ []) (delegated ∷ [])
    (has first delegated (subnet 0) (Some 2)
    ∷ has second delegated (subnet 1) None
    ∷ [])
