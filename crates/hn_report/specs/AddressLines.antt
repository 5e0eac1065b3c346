-- The lines on the addresses that a router has. docs/FORMATS.md has the table.
use Rattle.std.specs.Prelude.{ℕ, List, [], ◌∷◌, ◌++◌, map, length, codes}
use Rattle.std.specs.Fmt.{decimal}
use Rattle.hn_base.specs.Name.{name_text}
use Rattle.hn_base.specs.declared.name.Name.{Name}
use Rattle.hn_own.specs.Addresses.{OwnAddress}
use Rattle.hn_prefix.specs.AddressText.{address_text_of}
use Rattle.hn_world.specs.declared.member.Member.{Member}

-- an own address of a router
abbrev pub address_line : Name → OwnAddress → List ℕ
address_line name a = codes "address " ++ name_text name ++ codes " ep=" ++ decimal a.0.0 ++ codes " is=" ++ address_text_of a.1 ++ 10 ∷ []

-- how many it has, and each
abbrev pub addresses_lines : Name → Member → List (List ℕ)
addresses_lines name m =
    (codes "addresses " ++ name_text name ++ codes " " ++ decimal (length m.router.addresses) ++ 10 ∷ [])
    ∷ map (address_line name) m.router.addresses
