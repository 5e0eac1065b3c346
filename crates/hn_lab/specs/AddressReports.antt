-- The reports on the addresses of routers. docs/FORMATS.md has the table.
use Rattle.std.specs.Prelude.{◌≡◌, ◌⊎◌, ℕ, List, [], ◌∷◌, ◌++◌, codes}
use Rattle.hn_addr.specs.Addresses.{IsAddressStill}
use Rattle.hn_base.specs.Name.{name_text}
use Rattle.hn_base.specs.declared.name.Name.{Name}
use Rattle.hn_data.specs.Said.{HasAddress}
use Rattle.hn_own.specs.Addresses.{OwnAddress}
use Rattle.hn_audit.specs.Reached.{IsReached}
use Rattle.hn_audit.specs.Settled.{IsSettledByRules}
use Rattle.hn_world.specs.declared.member.Member.{Member}
use Rattle.hn_world.specs.declared.parts.Parts.{Parts}

-- r is settled, and each of its set is still: nothing would be chosen anew
abbrev pub AreAddressesStill : Parts → Member → Type 0
AreAddressesStill w r = IsSettledByRules w r × ((s : Member) → IsReached w r s → IsAddressStill s.router)

-- No address is published twice: not by two of the set, and not on two endpoints of one.
abbrev pub AreAlone : Parts → Member → Type 0
AreAlone w r =
    (s u : Member) (a b : OwnAddress) → IsReached w r s → IsReached w r u
    → HasAddress s.router.own.body a → HasAddress u.router.own.body b → a.1 ≡ b.1 → (s ≡ u) × (a ≡ b)

-- Whether it is settled, and where it is, whether all are still. Then no address is published twice.
abbrev pub IsAddressed : Parts → Member → List ℕ → Type 0
IsAddressed w r told =
    (¬ IsSettledByRules w r × (told ≡ codes "settled=no"))
    ⊎ ((IsSettledByRules w r × ¬ AreAddressesStill w r × (told ≡ codes "settled=yes still=no"))
    ⊎ (AreAddressesStill w r × AreAlone w r × (told ≡ codes "settled=yes still=yes alone=yes")))

-- the report on a router and its set
pub record IsAddressedLine (name : Name) (w : Parts) (m : Member) (line : List ℕ) : Type 0 where
  pub told : List ℕ
  pub is_addressed : IsAddressed w m told
  pub line_is : line ≡ codes "addressed " ++ name_text name ++ codes " " ++ told ++ 10 ∷ []
