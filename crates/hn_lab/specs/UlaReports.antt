-- The lines on delegated prefixes of a router's own making. docs/FORMATS.md has the table.
use Rattle.std.specs.Prelude.{◌≡◌, ◌⊎◌, ◌↔◌, ◌≤◌, ◌+◌, ℕ, Bool, IsTrue, List, [], ◌∷◌, ◌++◌, filter, count_by, Contains, codes}
use Rattle.std.specs.Fmt.{decimal}
use Rattle.hn_base.specs.Name.{name_text}
use Rattle.hn_base.specs.Prefix.{PlainPrefix}
use Rattle.hn_base.specs.declared.name.Name.{Name}
use Rattle.hn_rules.specs.Seen.{seen_by}
use Rattle.hn_ula.specs.Ula.{IsForeign, IsOwnOf, IsUlaStill}
use Rattle.hn_audit.specs.Reached.{IsReached}
use Rattle.hn_audit.specs.Set.{is_in_set}
use Rattle.hn_audit.specs.Settled.{IsSettledByRules}
use Rattle.hn_world.specs.declared.member.Member.{Member}
use Rattle.hn_world.specs.declared.parts.Parts.{Parts}

-- r is settled, and each of its set is still: nothing would be decided anew
abbrev pub ArePrefixesStill : Parts → Member → Type 0
ArePrefixesStill w r = IsSettledByRules w r × ((s : Member) → IsReached w r s → IsUlaStill s.router)

-- a router has a generated prefix; of a list of routers, that many have one
abbrev pub HasGenerated : Member → Type 0
HasGenerated m = (p : PlainPrefix) × IsOwnOf m.router p

abbrev pub HaveGenerated : List Member → ℕ → Type 0
HaveGenerated [] count = count ≡ 0
HaveGenerated (m ∷ ms) count = (HasGenerated m × ((rest : ℕ) × (count ≡ rest + 1) × HaveGenerated ms rest)) ⊎ (¬ HasGenerated m × HaveGenerated ms count)

-- How many of the set of r have a generated prefix. Where all are still it is one at most, with one such prefix; and it is
-- one where none of them sees a foreign one.
pub record IsUlaCount (w : Parts) (r : Member) (count : ℕ) : Type 0 where
  pub members : List Member
  pub are : members ≡ filter (is_in_set r.router.reach) w.members
  pub has : Member → Bool
  pub has_is : (s : Member) → Contains members s → IsTrue (has s) ↔ ((p : PlainPrefix) × IsOwnOf s.router p)
  pub counted : count ≡ count_by has members
  pub at_most : ArePrefixesStill w r → (count ≤ 1) × ((s : Member) (p q : PlainPrefix) → IsReached w r s → IsOwnOf s.router p → IsOwnOf s.router q → p ≡ q)
  pub exactly : ArePrefixesStill w r → ((s : Member) → IsReached w r s → ¬ IsForeign (seen_by s.router)) → count ≡ 1

-- Whether it is settled, and where it is, whether all are still, and how many have one then.
abbrev pub IsUlasTold : Parts → Member → List ℕ → Type 0
IsUlasTold w r told =
    (¬ IsSettledByRules w r × (told ≡ codes "settled=no"))
    ⊎ ((IsSettledByRules w r × ¬ ArePrefixesStill w r × (told ≡ codes "settled=yes still=no"))
    ⊎ (ArePrefixesStill w r × ((count : ℕ) × IsUlaCount w r count × (told ≡ codes "settled=yes still=yes count=" ++ decimal count))))

-- the report on a router and its set
pub record IsUlasLine (name : Name) (w : Parts) (m : Member) (line : List ℕ) : Type 0 where
  pub told : List ℕ
  pub is_told : IsUlasTold w m told
  pub line_is : line ≡ codes "ulas " ++ name_text name ++ codes " " ++ told ++ 10 ∷ []
