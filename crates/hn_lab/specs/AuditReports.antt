-- The report on whether a router is settled and quiet. docs/FORMATS.md has the table.
use Rattle.std.specs.Prelude.{◌≡◌, ◌⊎◌, ℕ, List, ◌∷◌, ◌++◌, [], codes}
use Rattle.hn_base.specs.Name.{name_text}
use Rattle.hn_base.specs.declared.name.Name.{Name}
use Rattle.hn_audit.specs.Settled.{IsSettledByRules}
use Rattle.hn_audit.specs.Quiet.{IsQuietByRules}
use Rattle.hn_audit.specs.Sound.{IsSoundByRules}
use Rattle.hn_world.specs.declared.member.Member.{Member}
use Rattle.hn_world.specs.declared.parts.Parts.{Parts}

-- Whether it is settled, and where it is, whether it is quiet. One that is both is sound.
abbrev pub IsAudited : Parts → Member → List ℕ → Type 0
IsAudited w m told =
    (¬ IsSettledByRules w m × (told ≡ codes "settled=no"))
    ⊎ ((IsSettledByRules w m × ¬ IsQuietByRules w m × (told ≡ codes "settled=yes quiet=no"))
    ⊎ (IsSettledByRules w m × IsQuietByRules w m × IsSoundByRules w m × (told ≡ codes "settled=yes quiet=yes sound=yes")))

abbrev pub audit_line : Name → List ℕ → List ℕ
audit_line name told = codes "audit " ++ name_text name ++ codes " " ++ told ++ 10 ∷ []

-- the report on a router
pub record IsAuditLine (name : Name) (w : Parts) (m : Member) (line : List ℕ) : Type 0 where
  pub told : List ℕ
  pub is_audited : IsAudited w m told
  pub line_is : line ≡ audit_line name told
