-- The report on a Router Advertisement. docs/FORMATS.md has the table.
use Rattle.std.specs.Prelude.{◌≡◌, ℕ, List, ◌∷◌, ◌++◌, [], codes}
use Rattle.std.specs.Fmt.{decimal}
use Rattle.hn_base.specs.HexText.{hex_text}
use Rattle.hn_base.specs.Name.{name_text}
use Rattle.hn_base.specs.declared.ids.EpId.{EpId}
use Rattle.hn_base.specs.declared.name.Name.{Name}
use Rattle.hn_router.specs.Advertising.{IsAdvertBytes}
use Rattle.hn_world.specs.declared.member.Member.{Member}

abbrev pub advert_line : Name → EpId → List ℕ → List ℕ
advert_line name e bytes =
    codes "advert " ++ name_text name ++ codes " " ++ decimal e.0 ++ codes " " ++ hex_text bytes ++ 10 ∷ []

-- the report on what a router advertises on an endpoint
pub record IsAdvertLine (name : Name) (e : EpId) (m : Member) (line : List ℕ) : Type 0 where
  pub bytes : List ℕ
  pub are_bytes : IsAdvertBytes m.router e bytes
  pub line_is : line ≡ advert_line name e bytes
