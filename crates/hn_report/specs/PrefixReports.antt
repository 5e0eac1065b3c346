-- The reports on delegated prefixes, assigned prefixes and elections. docs/FORMATS.md has the table.
use Rattle.std.specs.Prelude.{◌≡◌, ℕ, List, ◌∷◌, ◌++◌, [], map, length, codes, Option, None, Some}
use Rattle.std.specs.Fmt.{decimal}
use Rattle.hn_base.specs.HexText.{id_text}
use Rattle.hn_base.specs.Name.{name_text}
use Rattle.hn_base.specs.declared.ids.EpId.{EpId}
use Rattle.hn_base.specs.declared.ids.NodeId.{NodeId}
use Rattle.hn_base.specs.declared.letter.Letter.{Letter}
use Rattle.hn_base.specs.declared.name.Name.{Name}
use Rattle.hn_prefix.specs.PrefixText.{prefix_text_of}
use Rattle.hn_pair.specs.declared.assigned.Assigned.{Assigned}
use Rattle.hn_deleg.specs.declared.delegated.Delegated.{Delegated}
use Rattle.hn_deleg.specs.Used.{AreUsable, whole_seconds}
use Rattle.hn_rules.specs.Seen.{seen_by, IsElectedAt}
use Rattle.hn_script.specs.Field.{letter_text}
use Rattle.hn_world.specs.declared.member.Member.{Member}
use Rattle.hn_base.specs.YesNo.{yes_no}

-- a delegated prefix that a router uses
abbrev pub use_line : Name → Delegated → List ℕ
use_line name d =
    codes "use " ++ name_text name ++ codes " " ++ prefix_text_of d.prefix ++ codes " valid=" ++ decimal (whole_seconds d.valid)
    ++ codes " preferred=" ++ decimal (whole_seconds d.preferred) ++ 10 ∷ []

-- how many it uses, and each
abbrev pub used_lines : Name → List Delegated → List (List ℕ)
used_lines name used =
    (codes "used " ++ name_text name ++ codes " " ++ decimal (length used) ++ 10 ∷ []) ∷ map (use_line name) used

-- the report on the delegated prefixes that a router uses
pub record AreUsedLines (name : Name) (m : Member) (lines : List (List ℕ)) : Type 0 where
  pub used : List Delegated
  pub are_usable : AreUsable (seen_by m.router) used
  pub lines_are : lines ≡ used_lines name used

-- the priority of an assignment that is published
abbrev pub published_text : Option ℕ → List ℕ
published_text None = codes "no"
published_text (Some priority) = decimal priority

-- an assignment of a router
abbrev pub prefix_line : Name → Assigned → List ℕ
prefix_line name c =
    codes "prefix " ++ name_text name ++ codes " ep=" ++ decimal c.endpoint.0 ++ codes " in=" ++ prefix_text_of c.delegated
    ++ codes " is=" ++ prefix_text_of c.prefix ++ codes " published=" ++ published_text c.published
    ++ codes " applied=" ++ yes_no c.applied ++ 10 ∷ []

-- how many it has, and each
abbrev pub prefixes_lines : Name → Member → List (List ℕ)
prefixes_lines name m =
    (codes "prefixes " ++ name_text name ++ codes " " ++ decimal (length m.router.held.assigned) ++ 10 ∷ [])
    ∷ map (prefix_line name) m.router.held.assigned

-- who is elected, if somebody is
abbrev pub elected_text : Option NodeId → List ℕ
elected_text None = codes "none"
elected_text (Some node) = id_text node.0

abbrev pub elect_line : Name → EpId → Letter → Option NodeId → List ℕ
elect_line name e letter who =
    codes "elect " ++ name_text name ++ codes " " ++ decimal e.0 ++ codes " " ++ letter_text letter ++ codes " "
    ++ elected_text who ++ 10 ∷ []

-- the report on an election
pub record IsElectLine (name : Name) (e : EpId) (letter : Letter) (m : Member) (line : List ℕ) : Type 0 where
  pub who : Option NodeId
  pub is_elected : IsElectedAt m.router e letter who
  pub line_is : line ≡ elect_line name e letter who
