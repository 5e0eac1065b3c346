-- The lines that a play writes. docs/FORMATS.md has the table.
use Rattle.std.specs.Prelude.{◌≡◌, ◌↔◌, ℕ, Bool, if◌then◌else◌, List, [], ◌∷◌, ◌++◌, IsTrue, codes, length, count_by, Some}
use Rattle.std.specs.Fmt.{decimal}
use Rattle.hn_base.specs.HexText.{hex_text, id_text}
use Rattle.hn_base.specs.Name.{name_text}
use Rattle.hn_base.specs.YesNo.{yes_no}
use Rattle.hn_base.specs.declared.name.Name.{Name}
use Rattle.hn_hash.specs.declared.agreement.Agreement.{Agreement}
use Rattle.hn_hash.specs.declared.agreement.Agreement.TheVariants.{Differ, Same, Collide}
use Rattle.hn_rules.specs.Nodes.{leaves_of}
use Rattle.hn_world.specs.Leaves.{Agrees}
use Rattle.hn_world.specs.declared.member.Member.{Member}
use Rattle.hn_world.specs.declared.parts.Parts.{Parts}
use Rattle.hn_world.specs.Names.{member_named}

-- the report on a router: how many nodes it reaches, the own one among them, and how many others it holds
abbrev pub show_line : Name → Member → List ℕ
show_line name m =
    codes "show " ++ name_text name ++ codes " id=" ++ id_text m.router.id.0 ++ codes " number=" ++ decimal m.router.number
    ++ codes " reach=" ++ decimal (length m.router.reach) ++ codes " held=" ++ decimal (length m.router.table.entries)
    ++ codes " running=" ++ yes_no m.running ++ 10 ∷ []

-- the network state hash of a router
abbrev pub hash_line : Name → Member → List ℕ
hash_line name m = codes "hash " ++ name_text name ++ codes " " ++ hex_text m.router.net ++ 10 ∷ []

-- how two routers agree; where their leaves are the same, whether they reach the same identifiers
abbrev pub agreement_text : Agreement → Bool → List ℕ
agreement_text Differ same_ids = codes "net=differ"
agreement_text Same same_ids = codes "net=same ids=" ++ (if same_ids then codes "same" else codes "other")
agreement_text (Collide left right) same_ids = codes "net=collide left=" ++ hex_text left ++ codes " right=" ++ hex_text right

abbrev pub compare_line : Name → Name → Agreement → Bool → List ℕ
compare_line left right agreement same_ids =
    codes "compare " ++ name_text left ++ codes " " ++ name_text right ++ codes " " ++ agreement_text agreement same_ids ++ 10 ∷ []

-- the report on two routers
pub record IsCompareLine (left right : Name) (a b : Member) (line : List ℕ) : Type 0 where
  pub agreement : Agreement
  pub same_ids : Bool
  pub agrees : Agrees (leaves_of a.router) (leaves_of b.router) agreement
  pub ids : IsTrue same_ids ↔ (a.router.reach ≡ b.router.reach)
  pub line_is : line ≡ compare_line left right agreement same_ids

-- how many copies were made, and how many of them wait
abbrev pub mail_line : ℕ → ℕ → List ℕ
mail_line copies waiting = codes "mail copies=" ++ decimal copies ++ codes " waiting=" ++ decimal waiting ++ 10 ∷ []

-- a line on two routers
pub record Compares (left right : Name) (w : Parts) (line : List ℕ) : Type 0 where
  pub a : Member
  pub b : Member
  pub is_left : member_named (name_text left) w ≡ Some a
  pub is_right : member_named (name_text right) w ≡ Some b
  pub is_line : IsCompareLine left right a b line

-- the line on the mail
abbrev pub mail_report : Parts → List ℕ
mail_report w = mail_line (length w.copies) (count_by (λ c. c.waiting) w.copies)
