-- Why a router is not settled, or not quiet.
use Rattle.std.specs.Prelude.{◌≡◌, ◌⊎◌, ℕ, List, [], ◌∷◌, ◌++◌, codes, Some}
use Rattle.hn_audit.specs.FirstWitness.{IsFirstUnsettled, IsFirstUnquiet}
use Rattle.hn_audit.specs.Quiet.{IsQuietByRules}
use Rattle.hn_audit.specs.Settled.{IsSettledByRules}
use Rattle.hn_audit.specs.Witness.{Refutes, Disturbs}
use Rattle.hn_audit.specs.declared.witness.Unquiet.{Unquiet}
use Rattle.hn_audit.specs.declared.witness.Unsettled.{Unsettled}
use Rattle.hn_world.specs.Names.{member_named}
use Rattle.hn_world.specs.declared.member.Member.{Member}
use Rattle.hn_world.specs.declared.parts.Parts.{Parts}
use Rattle.hn_why.specs.Unquiet.{unquiet_words, unquiet_sentence}
use Rattle.hn_why.specs.Unsettled.{unsettled_words, unsettled_sentence}

-- the text on a router that is settled and quiet, on one that is not quiet, and on one that is not settled
abbrev pub quiet_text : List ℕ → List ℕ
quiet_text name =
    codes "why " ++ name ++ codes " settled=yes quiet=yes" ++ 10 ∷ (name
    ++ codes " is settled and quiet: all that it reaches agree, and no assignment would change." ++ 10 ∷ [])

abbrev pub unquiet_text : List ℕ → Unquiet → List ℕ
unquiet_text name why =
    codes "why " ++ name ++ codes " settled=yes quiet=no cause=" ++ unquiet_words why ++ 10 ∷ unquiet_sentence why

abbrev pub unsettled_text : List ℕ → Parts → Unsettled → List ℕ
unsettled_text name w why =
    codes "why " ++ name ++ codes " settled=no cause=" ++ unsettled_words w why ++ 10 ∷ unsettled_sentence name w why

-- r, which has this name, is settled and quiet
pub record IsQuietSo (name : List ℕ) (w : Parts) (r : Member) (text : List ℕ) : Type 0 where
  pub settled : IsSettledByRules w r
  pub quiet : IsQuietByRules w r
  pub text_is : text ≡ quiet_text name

-- it is settled, and not quiet: a witness disturbs it, the first in the order of the definition
pub record IsUnquietSo (name : List ℕ) (w : Parts) (r : Member) (text : List ℕ) : Type 0 where
  pub settled : IsSettledByRules w r
  pub unquiet : ¬ IsQuietByRules w r
  pub why : Unquiet
  pub disturbs : Disturbs w r why
  pub first : IsFirstUnquiet w r (Some why)
  pub text_is : text ≡ unquiet_text name why

-- it is not settled: a witness refutes it, the first in the order of the definition
pub record IsUnsettledSo (name : List ℕ) (w : Parts) (r : Member) (text : List ℕ) : Type 0 where
  pub unsettled : ¬ IsSettledByRules w r
  pub why : Unsettled
  pub refutes : Refutes w r why
  pub first : IsFirstUnsettled w r (Some why)
  pub text_is : text ≡ unsettled_text name w why

-- what is said of the router of this name
abbrev pub IsWhy : List ℕ → Parts → List ℕ → Type 0
IsWhy name w text =
    (r : Member) × (member_named name w ≡ Some r)
    × (IsQuietSo name w r text ⊎ (IsUnquietSo name w r text ⊎ IsUnsettledSo name w r text))
