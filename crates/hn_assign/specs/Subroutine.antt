-- The assignment subroutine over all pairs (RFC 7695, section 4.1).
use Rattle.std.specs.Prelude.{◌≡◌, ℕ, List, [], ◌∷◌, map}
use Rattle.hn_data.specs.View.{PlainView}
use Rattle.hn_pair.specs.declared.assigned.Wish.{Wish}
use Rattle.hn_pair.specs.declared.held.Held.{Held}
use Rattle.hn_assign.specs.declared.ran.Ran.{Ran}
use Rattle.hn_pair.specs.Marks.{marked_applied}
use Rattle.hn_pair.specs.Pair.{assigned_pair, backoff_pair, KeepsWished}
use Rattle.hn_assign.specs.Step.{IsPairStep}

-- at its begin the assignments and backoffs of pairs without a wish are destroyed, and no word is taken
pub record IsBegun (wishes : List Wish) (held : Held) (ran : Ran) : Type 0 where
  pub assigned : KeepsWished assigned_pair wishes held.assigned ran.held.assigned
  pub backoffs : KeepsWished backoff_pair wishes held.backoffs ran.held.backoffs
  pub took : ran.words ≡ []

-- pair after pair, in the order of the wishes, each sees the changes of those before it
abbrev pub AreSteps : PlainView → List Wish → Ran → Ran → Type 0
AreSteps view [] before after = after ≡ before
AreSteps view (wish ∷ wishes) before after =
    (between : Ran) × (words : List ℕ) × IsPairStep view wish words before between × AreSteps view wishes between after

-- with marks of application
abbrev pub with_marks : ℕ → Ran → Ran
with_marks now ran = record ran { held = record ran.held { assigned = map (marked_applied now) ran.held.assigned } }

-- the subroutine
pub record IsSubroutine (view : PlainView) (wishes : List Wish) (held : Held) (ran : Ran) : Type 0 where
  pub begun : Ran
  pub is_begun : IsBegun wishes held begun
  pub last : Ran
  pub steps : AreSteps view wishes begun last
  pub marks : ran ≡ with_marks view.now last
