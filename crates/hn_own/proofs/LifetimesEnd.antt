-- When valid lifetimes of own delegated prefixes end, and what stays.
use Rattle.hn_base.proofs.Names.{◌≡◌, ◌∙◌, ℕ, ◌≤◌, Bool, true, false, not, List, filter, Contains, Option, Some, None, refl, sym, ap, subst, list_any, leb-true, le-leb}
use Rattle.hn_own.proofs.Names.{OwnPrefix, IsOwnPrefixEnd, has_ended}
use Rattle.hn_base.proofs.Elements.{any_of, any_from, from_filter}
use Rattle.hn_own.specs.Laws.{EndingIsAMoment, NoneEnds}
use Rattle.hn_own.proofs.PrefixLists.{filter_none_passes}

abbrev ends : ℕ → OwnPrefix → Bool
ends now own = has_ended now own.valid_until

from_moment : (now : ℕ) (own : OwnPrefix) (until : Option ℕ) → own.valid_until ≡ until → has_ended now until ≡ true → (m : ℕ) × IsOwnPrefixEnd own m × (m ≤ now)
from_moment now own None is passes = absurd cc
from_moment now own (Some end) is passes = (end, is, leb-true end now passes)

at_moment : (now m : ℕ) (own : OwnPrefix) → IsOwnPrefixEnd own m → m ≤ now → ends now own ≡ true
at_moment now m own is past = ap (has_ended now) is ∙ le-leb m now past

pub ended_from : EndingIsAMoment
ended_from now list = (
  λ some.
      let found = any_of (ends now) list some in
      let from = from_moment now found.0 found.0.valid_until refl found.2 in
      (from.0, (found.0, found.1, from.1), from.2),
  λ (m, (own, there, from), past). any_from (ends now) list own there (at_moment now m own from past),
)

none_ended : (now : ℕ) (list : List OwnPrefix) → filter (λ own. not (ends now own)) list ≡ list → (b : Bool) → list_any (ends now) list ≡ b → b ≡ false
none_ended now list same false is = refl
none_ended now list same true is =
    let found = any_of (ends now) list is in
    let kept = from_filter (λ (own : OwnPrefix). not (ends now own)) list found.0 (subst (λ (xs : List OwnPrefix). Contains xs found.0) (sym same) found.1) in
    let clash : not true ≡ true = sym (ap not found.2) ∙ kept.1 in
    absurd cc

pub none_ends : NoneEnds
none_ends now list = (
  λ same. none_ended now list same (list_any (ends now) list) refl,
  λ none. filter_none_passes (ends now) list none,
)
