-- Tests that decide whether values are the same, and what a test says of an option.
use Rattle.hn_base.proofs.Names.{◌≡◌, ◌≢◌, ◌⊎◌, ◌∙◌, ℕ, Bool, true, false, List, Option, Some, None, Ordering, Decides, inl, inr, refl, sym, ap, IsTotalOrder, ◌==◌, ◌&&◌, is_none, nat_eq, option_eq}
use Rattle.hn_base.proofs.Names.{option_or, eq_by_cmp, is_eq, bytes_eq, Equal, cases_Bool, false≢true, Decides-and, Decides-like, Decides-eqb, not_from_Decides, tied_itself, bytes_eq-Decides, IsExact}
use Rattle.hn_base.proofs.AscendingLists.{equal_from_is_eq}
use Rattle.hn_base.specs.Codes.{unless_there}

-- a value that two numbers tell is the same where they are
pub numbers_decide : {A : Type 0} (f g : A → ℕ) → ((a b : A) → f a ≡ f b → g a ≡ g b → a ≡ b) → (a b : A) → Decides (f a == f b && g a == g b) (a ≡ b)
numbers_decide f g told a b =
    Decides-like _
    (λ (same : (f a ≡ f b) × (g a ≡ g b)). told a b same.0 same.1)
    (λ (same : a ≡ b). (ap f same, ap g same))
    (Decides-and _ _ (Decides-eqb (f a) (f b)) (Decides-eqb (g a) (g b)))

pub option_decided : (a b : Option ℕ) → Decides (option_eq nat_eq a b) (a ≡ b)
option_decided None None = (λ _. refl, λ _. refl)
option_decided None (Some y) = (λ is. absurd (false≢true is), λ same. absurd cc)
option_decided (Some x) None = (λ is. absurd (false≢true is), λ same. absurd cc)
option_decided (Some x) (Some y) = Decides-like _ (λ (same : x ≡ y). ap Some same) (λ (same : Some x ≡ Some y). cc) (Decides-eqb x y)

-- two lists of numbers are the same, or not
pub texts_cases : (xs ys : List ℕ) → (xs ≡ ys) ⊎ (xs ≢ ys)
texts_cases xs ys =
    elim (cases_Bool (bytes_eq xs ys)) [
      | inl same ↦ inl ((bytes_eq-Decides xs ys).0 same)
      | inr other ↦ inr (not_from_Decides (bytes_eq xs ys) (bytes_eq-Decides xs ys) other)
    ]

-- a total and exact order decides whether values are the same
pub order_decides : {K : Type 0} (R : K → K → Ordering) → IsTotalOrder R → IsExact R → (a b : K) → Decides (eq_by_cmp R a b) (a ≡ b)
order_decides {K} R total exact a b = (
  λ is. exact a b (equal_from_is_eq (R a b) is),
  λ e. let tied : R b b ≡ Equal = tied_itself total b in
      let turned : R a b ≡ R b b = ap (λ (x : K). R x b) e in
      ap is_eq (turned ∙ tied),
)

-- so by it two values are the same, or not
pub cases_by : {K : Type 0} (R : K → K → Ordering) → IsTotalOrder R → IsExact R → (a b : K) → (a ≡ b) ⊎ (¬ (a ≡ b))
cases_by R total exact a b =
    elim (cases_Bool (eq_by_cmp R a b)) [
      | inl same ↦ inl ((order_decides R total exact a b).0 same)
      | inr other ↦ inr (not_from_Decides (eq_by_cmp R a b) (order_decides R total exact a b) other)
    ]

-- a test does not both hold and fail
pub not_both : (b : Bool) → b ≡ true → b ≡ false → ⊥
not_both b holds fails = false≢true (sym fails ∙ holds)

-- ---- options

pub from_is_none : {A : Type 0} (o : Option A) → is_none o ≡ true → o ≡ None
from_is_none None is = refl
from_is_none (Some x) is = absurd cc

pub neither_given : {A : Type 0} (a b : Option A) → option_or a b ≡ None → (a ≡ None) × (b ≡ None)
neither_given None b none = (refl, none)
neither_given (Some x) b none = absurd cc

-- where no code comes, something is there, and none comes of what is asked of it
pub some_there : {A : Type 0} (code : ℕ) (asked : A → Option ℕ) (o : Option A) → unless_there code asked o ≡ None → (x : A) × (o ≡ Some x) × (asked x ≡ None)
some_there code asked None accepted = absurd cc
some_there code asked (Some x) accepted = (x, refl, accepted)
