-- What is known of a result.
use Rattle.hn_base.proofs.Names.{◌≡◌, ◌↔◌, Result, Ok, Err, MatchResult, refl, sym, ap, subst, ◌∙◌, IsErr, OnErr}
use Rattle.std.proofs.Common.{IfOk}
use Rattle.std.specs.Prelude.{IsOk}

pub not_ok : {A E : Type 0} (e : E) (x : A) → Err e ≡ Ok x → ⊥
not_ok e x same = absurd cc

pub same_ok : {A E : Type 0} (x y : A) → ◌≡◌ {A = Result A E} (Ok x) (Ok y) → x ≡ y
same_ok x y same = cc

pub same_error : {A E : Type 0} (x y : E) → ◌≡◌ {A = Result A E} (Err x) (Err y) → x ≡ y
same_error x y same = cc

-- two values of one result
pub one_value : {A E : Type 0} (r : Result A E) (x y : A) → r ≡ Ok x → r ≡ Ok y → x ≡ y
one_value r x y p q = cc

pub no_error : {A E : Type 0} (r : Result A E) (x : A) → r ≡ Ok x → IsErr r → ⊥
no_error (Ok y) x same err = cc
no_error (Err e) x same err = cc

-- a result that is `Ok` has the value that its clause says
pub ok_with : {A E : Type 0} (r : Result A E) (x y : A) → IsOk r → IfOk r (λ v. v ≡ x) → x ≡ y → r ≡ Ok y
ok_with (Ok v) x y ok is same = ap Ok (is ∙ same)
ok_with (Err e) x y ok is same = absurd cc

-- two facts of one value
pub ok_both : {X E : Type 0} (r : Result X E) (P Q R : X → Type 0) → ((x : X) → P x → Q x → R x) → IfOk r P → IfOk r Q → IfOk r R
ok_both (Ok x) P Q R weaker h k = weaker x h k
ok_both (Err e) P Q R weaker h k = tt

-- a result is `Ok` where a fact holds that each error denies
pub ok_where : {A E : Type 0} (r : Result A E) (P : A → Type 0) (Q : E → Type 0) (U : Type 0) → MatchResult r P (λ e. ¬ U × Q e) → U → IsOk r
ok_where (Ok x) P Q U cases holds = refl
ok_where (Err e) P Q U cases holds = absurd (cases.0 holds)

-- what holds after each answer holds after an error
pub on_err : {T E : Type 0} (r : Result T E) (P : Type 0) → P → OnErr r P
on_err (Ok x) P holds = tt
on_err (Err e) P holds = holds

-- which faults of a kind a result tells, where at most one is so
module _ {X E F : Type 0} (wrap : F → E) (P : F → Type 0) where
  pub tells_fault : ((f g : F) → wrap f ≡ wrap g → f ≡ g) → ((f g : F) → P f → P g → f ≡ g) → (r : Result X E) (f : F) → r ≡ Err (wrap f) → P f → (g : F) → (r ≡ Err (wrap g)) ↔ P g
  tells_fault apart one r f answer is g = (
    λ e. subst P (apart f g (same_error {A = X} (wrap f) (wrap g) (sym answer ∙ e))) is,
    λ other. answer ∙ ap (λ h. Err (wrap h)) (one f g is other),
  )

  pub tells_none : (r : Result X E) → ((g : F) → ¬ (r ≡ Err (wrap g))) → ((g : F) → ¬ P g) → (g : F) → (r ≡ Err (wrap g)) ↔ P g
  tells_none r untold none g = (λ e. absurd (untold g e), λ is. absurd (none g is))

-- the same of a result that passes on what a check found, where the check finds each fault that is so
module _ {X Y E F : Type 0} (wrap : F → E) (P : F → Type 0) where
  pub tells_passed : ((f g : F) → wrap f ≡ wrap g → f ≡ g) → (r : Result X E) (f : F) → r ≡ Err (wrap f) → P f
      → ((g : F) → P g → ◌≡◌ {A = Result Y F} (Err f) (Err g)) → (g : F) → (r ≡ Err (wrap g)) ↔ P g
  tells_passed apart r f answer is finds g = tells_fault wrap P apart (λ a b p q. same_error {A = Y} a b (sym (finds a p) ∙ finds b q)) r f answer is g

  -- and of one that tells none of them, where the check found none
  pub tells_unfound : (r : Result X E) (y : Y) → ((g : F) → ¬ (r ≡ Err (wrap g))) → ((g : F) → P g → ◌≡◌ {A = Result Y F} (Ok y) (Err g)) → (g : F) → (r ≡ Err (wrap g)) ↔ P g
  tells_unfound r y untold finds = tells_none wrap P r untold (λ g is. not_ok g y (sym (finds g is)))
