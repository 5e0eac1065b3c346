-- Texts of several things, one after another.
use Rattle.hn_base.proofs.Names.{◌≡◌, ◌↔◌, ◌∙◌, ◌+◌, ◌<◌, ◌≤◌, ℕ, Bool, true, false, List, [], ◌∷◌, ◌++◌, length, take, get_or, Contains, refl, sym, ap, subst, append_assoc, take_more, take_all}
use Rattle.hn_base.proofs.Names.{filter-append}
use Rattle.hn_table.proofs.Names.{HasDelegation, Delegation, InOrder, Adds}
use Rattle.std.proofs.Common.{append-nil}
use Rattle.std.specs.List.{filter}
use Rattle.hn_data.specs.Delegations.{HasDelegations}
use Rattle.hn_table.specs.Delegated.{AreSaidLines}

-- the first elements, and one more
front_more : {A : Type 0} (xs : List A) (i : ℕ) (x : A) → i < length xs → x ≡ get_or xs i x → take i xs ++ x ∷ [] ≡ take (i + 1) xs
front_more xs i x within is = ap (λ y. take i xs ++ y ∷ []) is ∙ sym (take_more xs i x within)

module _ {A : Type 0} (Shows : A → List ℕ → Type 0) where
  order_pushed : (xs : List A) (x : A) (a b : List ℕ) → InOrder Shows xs a → Shows x b → InOrder Shows (xs ++ x ∷ []) (a ++ b)
  order_pushed [] x a b h k = (b, [], k, refl, ap (λ ys. ys ++ b) h ∙ sym (append-nil b))
  order_pushed (y ∷ xs) x a b h k = (h.0, h.1 ++ b, h.2, order_pushed xs x h.1 b h.3 k, ap (λ ys. ys ++ b) h.4 ∙ append_assoc h.0 h.1 b)

  adds_pushed : (xs : List A) (x : A) (before so_far now : List ℕ) → Adds (InOrder Shows xs) before so_far → Adds (Shows x) so_far now → Adds (InOrder Shows (xs ++ x ∷ [])) before now
  adds_pushed xs x before so_far now h k = record {
    added = h.added ++ k.added;
    is_added = order_pushed xs x h.added k.added h.is_added k.is_added;
    after_is = k.after_is ∙ ap (λ ys. ys ++ k.added) h.after_is ∙ append_assoc before h.added k.added;
  }

  -- one more, and all, as a `for` goes over a slice
  pub adds_more : (xs : List A) (i : ℕ) (x : A) (before so_far now : List ℕ) → i < length xs → x ≡ get_or xs i x → Adds (InOrder Shows (take i xs)) before so_far → Adds (Shows x) so_far now
      → Adds (InOrder Shows (take (i + 1) xs)) before now
  adds_more xs i x before so_far now within is h k =
      subst (λ (ys : List A). Adds (InOrder Shows ys) before now) (front_more xs i x within is) (adds_pushed (take i xs) x before so_far now h k)

  pub adds_all : (xs : List A) (i : ℕ) (before now : List ℕ) → length xs ≤ i → Adds (InOrder Shows (take i xs)) before now → Adds (InOrder Shows xs) before now
  adds_all xs i before now past h = subst (λ (ys : List A). Adds (InOrder Shows ys) before now) (take_all i xs past) h

  -- the same of those that pass a test
  pub adds_kept : (p : A → Bool) (xs : List A) (i : ℕ) (x : A) (before so_far now : List ℕ) → i < length xs → x ≡ get_or xs i x → p x ≡ true
      → Adds (InOrder Shows (filter p (take i xs))) before so_far → Adds (Shows x) so_far now → Adds (InOrder Shows (filter p (take (i + 1) xs))) before now
  adds_kept p xs i x before so_far now within is passes h k =
      let front : filter p (take i xs) ++ x ∷ [] ≡ filter p (take (i + 1) xs) = rw (← front_more xs i x within is, filter-append p (take i xs) (x ∷ []), passes) refl in
      subst (λ (ys : List A). Adds (InOrder Shows ys) before now) front (adds_pushed (filter p (take i xs)) x before so_far now h k)

  pub adds_left : (p : A → Bool) (xs : List A) (i : ℕ) (x : A) (before so_far : List ℕ) → i < length xs → x ≡ get_or xs i x → p x ≡ false
      → Adds (InOrder Shows (filter p (take i xs))) before so_far → Adds (InOrder Shows (filter p (take (i + 1) xs))) before so_far
  adds_left p xs i x before so_far within is fails h =
      let front : filter p (take i xs) ≡ filter p (take (i + 1) xs) = rw (← front_more xs i x within is, filter-append p (take i xs) (x ∷ []), fails) (sym (append-nil _)) in
      subst (λ (ys : List A). Adds (InOrder Shows ys) before so_far) front h

-- the lines of the delegated prefixes that node data have, where these are all of them
pub adds_said : (IsLine : Delegation → List ℕ → Type 0) (body : List ℕ) (said : List Delegation) → HasDelegations body said
    → ((d : Delegation) → Contains said d ↔ HasDelegation body d) → (before now : List ℕ)
    → Adds (InOrder IsLine said) before now → Adds (AreSaidLines IsLine body) before now
adds_said IsLine body said are exact before now h = record {
  added = h.added;
  is_added = record { said = said; are_said = are; exact = exact; lines = h.is_added };
  after_is = h.after_is;
}
