-- A list that grows by what belongs to the elements that a loop goes over.
use Rattle.hn_base.proofs.Names.{◌≡◌, ◌↔◌, ◌⊎◌, ℕ, ◌+◌, ◌<◌, List, [], ◌∷◌, ◌++◌, length, take, get_or, Contains, sym, subst, inl, inr, ⊎_elim, arith, Contains-push, Contains-push_cases}
use Rattle.hn_base.proofs.Names.{Contains-append_left}
use Rattle.hn_assign.proofs.Names.{front_more}

module _ {A B : Type 0} (belongs : B → A → Type 0) where
  -- what belongs to some element of a list
  abbrev pub Of : List B → A → Type 0
  Of seen a = (b : B) × Contains seen b × belongs b a

  -- the list has what it had, and what belongs to the elements seen
  abbrev pub Grown : List A → List B → List A → Type 0
  Grown old seen now = (a : A) → Contains now a ↔ (Contains old a ⊎ Of seen a)

  pub grown_none : (old : List A) → Grown old [] old
  grown_none old a = (λ h. inl h, ⊎_elim (λ h. h) (λ h. absurd (omega (arith, h.1.1))))

  -- one element more
  pub grown_more : (old now after : List A) (xs : List B) (i : ℕ) (x : B)
      → i < length xs → x ≡ get_or xs i x → Grown old (take i xs) now → ((a : A) → Contains after a ↔ (Contains now a ⊎ belongs x a)) → Grown old (take (i + 1) xs) after
  grown_more old now after xs i x within is so_far adds a =
      subst (λ (seen : List B). Contains after a ↔ (Contains old a ⊎ Of seen a)) (sym (front_more xs i x within is)) (there, back)
    where
      earlier : (b : B) → Contains (take i xs) b → Contains (take i xs ++ x ∷ []) b
      earlier b h = Contains-append_left (take i xs) (x ∷ []) b h

      there : Contains after a → Contains old a ⊎ Of (take i xs ++ x ∷ []) a
      there h = ⊎_elim (λ n. ⊎_elim (λ o. inl o) (λ s. inr (s.0, earlier s.0 s.1, s.2)) ((so_far a).0 n)) (λ b. inr (x, Contains-push (take i xs) x, b)) ((adds a).0 h)

      back : Contains old a ⊎ Of (take i xs ++ x ∷ []) a → Contains after a
      back (inl o) = (adds a).1 (inl ((so_far a).1 (inl o)))
      back (inr s) = ⊎_elim (λ e. (adds a).1 (inl ((so_far a).1 (inr (s.0, e, s.2))))) (λ e. (adds a).1 (inr (subst (λ (b : B). belongs b a) (sym e) s.2))) (Contains-push_cases (take i xs) x s.0 s.1)

-- what a push adds
pub push_adds : {A : Type 0} (now : List A) (x a : A) → Contains (now ++ x ∷ []) a ↔ (Contains now a ⊎ (x ≡ a))
push_adds now x a = (Contains-push_cases now x a, ⊎_elim (Contains-append_left now (x ∷ []) a) (λ e. subst (Contains (now ++ x ∷ [])) e (Contains-push now x)))
