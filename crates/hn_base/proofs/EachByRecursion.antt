-- A fact of each element of a list, by recursion on the list.
use Rattle.hn_base.proofs.Names.{ℕ, zero, suc, ◌+◌, ◌<◌, List, [], ◌∷◌, ◌++◌, length, get_or, take, drop, AllByRecursion, take_more}

module _ {A : Type 0} (P : A → Type 0) where
  pub AllByRecursion-append : (xs ys : List A) → AllByRecursion P xs → AllByRecursion P ys → AllByRecursion P (xs ++ ys)
  AllByRecursion-append [] ys h k = k
  AllByRecursion-append (x ∷ xs) ys h k = (h.0, AllByRecursion-append xs ys h.1 k)

  pub AllByRecursion-push : (xs : List A) (x : A) → AllByRecursion P xs → P x → AllByRecursion P (xs ++ x ∷ [])
  AllByRecursion-push xs x h here = AllByRecursion-append xs (x ∷ []) h (here, tt)

  pub AllByRecursion-take : (n : ℕ) (xs : List A) → AllByRecursion P xs → AllByRecursion P (take n xs)
  AllByRecursion-take zero xs h = tt
  AllByRecursion-take (suc n) [] h = tt
  AllByRecursion-take (suc n) (x ∷ xs) h = (h.0, AllByRecursion-take n xs h.1)

  pub AllByRecursion-drop : (n : ℕ) (xs : List A) → AllByRecursion P xs → AllByRecursion P (drop n xs)
  AllByRecursion-drop zero xs h = h
  AllByRecursion-drop (suc n) [] h = tt
  AllByRecursion-drop (suc n) (x ∷ xs) h = AllByRecursion-drop n xs h.1

  -- one element more
  pub AllByRecursion-take_more : (xs : List A) (i : ℕ) (d : A) → i < length xs → P (get_or xs i d) → AllByRecursion P (take i xs) → AllByRecursion P (take (i + 1) xs)
  AllByRecursion-take_more xs i d lt here h = rw (take_more xs i d lt) (AllByRecursion-push (take i xs) (get_or xs i d) h here)

-- a weaker fact
pub AllByRecursion-weaker : {A : Type 0} (P Q : A → Type 0) → ((x : A) → P x → Q x) → (xs : List A) → AllByRecursion P xs → AllByRecursion Q xs
AllByRecursion-weaker P Q weaker [] h = tt
AllByRecursion-weaker P Q weaker (x ∷ xs) h = (weaker x h.0, AllByRecursion-weaker P Q weaker xs h.1)
