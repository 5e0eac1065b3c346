-- Two lists that become one: what is added of the first, and what is left of the second.
use Rattle.hn_base.proofs.Names.{◌≡◌, ◌↔◌, ◌⊎◌, ◌∙◌, ℕ, ◌+◌, ◌<◌, ◌≤◌, suc, List, [], ◌∷◌, ◌++◌, length, drop, get_or, Contains, sym, ap, subst, inl, inr, ⊎_elim, arith, append_assoc, add-one, drop-cons, drop_all}
use Rattle.hn_base.proofs.Names.{Contains-push, Contains-push_cases, Contains-append_left, Contains-append_right, Contains-append_cases}
use Rattle.hn_base.specs.declared.ids.NodeId.{NodeId}
use Rattle.hn_assign.specs.Renewed.{IsOfUnchanged}
use Rattle.hn_assign.specs.declared.advertised.Advertised.{Advertised}

-- the first one that is left is added
pub moved_more : (all rest both : List Advertised) (i : ℕ) (a : Advertised) → i < length rest → a ≡ get_or rest i a → all ++ drop i rest ≡ both → (all ++ a ∷ []) ++ drop (i + 1) rest ≡ both
moved_more all rest both i a within is so_far =
    rw (add-one, append_assoc all (a ∷ []) (drop (suc i) rest))
    (ap (λ x. all ++ x ∷ drop (suc i) rest) is ∙ ap (λ xs. all ++ xs) (sym (drop-cons rest i a within)) ∙ so_far)

-- none is left
pub moved_all : (all rest both : List Advertised) (i : ℕ) → length rest ≤ i → all ++ drop i rest ≡ both → all ++ drop (length rest) rest ≡ both
moved_all all rest both i over so_far = ap (λ xs. all ++ xs) (drop_all (length rest) rest (omega arith) ∙ sym (drop_all i rest over)) ∙ so_far

-- what a changed node said is not added
pub none_added : (changed : List NodeId) (both : List Advertised) (a x : Advertised) → Contains changed a.key.node → Contains both x ↔ (Contains both x ⊎ IsOfUnchanged changed a x)
none_added changed both a x among = (
  λ h. inl h,
  ⊎_elim (λ h. h) (λ u. absurd (u.node (subst (λ (y : Advertised). Contains changed y.key.node) u.is among))),
)

-- what an unchanged node says is put between
pub one_added : (changed : List NodeId) (all rest both : List Advertised) (a x : Advertised) → all ++ rest ≡ both → ¬ (Contains changed a.key.node)
    → Contains ((all ++ a ∷ []) ++ rest) x ↔ (Contains both x ⊎ IsOfUnchanged changed a x)
one_added changed all rest both a x is not = (there, back)
  where
    there : Contains ((all ++ a ∷ []) ++ rest) x → Contains both x ⊎ IsOfUnchanged changed a x
    there h = ⊎_elim
        (λ (front : Contains (all ++ a ∷ []) x). ⊎_elim
        (λ (old : Contains all x). inl (subst (λ (xs : List Advertised). Contains xs x) is (Contains-append_left all rest x old)))
        (λ (new : a ≡ x). inr (record { is = new; node = subst (λ (y : Advertised). ¬ (Contains changed y.key.node)) new not }))
        (Contains-push_cases all a x front))
        (λ (left : Contains rest x). inl (subst (λ (xs : List Advertised). Contains xs x) is (Contains-append_right all rest x left)))
        (Contains-append_cases (all ++ a ∷ []) rest x h)

    back : Contains both x ⊎ IsOfUnchanged changed a x → Contains ((all ++ a ∷ []) ++ rest) x
    back (inl h) = ⊎_elim
        (λ (old : Contains all x). Contains-append_left (all ++ a ∷ []) rest x (Contains-append_left all (a ∷ []) x old))
        (λ (left : Contains rest x). Contains-append_right (all ++ a ∷ []) rest x left)
        (Contains-append_cases all rest x (subst (λ (xs : List Advertised). Contains xs x) (sym is) h))
    back (inr u) = subst (Contains ((all ++ a ∷ []) ++ rest)) u.is (Contains-append_left (all ++ a ∷ []) rest a (Contains-push all a))
