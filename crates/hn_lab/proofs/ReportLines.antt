-- The lines of a report on a router.
use Rattle.hn_base.proofs.Names.{◌≡◌, ℕ, List, [], ◌∷◌, Result, sym, subst, IfOk, IfOk-weaker}
use Rattle.hn_lab.proofs.Names.{Name, Member, Parts, About, IsAbout, IsOneLine}

-- a report on a router of one line
pub told_line : {E : Type 0} (what same : About) (name : Name) (w : Parts) (m : Member) (P : List ℕ → Type 0) (line : List ℕ) (r : Result (List (List ℕ)) E) → what ≡ same
    → ((lines : List (List ℕ)) → IsOneLine P lines → IsAbout same name w m lines) → P line → IfOk r (λ lines. lines ≡ line ∷ []) → IfOk r (IsAbout what name w m)
told_line what same name w m P line r is so told one =
    subst (λ (a : About). IfOk r (IsAbout a name w m)) (sym is) (IfOk-weaker r (λ lines. lines ≡ line ∷ []) (IsAbout same name w m) (λ lines are. so lines (line, told, are)) one)

-- and one of several
pub told_lines : {E : Type 0} (what same : About) (name : Name) (w : Parts) (m : Member) (r : Result (List (List ℕ)) E) → what ≡ same
    → IfOk r (IsAbout same name w m) → IfOk r (IsAbout what name w m)
told_lines what same name w m r is told = subst (λ (a : About). IfOk r (IsAbout a name w m)) (sym is) told
