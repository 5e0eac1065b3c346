-- Claims and the hashes that they are of.
use Rattle.hn_base.proofs.Names.{◌≡◌, ◌≢◌, ◌∙◌, ◌↔◌, ◌⊎◌, ℕ, Bool, false, not, List, [], ◌∷◌, ◌++◌, Some, None, IsTrue, Any, refl, sym, subst, inl, inr, arith, length-append, pointwise, bytes_decides}
use Rattle.hn_base.proofs.Names.{or_cases, or_left, or_right, not-true, not_from_false, false_from_ne_true, both_ways, false≢true, Contains-push_cases, get_or_append_left}
use Rattle.hn_watch.proofs.Names.{◌||◌, nat_eq, nothing_in, Claim, IsClaimOf}
use Rattle.std.proofs.lemmas.List.Quantifiers.{Any-push}

-- an element with a fact is still there with one more
any_more : {X : Type 0} (P : X → Type 0) (xs : List X) (y : X) → Any P xs → Any P (xs ++ y ∷ [])
any_more P xs y (k, x, lt, at, is) = (k, x, omega (arith, length-append xs (y ∷ [])), get_or_append_left xs (y ∷ []) x k lt ∙ at, is)

any_cases : {X : Type 0} (P : X → Type 0) (xs : List X) (y : X) → Any P (xs ++ y ∷ []) → Any P xs ⊎ P y
any_cases P xs y (k, x, lt, at, is) =
    elim (Contains-push_cases xs y x (k, lt, at)) [ inl h ↦ inl (h.0, x, h.1, h.2, is) | inr e ↦ inr (subst P (sym e) is) ]

-- whether hashes differ
differs : (hash other : List ℕ) → IsTrue (not (pointwise nat_eq hash other)) ↔ (other ≢ hash)
differs hash other = (
  λ is same. both_ways (pointwise nat_eq hash other) (not-true _ is) ((bytes_decides hash other).1 (sym same)),
  λ apart. not_from_false _ (false_from_ne_true _ (λ is. apart (sym ((bytes_decides hash other).0 is)))),
)

pub claim_first : (hashes : List (List ℕ)) (hash : List ℕ) → IsClaimOf hashes None → IsClaimOf (hashes ++ hash ∷ []) (Some (record { hash = hash; differs = false }))
claim_first [] hash is = (refl, (λ h. absurd (false≢true h), λ any. absurd (nothing_in any.1 (any.0, any.2, any.3))))
claim_first (first ∷ more) hash is = absurd is

pub claim_more : (hashes : List (List ℕ)) (hash : List ℕ) (claim : Claim) (told : Bool) → told ≡ (claim.differs || not (pointwise nat_eq claim.hash hash)) → IsClaimOf hashes (Some claim)
    → IsClaimOf (hashes ++ hash ∷ []) (Some (record { hash = claim.hash; differs = told }))
claim_more [] hash claim told e is = absurd is
claim_more (first ∷ more) hash claim told e is =
    let apart = differs claim.hash hash in
    let P : List ℕ → Type 0 = λ other. other ≢ first in (
      is.0,
      (
        λ t. elim (or_cases claim.differs (not (pointwise nat_eq claim.hash hash)) (sym e ∙ t)) [
          | inl d ↦ any_more P more hash (is.1.0 d)
          | inr d ↦ Any-push P more hash (λ same. apart.0 d (same ∙ sym is.0))
        ],
        λ any. e ∙ elim (any_cases P more hash any) [
          | inl d ↦ or_left claim.differs _ (is.1.1 d)
          | inr d ↦ or_right claim.differs _ (apart.1 (λ same. d (same ∙ is.0)))
        ],
      ),
    )
