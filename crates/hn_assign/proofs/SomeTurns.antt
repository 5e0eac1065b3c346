-- A turn of a pair cannot be missing, whatever the next word is.
use Rattle.hn_base.proofs.Names.{◌≡◌, ◌⊎◌, ℕ, ◌≤◌, ◌%◌, IsTrue, cond, List, [], ◌∷◌, ◌++◌, Option, None, Some, IfSome, refl, sym, subst, append_assoc, inl, inr, arith, is_lt, cases_lt, append-nil}
use Rattle.hn_base.proofs.Names.{PlainPrefix, IsPrefix, IsWithin, Some! }
use Rattle.hn_assign.proofs.Names.{nothing_in, FreeOrFull, InsideAreSubPrefixes, some_is, some_then, Advertised, Assigned, Backoff, Pair, Slot, LinkEndpoints, advertised_cmp, IsBestIfAny, IfValid}
use Rattle.hn_assign.proofs.Names.{IsAhead, IsLine, IsPairTurn, assigned_pair, backoff_pair, wish_pair, PlainScene, IsValidFor, IsFreeFor, HasNoFreeFor, IsFirstFreeFor, new_assigned, HasNothingToDo}
use Rattle.hn_assign.proofs.Names.{backoff_after}
use Rattle.hn_prefix.specs.Laws.{IsFirstFreeIfAny}
use Rattle.hn_base.proofs.SomeExists.{some_by}
use Rattle.hn_assign.specs.Lines.{following}
use Rattle.hn_assign.proofs.Bests.{IsEligible, best_passed, best_candidate}
use Rattle.hn_assign.proofs.FreePrefixes.{prefixes, found_free, none_free, none_in_longer}
use Rattle.hn_assign.proofs.OneResult.{Turned}

-- a prefix within another is at least as long
abbrev pub WithinIsNotShorter : Type 0
WithinIsNotShorter = (p q : PlainPrefix) → IsPrefix p → IsPrefix q → IsWithin p q → q.len ≤ p.len

-- ---- the best prefix

module _ (own : ℕ) (common : LinkEndpoints) (d : PlainPrefix) where
  one_more : (xs : List Advertised) (x : Advertised) (best : Option Advertised) → IsBestIfAny xs own common d best → Some! (IsBestIfAny (xs ++ x ∷ []) own common d)
  one_more xs x best is = some_by (IsEligible own common d x) (by_best best is) (λ not none. none best (best_passed own common d xs x best is not))
    where
      by_best : (best : Option Advertised) → IsBestIfAny xs own common d best → IsEligible own common d x → Some! (IsBestIfAny (xs ++ x ∷ []) own common d)
      by_best None is may none = none (Some x) (best_candidate own common d xs x None x is may refl)
      by_best (Some b) is may none = let greater = cond (is_lt (advertised_cmp x b)) b x in none (Some greater) (best_candidate own common d xs x (Some b) greater is may refl)

  some_more : (xs ys : List Advertised) (best : Option Advertised) → IsBestIfAny xs own common d best → Some! (IsBestIfAny (xs ++ ys) own common d)
  some_more xs [] best is = some_is (IsBestIfAny (xs ++ []) own common d) best (subst (λ (zs : List Advertised). IsBestIfAny zs own common d best) (sym (append-nil xs)) is)
  some_more xs (y ∷ ys) best is =
      some_then (one_more xs y best is) (λ better has. subst (λ (zs : List Advertised). Some! (IsBestIfAny zs own common d)) (append_assoc xs (y ∷ []) ys) (some_more (xs ++ y ∷ []) ys better has))

  pub some_best : (adv : List Advertised) → Some! (IsBestIfAny adv own common d)
  some_best adv = some_more [] adv None (λ a h. nothing_in a h.advertised)

-- ---- the lines of the table

-- what a pair has is of the pair
pub record IsOfPair (pair : Pair) (slot : Slot) : Type 0 where
  pub assigned : IfSome slot.assigned (λ c. assigned_pair c ≡ pair)
  pub backoff : IfSome slot.backoff (λ b. backoff_pair b ≡ pair)

-- no word, or this one
abbrev pub IsUpTo : ℕ → List ℕ → Type 0
IsUpTo word words = (words ≡ []) ⊎ (words ≡ word ∷ [])

module _ (at : PlainScene) (word : ℕ) where
  abbrev own_pair : Pair
  own_pair = wish_pair at.wish

  -- some line gives this, with no word or the next one
  record Gives (best : Option Advertised) (before : Slot) (t : Turned) : Type 0 where
    line : IsLine at best before.assigned before t.1 t.0
    words : IsUpTo word t.1
    of_pair : IsOfPair own_pair t.0

  abbrev slot : Option Assigned → Option Backoff → Slot
  slot c b = record { assigned = c; backoff = b }

  -- a line that takes no word
  quiet : (best : Option Advertised) (c : Option Assigned) (b : Option Backoff) (after : Slot) → IsOfPair own_pair after → IsLine at best c (slot c b) [] after → Some! (Gives best (slot c b))
  quiet best c b after of line none = none (after, []) (record { line = line; words = inl refl; of_pair = of })

  some_if_valid : (c : Assigned) (valid before : Slot) → IsOfPair own_pair valid → IsOfPair own_pair before → Some! (λ (after : Slot). IfValid at c valid before after × IsOfPair own_pair after)
  some_if_valid c valid before of_valid of_before =
      some_by (IsValidFor at c) (λ is none. none valid (inl (is, refl), of_valid))
      (λ not none. none (record before { assigned = None }) (inr (not, refl), record { assigned = tt; backoff = of_before.backoff }))

  -- no best prefix and an assignment
  some_alone : (c : Assigned) (b : Option Backoff) → IsOfPair own_pair (slot (Some c) b) → Some! (Gives None (slot (Some c) b))
  some_alone c b of = by_published c.published refl
    where
      by_published : (p : Option ℕ) → c.published ≡ p → Some! (Gives None (slot (Some c) b))
      by_published (Some p) is =
          some_then (some_if_valid c (slot (Some c) b) (slot (Some c) b) of of) (λ after gives.
          quiet None (Some c) b after gives.1 (inl (record { published = (p, is); gives = gives.0 }), refl))
      by_published None is =
          some_then (some_if_valid c (slot (Some (record c { published = Some 2 })) b) (slot (Some c) b) (record { assigned = of.assigned; backoff = of.backoff }) of) (λ after gives.
          quiet None (Some c) b after gives.1 (inr (record { unpublished = is; gives = gives.0 }), refl))

  -- a best prefix and an assignment
  some_beside : (best : Advertised) (c : Assigned) (b : Option Backoff) → IsOfPair own_pair (slot (Some c) b) → Some! (Gives (Some best) (slot (Some c) b))
  some_beside best c b of =
      some_by (IsAhead at best c)
      (λ ahead. some_then (some_if_valid c (slot (Some c) b) (slot (Some c) b) of of) (λ after gives.
      quiet (Some best) (Some c) b after gives.1 (inl (record { ahead = ahead; gives = gives.0 }), refl)))
      (λ not_ahead. some_by (c.prefix ≡ best.prefix)
      (λ same. quiet (Some best) (Some c) b (slot (Some (record c { published = None })) b) (record { assigned = of.assigned; backoff = of.backoff })
      (inr (inl (record { not_ahead = not_ahead; same = same; gives = refl })), refl))
      (λ other. quiet (Some best) (Some c) b (following at best) (record { assigned = refl; backoff = tt })
      (inr (inr (record { not_ahead = not_ahead; other = other; gives = refl })), refl)))

  -- ---- the first line

  -- a first free prefix, or none
  abbrev IsFreeIfAny : Option PlainPrefix → Type 0
  IsFreeIfAny None = HasNoFreeFor at
  IsFreeIfAny (Some p) = IsFreeFor at p × IsFirstFreeFor at word p

  left : (b : Option Backoff) → HasNothingToDo at → Some! (Gives None (slot None b))
  left b nothing = quiet None None b (slot None None) (record { assigned = tt; backoff = tt }) (inl (record { nothing_to_do = nothing; gives = refl; took = refl }))

  by_backoff : (b : Option Backoff) (p : PlainPrefix) → IsOfPair own_pair (slot None b) → IsTrue at.wish.wanted → IsFreeFor at p → IsFirstFreeFor at word p → Some! (Gives None (slot None b))
  by_backoff None p of wanted free first none = none (slot None (Some (backoff_after at (word % 4001))), word ∷ []) (record {
    line = inr (inl (record { may = record { wanted = wanted; prefix = p; free = free }; none = refl; word = word; gives = refl; took = refl }));
    words = inr refl;
    of_pair = record { assigned = tt; backoff = refl };
  })
  by_backoff (Some b) p of wanted free first none =
      elim (cases_lt at.now b.due) [
        | inl before ↦ none (slot None (Some b), []) (record {
          line = inr (inr (inl (record { may = record { wanted = wanted; prefix = p; free = free }; backoff = b; is = refl; not_due = before; gives = refl; took = refl })));
          words = inl refl;
          of_pair = of;
        })
        | inr due ↦ none (slot (Some (new_assigned at p (Some 2))) None, word ∷ []) (record {
          line = inr (inr (inr (record { wanted = wanted; backoff = b; is = refl; due = due; word = word; prefix = p; free = free; first = first; gives = refl; took = refl })));
          words = inr refl;
          of_pair = record { assigned = refl; backoff = tt };
        })
      ]

  module _ (free_or_full : FreeOrFull) (inside_are : InsideAreSubPrefixes) (not_shorter : WithinIsNotShorter) (valid : IsPrefix at.wish.delegated) (small : at.wish.length ≤ 64) where
    some_free : Some! IsFreeIfAny
    some_free = elim (cases_lt at.wish.length at.wish.delegated.len) [
      | inl longer ↦ some_is IsFreeIfAny None (none_in_longer not_shorter at.advertised at.wish.delegated at.wish.length valid longer)
      | inr shorter ↦ some_then (free_or_full at.wish.delegated word (prefixes at.advertised) at.wish.length) (by_any shorter)
    ]
      where
        by_any : at.wish.delegated.len ≤ at.wish.length → (o : Option PlainPrefix) → IsFirstFreeIfAny at.wish.delegated word (prefixes at.advertised) at.wish.length o → Some! IsFreeIfAny
        by_any shorter None full =
            let all = inside_are at.wish.delegated at.wish.length valid shorter (omega (arith, small)) in
            some_is IsFreeIfAny None (none_free at.advertised (prefixes at.advertised) at.wish.delegated at.wish.length None refl all (λ _. full, λ _. refl))
        by_any shorter (Some p) first =
            let all = inside_are at.wish.delegated at.wish.length valid shorter (omega (arith, small)) in
            some_is IsFreeIfAny (Some p) (found_free at.advertised (prefixes at.advertised) at.wish.delegated word at.wish.length (Some p) refl all first, first)

    some_unassigned : (b : Option Backoff) → IsOfPair own_pair (slot None b) → Some! (Gives None (slot None b))
    some_unassigned b of = some_by (IsTrue at.wish.wanted) (λ wanted. some_then some_free (by_free wanted)) (λ not. left b (inl not))
      where
        by_free : IsTrue at.wish.wanted → (o : Option PlainPrefix) → IsFreeIfAny o → Some! (Gives None (slot None b))
        by_free wanted None none_free = left b (inr none_free)
        by_free wanted (Some p) free = by_backoff b p of wanted free.0 free.1

    -- ---- the turn

    some_line : (best : Option Advertised) (c : Option Assigned) (b : Option Backoff) → IsOfPair own_pair (slot c b) → Some! (Gives best (slot c b))
    some_line None None b of = some_unassigned b of
    some_line (Some best) None b of = quiet (Some best) None b (following at best) (record { assigned = refl; backoff = tt }) (record { gives = refl }, refl)
    some_line None (Some c) b of = some_alone c b of
    some_line (Some best) (Some c) b of = some_beside best c b of

    -- what a turn gives, with no word or the next one, is of the pair
    pub record IsOutcome (before : Slot) (t : Turned) : Type 0 where
      pub turn : IsPairTurn at before t.1 t.0
      pub words : IsUpTo word t.1
      pub of_pair : IsOfPair own_pair t.0

    pub some_turn : (before : Slot) → IsOfPair own_pair before → Some! (IsOutcome before)
    some_turn before of =
        some_then (some_best at.own at.wish.common at.wish.delegated at.advertised) (λ best is. some_then (some_line best before.assigned before.backoff of)
        (λ t gives none. none t (record { turn = record { best = best; is_best = is; line = gives.line }; words = gives.words; of_pair = gives.of_pair })))
