-- In one state the turn of a pair makes an assignment whatever word it takes, if it makes one with some word.
use Rattle.hn_base.proofs.Names.{◌≡◌, ◌∙◌, ◌⊎◌, ℕ, IsTrue, List, [], ◌∷◌, Option, None, Some, Contains, refl, sym, ap, subst, inl, inr, arith, same_Some, IsTotalOrder, HasAt, HaveSame}
use Rattle.hn_base.proofs.AtKey.{has_one}
use Rattle.hn_data.specs.View.{PlainView}
use Rattle.hn_base.specs.Prefix.{PlainPrefix}
use Rattle.hn_assign.specs.declared.advertised.Advertised.{Advertised}
use Rattle.hn_pair.specs.declared.assigned.Assigned.{Assigned}
use Rattle.hn_pair.specs.declared.assigned.Wish.{Wish}
use Rattle.hn_pair.specs.declared.backoff.Backoff.{Backoff}
use Rattle.hn_assign.specs.declared.ran.Ran.{Ran}
use Rattle.hn_assign.specs.declared.slot.Slot.{Slot}
use Rattle.hn_assign.specs.Laws.{SameHaveOneBest}
use Rattle.hn_assign.specs.Lines.{IsLine}
use Rattle.hn_pair.specs.Pair.{IsAscending, assigned_pair, backoff_pair, pair_cmp, wish_pair}
use Rattle.hn_assign.specs.Scene.{PlainScene, scene_of, IsFreeFor}
use Rattle.hn_assign.specs.Step.{IsPairStep}
use Rattle.hn_assign.specs.Unassigned.{IsUnassigned, IsMade}

-- only the first line takes a word
first_line : (at : PlainScene) (best : Option Advertised) (c : Option Assigned) (before : Slot) (word : ℕ) (words : List ℕ) (after : Slot)
    → words ≡ word ∷ [] → IsLine at best c before words after → (best ≡ None) × (c ≡ None)
first_line at None None before word words after is line = (refl, refl)
first_line at (Some best) None before word words after is line = absurd (let clash = sym is ∙ line.1 in cc)
first_line at None (Some c) before word words after is line = absurd (let clash = sym is ∙ line.1 in cc)
first_line at (Some best) (Some c) before word words after is line = absurd (let clash = sym is ∙ line.1 in cc)

-- what is free by a list is free by another one with the same elements
pub free_by_same : (a b : List Advertised) (view : PlainView) (wish : Wish) (p : PlainPrefix) → HaveSame a b
    → IsFreeFor (scene_of view wish a) p → IsFreeFor (scene_of view wish b) p
free_by_same a b view wish p same free = record { inside = free.inside; free = λ x there. free.free x ((same x).1 there) }

module _ (one_best : SameHaveOneBest) (total : IsTotalOrder pair_cmp) (view : PlainView) (wish : Wish) (before a b : Ran)
    (up : IsAscending assigned_pair before.held.assigned) (late : IsAscending backoff_pair before.held.backoffs)
    (word : ℕ) (words : List ℕ) (p : IsPairStep view wish (word ∷ []) before a) (q : IsPairStep view wish words before b) where
  -- by the same prefixes
  pub same_advertised : HaveSame p.advertised q.advertised
  same_advertised x = (λ there. (q.are_advertised x).1 ((p.are_advertised x).0 there), λ there. (p.are_advertised x).1 ((q.are_advertised x).0 there))

  same_backoff : p.old.backoff ≡ q.old.backoff
  same_backoff = has_one backoff_pair pair_cmp total (wish_pair wish) before.held.backoffs p.old.backoff q.old.backoff late p.had.backoff q.had.backoff

  same_assigned : p.old.assigned ≡ q.old.assigned
  same_assigned = has_one assigned_pair pair_cmp total (wish_pair wish) before.held.assigned p.old.assigned q.old.assigned up p.had.assigned q.had.assigned

  same_best : p.turn.best ≡ q.turn.best
  same_best = one_best p.advertised q.advertised same_advertised view.own wish.common wish.delegated p.turn.best q.turn.best p.turn.is_best q.turn.is_best

  -- it makes one
  pub record IsMadeAgain : Type 0 where
    pub taken : ℕ
    pub takes : words ≡ taken ∷ []
    pub made : IsMade (scene_of view wish q.advertised) q.old (taken ∷ []) q.new

  again : IsMade (scene_of view wish p.advertised) p.old (word ∷ []) p.new → IsUnassigned (scene_of view wish q.advertised) q.old words q.new → IsMadeAgain
  again made (inl left) = absurd (idle left.nothing_to_do)
    where
      idle : ¬ (IsTrue wish.wanted) ⊎ ((x : PlainPrefix) → ¬ (IsFreeFor (scene_of view wish q.advertised) x)) → ⊥
      idle (inl unwanted) = unwanted made.wanted
      idle (inr none) = none made.prefix (free_by_same p.advertised q.advertised view wish made.prefix same_advertised made.free)
  again made (inr (inl postponed)) = absurd (let clash = sym postponed.none ∙ sym same_backoff ∙ made.is in cc)
  again made (inr (inr (inl waiting))) = absurd
      (let both = sym waiting.is ∙ sym same_backoff ∙ made.is in
      let one : waiting.backoff ≡ made.backoff = same_Some waiting.backoff made.backoff both in
      let dues = ap (λ (x : Backoff). x.due) one in
      omega (arith, dues, waiting.not_due, made.due))
  again made (inr (inr (inr other))) = record {
    taken = other.word;
    takes = other.took;
    made = record {
      wanted = other.wanted;
      backoff = other.backoff;
      is = other.is;
      due = other.due;
      word = other.word;
      prefix = other.prefix;
      free = other.free;
      first = other.first;
      gives = other.gives;
      took = refl;
    };
  }

  pub made_again : IsMade (scene_of view wish p.advertised) p.old (word ∷ []) p.new → IsMadeAgain
  made_again made =
      let (none, without) = first_line (scene_of view wish p.advertised) p.turn.best p.old.assigned p.old word (word ∷ []) p.new refl p.turn.line in
      let best : q.turn.best ≡ None = sym same_best ∙ none in
      let assigned : q.old.assigned ≡ None = sym same_assigned ∙ without in
      again made
      (subst (λ (c : Option Assigned). IsLine (scene_of view wish q.advertised) None c q.old words q.new) assigned
      (subst (λ (x : Option Advertised). IsLine (scene_of view wish q.advertised) x q.old.assigned q.old words q.new) best q.turn.line))

-- the assignment that a step makes
pub made_there : (view : PlainView) (wish : Wish) (words : List ℕ) (before after : Ran) (step : IsPairStep view wish words before after) (c : Assigned)
    → step.new.assigned ≡ Some c → Contains after.held.assigned c × (assigned_pair c ≡ wish_pair wish)
made_there view wish words before after step c is = subst (λ (o : Option Assigned). HasAt assigned_pair (wish_pair wish) o after.held.assigned) is step.assigned.here
