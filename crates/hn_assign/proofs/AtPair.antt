-- What lists that ascend by pairs have for a pair.
use Rattle.hn_base.proofs.Names.{◌≡◌, ◌∙◌, ◌↔◌, ◌⊎◌, List, Contains, Option, None, Some, sym, subst, ⊎_elim, on, on_total, HasAt}
use Rattle.hn_assign.proofs.Names.{Wish, Pair, pair_cmp, IsAscending, Updates, KeepsWished}
use Rattle.hn_base.proofs.AscendingLists.{ascending_unique}
use Rattle.hn_base.proofs.AtKey as base
use Rattle.hn_base.proofs.DecidingTests.{cases_by}
use Rattle.hn_assign.proofs.Orders.{pair_total, pair_exact}

-- two pairs are the same, or not
pub pair_cases : (p q : Pair) → (p ≡ q) ⊎ (¬ (p ≡ q))
pair_cases p q = cases_by pair_cmp pair_total pair_exact p q

module _ {A : Type 0} (key : A → Pair) where
  -- a list has an element for a pair, or none
  pub has_some : (pair : Pair) (xs : List A) → (o : Option A) × HasAt key pair o xs
  has_some pair xs = base.has_some key pair_cmp pair_total pair_exact pair xs

  -- what a list has for a pair is one
  pub has_one : (pair : Pair) (xs : List A) (a b : Option A) → IsAscending key xs → HasAt key pair a xs → HasAt key pair b xs → a ≡ b
  has_one pair xs a b up has also = base.has_one key pair_cmp pair_total pair xs a b up has also

  -- an element of the pair is what the list has for it
  pub is_had : (pair : Pair) (xs : List A) (a : Option A) (x : A) → IsAscending key xs → HasAt key pair a xs → Contains xs x → key x ≡ pair → a ≡ Some x
  is_had pair xs a x up has h is = has_one pair xs a (Some x) up has (h, is)

  -- and what it has is an element
  pub had_is : (pair : Pair) (xs : List A) (a : Option A) (x : A) → HasAt key pair a xs → a ≡ Some x → Contains xs x × (key x ≡ pair)
  had_is pair xs a x has is = subst (λ (o : Option A). HasAt key pair o xs) is has

  -- two lists with the same elements
  pub same_list : (xs ys : List A) → IsAscending key xs → IsAscending key ys → ((x : A) → Contains xs x ↔ Contains ys x) → xs ≡ ys
  same_list xs ys = ascending_unique (on key pair_cmp) (on_total key pair_total) xs ys

  -- an update has one result
  pub updates_one : (pair : Pair) (new : Option A) (before a b : List A) → Updates key pair new before a → Updates key pair new before b → a ≡ b
  updates_one pair new before a b ua ub = same_list a b ua.ascending ub.ascending (λ x. (there a b ua ub x, there b a ub ua x))
    where
      there : (a b : List A) → Updates key pair new before a → Updates key pair new before b → (x : A) → Contains a x → Contains b x
      there a b ua ub x h =
          ⊎_elim (λ (is : key x ≡ pair). (had_is pair b new x ub.here (is_had pair a new x ua.ascending ua.here h is)).0)
          (λ (not : ¬ (key x ≡ pair)). (ub.others x not).1 ((ua.others x not).0 h))
          (pair_cases (key x) pair)

  -- what other pairs have stays
  pub has_still : (pair other : Pair) (new has : Option A) (before after : List A) → Updates key pair new before after → ¬ (other ≡ pair) → HasAt key other has before → HasAt key other has after
  has_still pair other new None before after u not none = λ x h is. none x ((u.others x (λ same. not (sym is ∙ same))).0 h) is
  has_still pair other new (Some y) before after u not some = ((u.others y (λ same. not (sym some.1 ∙ same))).1 some.0, some.1)

  pub had_still : (pair other : Pair) (new has : Option A) (before after : List A) → Updates key pair new before after → ¬ (other ≡ pair) → HasAt key other has after → HasAt key other has before
  had_still pair other new None before after u not none = λ x h is. none x ((u.others x (λ same. not (sym is ∙ same))).1 h) is
  had_still pair other new (Some y) before after u not some = ((u.others y (λ same. not (sym some.1 ∙ same))).0 some.0, some.1)

  -- where a pair keeps what it has, the list stays
  pub updates_none : (pair : Pair) (has : Option A) (before after : List A) → IsAscending key before → HasAt key pair has before → Updates key pair has before after → after ≡ before
  updates_none pair has before after up here u = updates_one pair has before after before u (record { ascending = up; here = here; others = λ x not. (λ h. h, λ h. h) })

  -- what is kept of wished pairs is one
  pub keeps_one : (wishes : List Wish) (before a b : List A) → KeepsWished key wishes before a → KeepsWished key wishes before b → a ≡ b
  keeps_one wishes before a b ka kb = same_list a b ka.ascending kb.ascending (λ x. (λ h. (kb.those x).1 ((ka.those x).0 h), λ h. (ka.those x).1 ((kb.those x).0 h)))
