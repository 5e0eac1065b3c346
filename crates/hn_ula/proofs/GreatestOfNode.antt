-- The greatest prefix of a node, one element of a list after the other.
use Rattle.hn_base.proofs.Names.{◌≡◌, ◌≢◌, ◌∙◌, ◌⊎◌, ℕ, ◌+◌, List, [], ◌∷◌, ◌++◌, take, slice_get, Option, Some, None, Ordering, refl, sym, ap, subst, inl, inr, ⊎_elim, MatchOption, Less, Equal}
use Rattle.hn_base.proofs.Names.{Greater, ordering_reverse, Contains-push, Contains-push_cases, Contains-append_left, PlainPrefix, prefix_cmp}
use Rattle.hn_ula.proofs.Names.{NodeId, nothing_in, IsGreatestFound, Generated}
use Rattle.hn_base.proofs.AscendingLists.{not_below_itself}
use Rattle.hn_base.proofs.FrontOfList.{front_at}
use Rattle.hn_base.proofs.Prefixes.{prefix_total, exact_prefix}
use Rattle.hn_ula.specs.Found.{HasOf, IsGreater}

-- ---- the order of prefixes

-- what is not below one that is not below a third is not below the third
pub not_below : (p q r : PlainPrefix) → prefix_cmp p q ≢ Less → prefix_cmp q r ≢ Less → prefix_cmp p r ≢ Less
not_below p q r first second less = by_order (prefix_cmp q p) refl
  where
    by_order : (o : Ordering) → prefix_cmp q p ≡ o → ⊥
    by_order Less e = second (prefix_total.trans q p r e less)
    by_order Equal e = second (subst (λ (x : PlainPrefix). prefix_cmp x r ≡ Less) (sym (exact_prefix q p e)) less)
    by_order Greater e = first (prefix_total.antisymm p q ∙ ap ordering_reverse e)

pub not_below_self : (p : PlainPrefix) → prefix_cmp p p ≢ Less
not_below_self p = not_below_itself prefix_cmp prefix_total p p refl

-- two of which neither is below the other are one
pub same_of_both : (p q : PlainPrefix) → prefix_cmp p q ≢ Less → prefix_cmp q p ≢ Less → p ≡ q
same_of_both p q first second = by_order (prefix_cmp p q) refl
  where
    by_order : (o : Ordering) → prefix_cmp p q ≡ o → p ≡ q
    by_order Less e = absurd (first e)
    by_order Equal e = exact_prefix p q e
    by_order Greater e = absurd (second (prefix_total.antisymm q p ∙ ap ordering_reverse e))

-- ---- one element more

-- what the list has for a node is the last element's, or was there
cases_of : (list : List Generated) (one : Generated) (node : NodeId) (q : PlainPrefix) → HasOf (list ++ one ∷ []) node q → HasOf list node q ⊎ ((one.node ≡ node) × (one.prefix ≡ q))
cases_of list one node q h =
    ⊎_elim (λ (before : HasOf list node q). inl before)
    (λ (last : one ≡ record { node = node; prefix = q }). inr (ap (λ (g : Generated). g.node) last, ap (λ (g : Generated). g.prefix) last))
    (Contains-push_cases list one (record { node = node; prefix = q }) h)

still_of : (list : List Generated) (one : Generated) (node : NodeId) (q : PlainPrefix) → HasOf list node q → HasOf (list ++ one ∷ []) node q
still_of list one node q h = Contains-append_left list (one ∷ []) (record { node = node; prefix = q }) h

last_of : (list : List Generated) (one : Generated) (node : NodeId) → one.node ≡ node → HasOf (list ++ one ∷ []) node one.prefix
last_of list one node is = subst (λ (n : NodeId). HasOf (list ++ one ∷ []) n one.prefix) is (Contains-push list one)

pub found_none : (node : NodeId) → IsGreatestFound [] node None
found_none node p h = nothing_in (record { node = node; prefix = p }) h

-- one of another node
passed : (list : List Generated) (one : Generated) (node : NodeId) (found : Option PlainPrefix) → one.node ≢ node → IsGreatestFound list node found → IsGreatestFound (list ++ one ∷ []) node found
passed list one node None other none = λ p h.
    ⊎_elim (λ (before : HasOf list node p). none p before) (λ (last : (one.node ≡ node) × (one.prefix ≡ p)). absurd (other last.0)) (cases_of list one node p h)
passed list one node (Some best) other g = record {
  has = still_of list one node best g.has;
  greatest = λ q h. ⊎_elim (λ (before : HasOf list node q). g.greatest q before) (λ (last : (one.node ≡ node) × (one.prefix ≡ q)). absurd (other last.0)) (cases_of list one node q h);
}

-- one of the node
taken : (list : List Generated) (one : Generated) (node : NodeId) (found : Option PlainPrefix) (greater : PlainPrefix) → one.node ≡ node
    → MatchOption found (greater ≡ one.prefix) (λ best. IsGreater best one.prefix greater) → IsGreatestFound list node found → IsGreatestFound (list ++ one ∷ []) node (Some greater)
taken list one node None greater is alone none = record {
  has = subst (HasOf (list ++ one ∷ []) node) (sym alone) (last_of list one node is);
  greatest = λ q h. ⊎_elim (λ (before : HasOf list node q). absurd (none q before))
      (λ (last : (one.node ≡ node) × (one.prefix ≡ q)). subst (λ (x : PlainPrefix). prefix_cmp greater x ≢ Less) (alone ∙ last.1) (not_below_self greater))
      (cases_of list one node q h);
}
taken list one node (Some best) greater is of_two g = record {
  has = ⊎_elim (λ (first : greater ≡ best). subst (HasOf (list ++ one ∷ []) node) (sym first) (still_of list one node best g.has))
      (λ (second : greater ≡ one.prefix). subst (HasOf (list ++ one ∷ []) node) (sym second) (last_of list one node is))
      of_two.one;
  greatest = λ q h. ⊎_elim (λ (before : HasOf list node q). not_below greater best q of_two.not_below_first (g.greatest q before))
      (λ (last : (one.node ≡ node) × (one.prefix ≡ q)). subst (λ (x : PlainPrefix). prefix_cmp greater x ≢ Less) last.1 of_two.not_below_second)
      (cases_of list one node q h);
}

-- as a `for` goes over a slice
pub passed_next : (list : List Generated) (n : ℕ) (one : Generated) (node : NodeId) (found : Option PlainPrefix) → slice_get list n ≡ Some one → one.node ≢ node
    → IsGreatestFound (take n list) node found → IsGreatestFound (take (n + 1) list) node found
passed_next list n one node found at other h = subst (λ (l : List Generated). IsGreatestFound l node found) (sym (front_at list n one at)) (passed (take n list) one node found other h)

pub taken_next : (list : List Generated) (n : ℕ) (one : Generated) (node : NodeId) (found : Option PlainPrefix) (greater : PlainPrefix) → slice_get list n ≡ Some one → one.node ≡ node
    → MatchOption found (greater ≡ one.prefix) (λ best. IsGreater best one.prefix greater) → IsGreatestFound (take n list) node found → IsGreatestFound (take (n + 1) list) node (Some greater)
taken_next list n one node found greater at is two h =
    subst (λ (l : List Generated). IsGreatestFound l node (Some greater)) (sym (front_at list n one at)) (taken (take n list) one node found greater is two h)
