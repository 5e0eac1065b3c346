-- Where a prefix is preferred in place of what was for its pair, the list stays in the order of pairs.
use Rattle.hn_base.proofs.Names.{◌≡◌, ◌∙◌, ap, append_assoc, List, [], ◌∷◌, ◌++◌, Contains, Bool, subst, inl, inr, filter, Ordering, Less, IsTotalOrder, IsStrictlySortedBy, on, sorted_tail, is_lt, IsStrictlySortedBy-filter, Contains-append_cases}
use Rattle.hn_base.proofs.AscendingLists.{Contains-head, Contains-tail, Contains-cases, below_head}
use Rattle.hn_base.proofs.AscendingMade.{sorted_cons}
use Rattle.hn_base.proofs.Elements.{from_filter}
use Rattle.hn_pair.specs.Pair.{IsAscending, pair_cmp}
use Rattle.hn_kept.specs.declared.preferred.Preferred.{Preferred}
use Rattle.hn_kept.specs.Preferred.{preferred_pair, before_pair, after_pair, with_preferred}
use Rattle.hn_kept.proofs.KeptPairs.{less_of}

-- a list in order, and behind it one whose elements come after all of those
appended : {K : Type 0} (R : K → K → Ordering) (xs ys : List K) → IsStrictlySortedBy R xs → IsStrictlySortedBy R ys → ((x y : K) → Contains xs x → Contains ys y → R x y ≡ Less)
    → IsStrictlySortedBy R (xs ++ ys)
appended R [] ys up later below = later
appended R (x ∷ xs) ys up later below =
    sorted_cons R x (xs ++ ys)
    (λ z there. elim (Contains-append_cases xs ys z there) [
      | inl in_xs ↦ below_head R x xs up z in_xs
      | inr in_ys ↦ below x z (Contains-head x xs) in_ys
    ])
    (appended R xs ys (sorted_tail R x xs up) later (λ a b in_xs. below a b (Contains-tail x xs a in_xs)))

-- the list is made of its parts
pub with_is : (f : Preferred) (all before one after whole : List Preferred) → before ≡ before_pair f all → one ≡ before ++ f ∷ [] → after ≡ after_pair f all → whole ≡ one ++ after
    → whole ≡ with_preferred f all
with_is f all before one after whole before_is one_is after_is is =
    is ∙ ap (λ (xs : List Preferred). xs ++ after) one_is ∙ append_assoc before (f ∷ []) after ∙ ap (λ (xs : List Preferred). xs ++ f ∷ after) before_is
    ∙ ap (λ (ys : List Preferred). before_pair f all ++ f ∷ ys) after_is

pub in_order : IsTotalOrder pair_cmp → (f : Preferred) (all : List Preferred) → IsAscending preferred_pair all → IsAscending preferred_pair (with_preferred f all)
in_order total f all up =
    let R : Preferred → Preferred → Ordering = on preferred_pair pair_cmp in
    let earlier : Preferred → Bool = λ p. is_lt (pair_cmp (preferred_pair p) (preferred_pair f)) in
    let later : Preferred → Bool = λ p. is_lt (pair_cmp (preferred_pair f) (preferred_pair p)) in
    let before_f : (x : Preferred) → Contains (filter earlier all) x → pair_cmp (preferred_pair x) (preferred_pair f) ≡ Less = λ x there.
    less_of (pair_cmp (preferred_pair x) (preferred_pair f)) ((from_filter earlier all x there).1) in
    let after_f : (y : Preferred) → Contains (filter later all) y → pair_cmp (preferred_pair f) (preferred_pair y) ≡ Less = λ y there.
    less_of (pair_cmp (preferred_pair f) (preferred_pair y)) ((from_filter later all y there).1) in
    appended R (filter earlier all) (f ∷ filter later all) (IsStrictlySortedBy-filter R earlier all up)
    (sorted_cons R f (filter later all) after_f (IsStrictlySortedBy-filter R later all up))
    (λ x y in_front there. elim (Contains-cases f (filter later all) y there) [
      | inl same ↦ subst (λ (z : Preferred). pair_cmp (preferred_pair x) (preferred_pair z) ≡ Less) same (before_f x in_front)
      | inr behind ↦ total.trans (preferred_pair x) (preferred_pair f) (preferred_pair y) (before_f x in_front) (after_f y behind)
    ])
