-- The used delegated prefixes of a settled set, which of them are wanted, and what is asked for a pair.
use Rattle.hn_base.proofs.Names.{◌≡◌, ◌∙◌, ◌<◌, ◌↔◌, ℕ, Bool, true, IsTrue, List, Option, Some, Contains, length, not, refl, sym, ap, subst, nat_lt, list_any, IsStrictlySortedBy, on, and_from}
use Rattle.hn_base.proofs.Names.{and_parts, eqb-true, eq-eqb, ltb-true, lt-ltb, false_from_ne_true, not-true, not_from_false, same_Some, slice_get_within, slice_get-get_or, get_or_from_slice_get}
use Rattle.hn_base.proofs.Names.{PlainPrefix, prefix_cmp}
use Rattle.hn_audit.proofs.Names.{◌==◌, ◌&&◌, slice_get, sorted_parts, PlainView, Delegated, AreUsable, IsUnwanted, prefixes_of, UsableIsUnique, Wish, IsWishAt, AreSame, UseSame, State, seen_by}
use Rattle.hn_audit.proofs.Names.{any_of, any_from, part_at, part_stands, one_of_ascending}
use Rattle.hn_audit.proofs.BridgeLists.{same_Bool}
use Rattle.hn_base.proofs.Prefixes.{is_one_prefix, prefix_decided, prefix_total}
use Rattle.hn_base.proofs.DecidingTests.{not_both}

-- ---- whether a delegated prefix is wanted

-- it is deprecated, and another is not
abbrev pub is_deprecated : PlainPrefix → Delegated → Bool
is_deprecated d u = is_one_prefix u.prefix d && u.preferred == 0

abbrev pub is_preferred : Delegated → Bool
is_preferred u = nat_lt 0 u.preferred

abbrev pub is_unwanted : List Delegated → PlainPrefix → Bool
is_unwanted list d = list_any (is_deprecated d) list && list_any is_preferred list

module _ (list : List Delegated) (up : IsStrictlySortedBy prefix_cmp (prefixes_of list)) (place : ℕ) (u : Delegated) (at : slice_get list place ≡ Some u) where
  there : Contains list u
  there = (place, slice_get_within list place u at, get_or_from_slice_get list place u u at)

  pub to_unwanted : is_unwanted list u.prefix ≡ true → IsUnwanted list place
  to_unwanted is =
      let parts = and_parts (list_any (is_deprecated u.prefix) list) (list_any is_preferred list) is in
      let old = any_of (is_deprecated u.prefix) list parts.0 in
      let new = any_of is_preferred list parts.1 in
      let says = and_parts (is_one_prefix old.0.prefix u.prefix) (old.0.preferred == 0) old.2 in
      let sorted : IsStrictlySortedBy (on (λ (v : Delegated). v.prefix) prefix_cmp) list = (sorted_parts (λ (v : Delegated). v.prefix) prefix_cmp list).1 up in
      let same : old.0 ≡ u = one_of_ascending (λ (v : Delegated). v.prefix) prefix_cmp prefix_total list sorted old.0 u old.1 there ((prefix_decided old.0.prefix u.prefix).0 says.0) in
      record {
        deprecated = u;
        at = at;
        ended = subst (λ (v : Delegated). v.preferred ≡ 0) same (eqb-true old.0.preferred 0 says.1);
        other = new.0;
        in_list = new.1;
        preferred = ltb-true 0 new.0.preferred new.2;
      }

  pub from_unwanted : IsUnwanted list place → is_unwanted list u.prefix ≡ true
  from_unwanted un =
      let same : un.deprecated ≡ u = same_Some un.deprecated u (sym un.at ∙ at) in
      let ended : u.preferred ≡ 0 = subst (λ (v : Delegated). v.preferred ≡ 0) same un.ended in
      and_from (list_any (is_deprecated u.prefix) list) (list_any is_preferred list)
      (any_from (is_deprecated u.prefix) list u there (and_from (is_one_prefix u.prefix u.prefix) (u.preferred == 0) ((prefix_decided u.prefix u.prefix).1 refl) (eq-eqb u.preferred 0 ended)))
      (any_from is_preferred list un.other un.in_list (lt-ltb 0 un.other.preferred un.preferred))

-- whether what is at a place is wanted
pub is_wanted : (list : List Delegated) → IsStrictlySortedBy prefix_cmp (prefixes_of list) → (place : ℕ) (u : Delegated) → slice_get list place ≡ Some u
    → IsTrue (not (is_unwanted list u.prefix)) ↔ ¬ (IsUnwanted list place)
is_wanted list up place u at = (
  λ wanted un. let no = not-true (is_unwanted list u.prefix) wanted in let yes = from_unwanted list up place u at un in absurd (cc (sym yes ∙ no)),
  λ wanted. not_from_false (is_unwanted list u.prefix) (false_from_ne_true (is_unwanted list u.prefix) (λ un. wanted (to_unwanted list up place u at un))),
)

-- ---- places of used prefixes

-- a used prefix is at a place
pub place_of : (list : List Delegated) (d : PlainPrefix) → Contains (prefixes_of list) d → (place : ℕ) × (slice_get (prefixes_of list) place ≡ Some d)
place_of list d (k, lt, at) = (k, slice_get-get_or (prefixes_of list) k d lt ∙ ap Some at)

-- what is there
pub delegated_at : (list : List Delegated) (d : PlainPrefix) (place : ℕ) → slice_get (prefixes_of list) place ≡ Some d
    → (u : Delegated) × (slice_get list place ≡ Some u) × (u.prefix ≡ d)
delegated_at list d place at = part_at (λ (u : Delegated). u.prefix) list place d at

pub at_prefix : (list : List Delegated) (place : ℕ) (u : Delegated) → slice_get list place ≡ Some u → slice_get (prefixes_of list) place ≡ Some u.prefix
at_prefix list place u at = part_stands (λ (v : Delegated). v.prefix) list place u at

-- ---- of two routers that use the same

module _ (unique : UsableIsUnique) where
  pub used_same : (s u : State) (a b : List Delegated) → UseSame s u → AreUsable (seen_by s) a → AreUsable (seen_by u) b → AreSame a b
  used_same s u a b use_same is_a is_b =
      subst (λ (x : List Delegated). AreSame x b) (unique (seen_by s) use_same.one a use_same.is_one is_a)
      (subst (AreSame use_same.one) (unique (seen_by u) use_same.other b use_same.is_other is_b) use_same.same)

-- what one router asks at a place is for the prefix that another uses there, and wanted if that wants it
pub record IsAskedFor (list : List Delegated) (d : PlainPrefix) (wish : Wish) : Type 0 where
  pub delegated : wish.delegated ≡ d
  pub wanted : wish.wanted ≡ not (is_unwanted list d)

pub asked_for : (private : Option ℕ) (view : PlainView) (a b : List Delegated) (d : PlainPrefix) (place : ℕ) (wish : Wish) → AreSame a b → IsStrictlySortedBy prefix_cmp (prefixes_of b)
    → slice_get (prefixes_of b) place ≡ Some d → IsWishAt private view a place wish → IsAskedFor b d wish
asked_for private view a b d place wish same up at asked = record {
  delegated = asked.prefix ∙ same_Some asked.delegated.prefix d (sym (at_prefix a place asked.delegated asked.at) ∙ (ap (λ (ps : List PlainPrefix). slice_get ps place) same.prefixes ∙ at));
  wanted =
      let here = delegated_at b d place at in
      subst (λ (p : PlainPrefix). wish.wanted ≡ not (is_unwanted b p)) here.2 (same_Bool wish.wanted (not (is_unwanted b here.0.prefix))
      (λ wants. not_from_false (is_unwanted b here.0.prefix)
      (false_from_ne_true (is_unwanted b here.0.prefix) (λ un. asked.wanted.0 wants ((same.wanted place).1 (to_unwanted b up place here.0 here.1 un)))))
      (λ wants. asked.wanted.1 (λ un. not_both (is_unwanted b here.0.prefix) (from_unwanted b up place here.0 here.1 ((same.wanted place).0 un)) (not-true (is_unwanted b here.0.prefix) wants))));
}

-- a place of one list is a place of the other
pub place_within : (a b : List Delegated) (d : PlainPrefix) (place : ℕ) → AreSame a b → slice_get (prefixes_of b) place ≡ Some d → place < length a
place_within a b d place same at =
    let here = delegated_at a d place (ap (λ (ps : List PlainPrefix). slice_get ps place) same.prefixes ∙ at) in
    slice_get_within a place here.0 here.1
