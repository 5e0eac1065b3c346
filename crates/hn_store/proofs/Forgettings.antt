-- When nodes are forgotten, and what forgetting leaves.
use Rattle.hn_base.proofs.Names.{◌≡◌, ◌∙◌, ℕ, ◌+◌, ◌≤◌, Bool, true, false, cond, not, List, [], ◌∷◌, filter, Option, Some, None, refl, sym, ap, subst, arith, find, ◌==◌, nat_le, list_any, option_map}
use Rattle.hn_base.proofs.Names.{option_map_or, leb-true, le-leb}
use Rattle.hn_store.proofs.Names.{Contains, from_filter, Stored, HeldNode, Nodes, held, is_forgotten, IsForgottenFrom}
use Rattle.hn_base.proofs.Elements.{any_of, any_from}
use Rattle.hn_store.specs.Laws.{ForgettingIsAMoment, NoneIsForgotten, UnlostStay}
use Rattle.hn_store.proofs.Losses.{remembered-unneeded}

-- ---- one node

from_moment : (now : ℕ) (node : HeldNode) (lost : Option ℕ) → node.stored.lost ≡ lost → option_map_or (λ moment. nat_le (moment + 42000) now) lost false ≡ true
    → (m : ℕ) × IsForgottenFrom node m × (m ≤ now)
from_moment now node None is passes = absurd cc
from_moment now node (Some lost) is passes = (lost + 42000, (lost, is, refl), leb-true (lost + 42000) now passes)

at_moment : (now m : ℕ) (node : HeldNode) → IsForgottenFrom node m → m ≤ now → is_forgotten now node ≡ true
at_moment now m node (lost, is, at) past =
    ap (λ (o : Option ℕ). option_map_or (λ moment. nat_le (moment + 42000) now) o false) is ∙ le-leb (lost + 42000) now (omega (arith, at, past))

pub forgotten_from : ForgettingIsAMoment
forgotten_from now entries = (
  λ some.
      let found = any_of (is_forgotten now) entries some in
      let from = from_moment now found.0 found.0.stored.lost refl found.2 in
      (from.0, (found.0, found.1, from.1), from.2),
  λ (m, (node, there, from), past). any_from (is_forgotten now) entries node there (at_moment now m node from past),
)

-- ---- where none is forgotten

none_forgotten : (now : ℕ) (entries : List HeldNode) → filter (λ node. not (is_forgotten now node)) entries ≡ entries → (b : Bool) → list_any (is_forgotten now) entries ≡ b → b ≡ false
none_forgotten now entries same false is = refl
none_forgotten now entries same true is =
    let found = any_of (is_forgotten now) entries is in
    let kept = from_filter (λ (node : HeldNode). not (is_forgotten now node)) entries found.0 (subst (λ (list : List HeldNode). Contains list found.0) (sym same) found.1) in
    let clash : not true ≡ true = sym (ap not found.2) ∙ kept.1 in
    absurd cc

pub forgets_none : NoneIsForgotten
forgets_none now nodes = (
  λ same. none_forgotten now nodes.entries (ap (λ (n : Nodes). n.entries) same) (list_any (is_forgotten now) nodes.entries) refl,
  λ none. ap (λ (entries : List HeldNode). let n : Nodes = record nodes { entries = entries } in n) (remembered-unneeded now nodes.entries none),
)

-- ---- a node that is not lost

abbrev is_of : ℕ → HeldNode → Bool
is_of id node = node.id.0 == id

abbrev stored_in : Option HeldNode → Option Stored
stored_in found = option_map (λ (node : HeldNode). node.stored) found

found_stays : (now id : ℕ) (stored : Stored) → stored.lost ≡ None → (xs : List HeldNode) → held xs id ≡ Some stored
    → held (filter (λ node. not (is_forgotten now node)) xs) id ≡ Some stored
found_stays now id stored unlost [] is = absurd cc
found_stays now id stored unlost (x ∷ xs) is = by_test (is_of id x) refl (found_stays now id stored unlost xs) is
  where
    kept_first : (b : Bool) → not (is_forgotten now x) ≡ b → is_of id x ≡ true → x.stored ≡ stored
        → held (cond b (x ∷ filter (λ node. not (is_forgotten now node)) xs) (filter (λ node. not (is_forgotten now node)) xs)) id ≡ Some stored
    kept_first true passes here same =
        ap (λ (b : Bool). stored_in (cond b (Some x) (find (is_of id) (filter (λ node. not (is_forgotten now node)) xs)))) here ∙ ap Some same
    kept_first false fails here same =
        let none : x.stored.lost ≡ None = ap (λ (st : Stored). st.lost) same ∙ unlost in
        let stays : is_forgotten now x ≡ false = ap (λ (o : Option ℕ). option_map_or (λ moment. nat_le (moment + 42000) now) o false) none in
        let clash : not false ≡ false = sym (ap not stays) ∙ fails in
        absurd cc

    later : (b : Bool) → is_of id x ≡ false → held (filter (λ node. not (is_forgotten now node)) xs) id ≡ Some stored
        → held (cond b (x ∷ filter (λ node. not (is_forgotten now node)) xs) (filter (λ node. not (is_forgotten now node)) xs)) id ≡ Some stored
    later true there more = ap (λ (b : Bool). stored_in (cond b (Some x) (find (is_of id) (filter (λ node. not (is_forgotten now node)) xs)))) there ∙ more
    later false there more = more

    by_test : (b : Bool) → is_of id x ≡ b → (held xs id ≡ Some stored → held (filter (λ node. not (is_forgotten now node)) xs) id ≡ Some stored)
        → stored_in (cond b (Some x) (find (is_of id) xs)) ≡ Some stored
        → held (cond (not (is_forgotten now x)) (x ∷ filter (λ node. not (is_forgotten now node)) xs) (filter (λ node. not (is_forgotten now node)) xs)) id ≡ Some stored
    by_test true here more at = let same : x.stored ≡ stored = cc in kept_first (not (is_forgotten now x)) refl here same
    by_test false there more at = later (not (is_forgotten now x)) there (more at)

pub unlost_stays : UnlostStay
unlost_stays now nodes id stored is unlost = found_stays now id stored unlost nodes.entries is
