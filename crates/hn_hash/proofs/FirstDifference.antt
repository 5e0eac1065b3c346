-- The node data in a place, and the first place where they differ.
use Rattle.hn_base.proofs.Names.{◌≡◌, ◌≢◌, ℕ, ◌<◌, List, [], length, get_or, Option, Some, None, sym, ap, ◌∙◌, arith, IfNone, MatchOption, HoldsAt, AllWithin, get_or-map, length-map}
use Rattle.hn_hash.proofs.Names.{bodies, body_at, IsFirstDifference, Leaf}
use Rattle.std.proofs.Common.{zero-le}
use Rattle.std.specs.Prelude.{IfSome}
use Rattle.std.specs.List.{zip}
use Rattle.std.proofs.lemmas.List.{ext_get_or}
use Rattle.std.proofs.lemmas.Slice.Zip.{length-zip, get_or-zip}

-- the node data of a leaf that was read
pub body_at-read : (leaves : List Leaf) (i : ℕ) (d : Leaf) → i < length leaves → (get_or leaves i d).body ≡ body_at leaves i
body_at-read leaves i d lt = sym (get_or-map (λ (l : Leaf). l.body) leaves i d [] lt)

empty_leaf : Leaf
empty_leaf = record { number = 0; body = [] }

abbrev pub HaveSameBody : Leaf × Leaf → Type 0
HaveSameBody p = p.0.body ≡ p.1.body

abbrev pub HaveOtherBodies : Leaf × Leaf → Type 0
HaveOtherBodies p = p.0.body ≢ p.1.body

-- the pair in a place of both lists
pair_at : (a b : List Leaf) (i : ℕ) → i < length a → i < length b → (d : Leaf × Leaf)
    → ((get_or (zip a b) i d).0.body ≡ body_at a i) × ((get_or (zip a b) i d).1.body ≡ body_at b i)
pair_at a b i a_lt b_lt d =
    let pair = get_or-zip a b i d a_lt b_lt in (
      ap (λ (p : Leaf × Leaf). p.0.body) pair ∙ body_at-read a i d.0 a_lt,
      ap (λ (p : Leaf × Leaf). p.1.body) pair ∙ body_at-read b i d.1 b_lt,
    )

pub first_from_zip : (a b : List Leaf) → length a ≡ length b → (r : Option ℕ)
    → MatchOption r (AllWithin HaveSameBody (zip a b) 0 (length (zip a b)))
    (λ i. (i < length (zip a b)) × HoldsAt HaveOtherBodies (zip a b) i × AllWithin HaveSameBody (zip a b) 0 i)
    → IfSome r (IsFirstDifference a b) × IfNone r (bodies a ≡ bodies b)
first_from_zip a b len None all_same =
    let body_is : (k : ℕ) → k < length a → body_at a k ≡ body_at b k =
    λ k lt.
    let pair = pair_at a b k lt (omega arith) (empty_leaf, empty_leaf) in
    sym pair.0 ∙ all_same k (empty_leaf, empty_leaf) zero-le (omega (arith, length-zip a b)) ∙ pair.1
    in (
      tt,
      ext_get_or [] (bodies a) (bodies b) (omega (arith, length-map a (λ (l : Leaf). l.body), length-map b (λ (l : Leaf). l.body)))
          (λ k lt. body_is k (omega (arith, length-map a (λ (l : Leaf). l.body)))),
    )
first_from_zip a b len (Some i) found =
    let in_a : i < length a = omega (arith, length-zip a b, found.0) in
    let in_b : i < length b = omega arith in
    let here = pair_at a b i in_a in_b (empty_leaf, empty_leaf) in (
      record {
        in_both = (in_a, in_b);
        before = λ k lt.
            let pair = pair_at a b k (omega arith) (omega arith) (empty_leaf, empty_leaf) in
            sym pair.0 ∙ found.2 k (empty_leaf, empty_leaf) zero-le lt ∙ pair.1;
        here = λ e. found.1 (empty_leaf, empty_leaf) (here.0 ∙ e ∙ sym here.1);
      },
      tt,
    )
