-- Equal network hashes are those of equal leaves, or show a collision.
use Rattle.hn_base.proofs.Names.{◌≡◌, ℕ, suc, Bool, false, not, List, [], ◌∷◌, refl, sym, ap, ◌∙◌, inl, inr, ◌⊎◌, arith, AllByRecursion, bytes_eq, not-false, recursion_from_All, bytes_eq-Decides}
use Rattle.hn_hash.proofs.Names.{leaf_text, bodies, AreNumbered, body_at, IsFirstDifference, Leaf}
use Rattle.hn_hash.specs.Hash.{Collides}
use Rattle.hn_hash.specs.Agreement.{CollidesInPlace, IsExhibited, EqualHashesAgreeOrCollide}
use Rattle.hn_base.proofs.BigEndian.{same_words}
use Rattle.hn_hash.proofs.PartsOfLeaves.{HasNumber}
use Rattle.hn_hash.proofs.AlikeLeaves.{IsAlike, IsAlike-from_texts, IsAlike-tail, IsAlike-head, same_hash_at}
use Rattle.hn_base.proofs.DecidingTests.{texts_cases}

pub same_leaf : (x y : Leaf) → x.number ≡ y.number → x.body ≡ y.body → x ≡ y
same_leaf x y number_is body_is =
    ap (λ (m : ℕ). let leaf : Leaf = record { number = m; body = x.body } in leaf) number_is
    ∙ ap (λ (text : List ℕ). let leaf : Leaf = record { number = y.number; body = text } in leaf) body_is

-- lists that agree in all but node data of one hash
same_or_collide : (a b : List Leaf) → IsAlike a b → AllByRecursion HasNumber a → AllByRecursion HasNumber b
    → (a ≡ b) ⊎ CollidesInPlace a b
same_or_collide [] [] alike a_fits b_fits = inl refl
same_or_collide [] (y ∷ ys) alike a_fits b_fits = absurd (omega (arith, alike.len))
same_or_collide (x ∷ xs) [] alike a_fits b_fits = absurd (omega (arith, alike.len))
same_or_collide (x ∷ xs) (y ∷ ys) alike a_fits b_fits =
    let first = IsAlike-head x y xs ys alike in
    let number_is = same_words x.number y.number a_fits.0 b_fits.0 first.0 in
    elim (texts_cases x.body y.body) [
      | inr differ ↦ inr (0, omega arith, record { differ = differ; one_hash = first.1 })
      | inl body_is ↦
          let leaf_is = same_leaf x y number_is body_is in
          elim (same_or_collide xs ys (IsAlike-tail x y xs ys alike) a_fits.1 b_fits.1) [
            | inl rest_is ↦ let whole : x ∷ xs ≡ y ∷ ys = cc in inl whole
            | inr found ↦ inr (suc found.0, omega (arith, found.1), found.2)
          ]
    ]

pub agree_or_collide : EqualHashesAgreeOrCollide
agree_or_collide a b a_fits b_fits one_hash =
    elim (texts_cases (leaf_text a) (leaf_text b)) [
      | inr differ ↦ inr (inl (record { differ = differ; one_hash = one_hash }))
      | inl texts_are ↦
          elim (same_or_collide a b (IsAlike-from_texts a b texts_are) (recursion_from_All HasNumber a a_fits) (recursion_from_All HasNumber b b_fits)) [
            | inl same ↦ inl same
            | inr found ↦ inr (inr (texts_are, found))
          ]
    ]

-- leaves of one text and of the same node data
same_from_alike : (a b : List Leaf) → IsAlike a b → AllByRecursion HasNumber a → AllByRecursion HasNumber b → bodies a ≡ bodies b → a ≡ b
same_from_alike [] [] alike a_fits b_fits bodies_are = refl
same_from_alike [] (y ∷ ys) alike a_fits b_fits bodies_are = absurd (omega (arith, alike.len))
same_from_alike (x ∷ xs) [] alike a_fits b_fits bodies_are = absurd (omega (arith, alike.len))
same_from_alike (x ∷ xs) (y ∷ ys) alike a_fits b_fits bodies_are =
    let first = IsAlike-head x y xs ys alike in
    let body_is : x.body ≡ y.body = cc in
    let others_are : bodies xs ≡ bodies ys = cc in
    let leaf_is = same_leaf x y (same_words x.number y.number a_fits.0 b_fits.0 first.0) body_is in
    let rest_is = same_from_alike xs ys (IsAlike-tail x y xs ys alike) a_fits.1 b_fits.1 others_are in
    cc

pub same_from_bodies : (a b : List Leaf) → AreNumbered a → AreNumbered b → leaf_text a ≡ leaf_text b → bodies a ≡ bodies b → a ≡ b
same_from_bodies a b a_fits b_fits texts_are bodies_are =
    same_from_alike a b (IsAlike-from_texts a b texts_are) (recursion_from_All HasNumber a a_fits) (recursion_from_All HasNumber b b_fits) bodies_are

pub exhibited_in_place : (a b : List Leaf) (left right : List ℕ) (i : ℕ) → leaf_text a ≡ leaf_text b → IsFirstDifference a b i
    → left ≡ body_at a i → right ≡ body_at b i → IsExhibited a b left right
exhibited_in_place a b left right i texts_are first left_is right_is =
    let collide : Collides (body_at a i) (body_at b i) =
    record { differ = first.here; one_hash = same_hash_at a b (IsAlike-from_texts a b texts_are) i first.in_both.0 }
    in
    (rw (left_is, right_is) collide, inr (texts_are, (i, first, left_is, right_is)))

-- texts of which `!=` answered no
pub same_from_ne : (p q : List ℕ) (answer : Bool) → answer ≡ not (bytes_eq p q) → answer ≡ false → p ≡ q
same_from_ne p q answer is no_other = (bytes_eq-Decides p q).0 (not-false (bytes_eq p q) (sym is ∙ no_other))
