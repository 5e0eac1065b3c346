use Rattle.std.specs.Prelude.{◌≡◌, ◌≢◌, ℕ, ◌<◌, ◌⊎◌, List, [], length, slice_index_or}
use Rattle.hn_hash.specs.Hash.{Collides}
use Rattle.hn_hash.specs.Network.{leaf_text, network_hash, bodies, AreNumbered}
use Rattle.hn_hash.specs.declared.leaf.Leaf.{Leaf}
use Rattle.hn_hash.specs.declared.agreement.Agreement.{Agreement}
use Rattle.hn_hash.specs.declared.agreement.Agreement.TheVariants.{Collide}

-- the node data of the leaf in this place
abbrev pub body_at : List Leaf → ℕ → List ℕ
body_at leaves i = slice_index_or (bodies leaves) i []

-- The node data of one place collide.
abbrev pub CollidesInPlace : List Leaf → List Leaf → Type 0
CollidesInPlace a b = (i : ℕ) × (i < length a) × Collides (body_at a i) (body_at b i)

-- A collision of the hash among what two lists of leaves hash: their texts collide, or the texts are equal and
-- the node data of one place collide.
abbrev pub IsCollision : List Leaf → List Leaf → Type 0
IsCollision a b =
    Collides (leaf_text a) (leaf_text b) ⊎ ((leaf_text a ≡ leaf_text b) × CollidesInPlace a b)

-- Lists of leaves with one network hash are equal, or a collision is among what they hash.
abbrev pub EqualHashesAgreeOrCollide : Type 0
EqualHashesAgreeOrCollide =
    (a b : List Leaf) → AreNumbered a → AreNumbered b
    → network_hash a ≡ network_hash b → (a ≡ b) ⊎ IsCollision a b

-- the first place at which the node data differ
pub record IsFirstDifference (a b : List Leaf) (i : ℕ) : Type 0 where
  pub in_both : (i < length a) × (i < length b)
  pub before : (k : ℕ) → k < i → body_at a k ≡ body_at b k
  pub here : body_at a i ≢ body_at b i

-- The two texts are the first node data in one place that differ.
abbrev pub AreFirstToDiffer : List Leaf → List Leaf → List ℕ → List ℕ → Type 0
AreFirstToDiffer a b left right =
    (i : ℕ) × IsFirstDifference a b i × (left ≡ body_at a i) × (right ≡ body_at b i)

-- The two texts that show a collision: the texts of the leaves where these differ, else the first node data that
-- differ.
abbrev pub IsCollisionShown : List Leaf → List Leaf → List ℕ → List ℕ → Type 0
IsCollisionShown a b left right =
    ((leaf_text a ≢ leaf_text b) × (left ≡ leaf_text a) × (right ≡ leaf_text b))
    ⊎ ((leaf_text a ≡ leaf_text b) × AreFirstToDiffer a b left right)

-- These two texts collide, and they are the ones to show.
abbrev pub IsExhibited : List Leaf → List Leaf → List ℕ → List ℕ → Type 0
IsExhibited a b left right = Collides left right × IsCollisionShown a b left right

-- the fact holds of the two texts of a collision
abbrev pub IfCollide : (List ℕ → List ℕ → Type 0) → Agreement → Type 0
IfCollide P (Collide left right) = P left right
IfCollide P _ = Unit {0}
