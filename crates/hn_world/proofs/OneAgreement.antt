-- Two lists of leaves agree in one way.
use Rattle.hn_base.proofs.Names.{◌≡◌, ◌≢◌, ◌∙◌, ℕ, List, inl, inr, refl, sym, ap, cases_order}
use Rattle.hn_world.proofs.Names.{body_at, hash_of, leaf_text, network_hash, Differ, Same, Collide, Leaf, Agrees}
use Rattle.hn_hash.specs.Agreement.{IsFirstDifference, IsCollisionShown, IsExhibited}
use Rattle.hn_hash.specs.declared.agreement.Agreement.{Agreement}

-- leaves that show a collision have one network hash, and they differ
one_hash : (a b : List Leaf) (left right : List ℕ) → IsExhibited a b left right → network_hash a ≡ network_hash b
one_hash a b left right h = elim h.1 [
  | inl texts ↦ sym (ap hash_of texts.1) ∙ h.0.one_hash ∙ ap hash_of texts.2
  | inr first ↦ ap hash_of first.0
]

differ : (a b : List Leaf) (left right : List ℕ) → IsExhibited a b left right → a ≢ b
differ a b left right h same = elim h.1 [
  | inl texts ↦ texts.0 (ap leaf_text same)
  | inr first ↦ first.1.1.here (ap (λ (leaves : List Leaf). body_at leaves first.1.0) same)
]

-- there is one first place at which the node data differ
one_first : (a b : List Leaf) (i k : ℕ) → IsFirstDifference a b i → IsFirstDifference a b k → i ≡ k
one_first a b i k h l = elim (cases_order i k) [
  | inl same ↦ same
  | inr apart ↦ elim apart [ inl less ↦ absurd (h.here (l.before i less)) | inr more ↦ absurd (l.here (h.before k more)) ]
]

one_shown : (a b : List Leaf) (left right other another : List ℕ) → IsCollisionShown a b left right → IsCollisionShown a b other another → (left ≡ other) × (right ≡ another)
one_shown a b left right other another (inl x) (inl y) = (x.1 ∙ sym y.1, x.2 ∙ sym y.2)
one_shown a b left right other another (inl x) (inr y) = absurd (x.0 y.0)
one_shown a b left right other another (inr x) (inl y) = absurd (y.0 x.0)
one_shown a b left right other another (inr x) (inr y) =
    let place : x.1.0 ≡ y.1.0 = one_first a b x.1.0 y.1.0 x.1.1 y.1.1 in
    (x.1.2 ∙ ap (body_at a) place ∙ sym y.1.2, x.1.3 ∙ ap (body_at b) place ∙ sym y.1.3)

pub one_agreement : (a b : List Leaf) (x y : Agreement) → Agrees a b x → Agrees a b y → x ≡ y
one_agreement a b Differ Differ h k = refl
one_agreement a b Differ Same h k = absurd (h (ap network_hash k))
one_agreement a b Differ (Collide left right) h k = absurd (h (one_hash a b left right k))
one_agreement a b Same Differ h k = absurd (k (ap network_hash h))
one_agreement a b Same Same h k = refl
one_agreement a b Same (Collide left right) h k = absurd (differ a b left right k h)
one_agreement a b (Collide left right) Differ h k = absurd (k (one_hash a b left right h))
one_agreement a b (Collide left right) Same h k = absurd (differ a b left right h k)
one_agreement a b (Collide left right) (Collide other another) h k =
    let same = one_shown a b left right other another h.1 k.1 in
    λ i. Collide (same.0 i) (same.1 i)
