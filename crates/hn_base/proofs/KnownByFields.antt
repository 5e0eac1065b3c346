-- Values are what their fields say: the facts that their types keep have one proof each.
use Rattle.hn_base.proofs.Names.{◌≡◌, ◌≤◌, ℕ, refl, ap, subst, props}
use Rattle.hn_base.specs.declared.caps.Caps.{Caps}

-- what is made of a value and a fact that has one proof is made of the value
pub same_made : {A B : Type 0} (P : A → Type 0) → ((x : A) → IsProp (P x)) → (make : (x : A) → P x → B)
    → (x y : A) → x ≡ y → (p : P x) (q : P y) → make x p ≡ make y q
same_made P prop make x y e p q = subst (λ z. (r : P z) → make x p ≡ make z r) e (λ r. ap (make x) (prop x p r)) q

-- ---- capabilities

AreInRange : ℕ × ℕ × ℕ × ℕ → Type 0
AreInRange c = (c.0 ≤ 15) × (c.1 ≤ 15) × (c.2 ≤ 15) × (c.3 ≤ 15)

AreInRange-prop : (c : ℕ × ℕ × ℕ × ℕ) → IsProp (AreInRange c)
unfolding AreInRange
AreInRange-prop c = hlevel props

make_caps : (c : ℕ × ℕ × ℕ × ℕ) → AreInRange c → Caps
unfolding AreInRange
make_caps c h = record { m = c.0; p = c.1; h = c.2; l = c.3; m_in_range = h.0; p_in_range = h.1; h_in_range = h.2; l_in_range = h.3 }

pub same_caps : (a b : Caps) → a.m ≡ b.m → a.p ≡ b.p → a.h ≡ b.h → a.l ≡ b.l → a ≡ b
unfolding make_caps AreInRange
same_caps a b m p h l =
    same_made AreInRange AreInRange-prop make_caps (a.m, a.p, a.h, a.l) (b.m, b.p, b.h, b.l) (rw (m, p, h, l) refl)
    (a.m_in_range, a.p_in_range, a.h_in_range, a.l_in_range) (b.m_in_range, b.p_in_range, b.h_in_range, b.l_in_range)
