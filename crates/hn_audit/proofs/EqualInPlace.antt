-- Lists that are equal place by place, and routers that use the same.
use Rattle.hn_base.proofs.Names.{◌≡◌, ◌↔◌, ◌<◌, ℕ, suc, List, [], ◌∷◌, length, slice_get, refl, sym, ◌∙◌, ap, subst, arith, length-map, same_Some, slice_get_within, PlainPrefix}
use Rattle.hn_audit.proofs.Names.{Delegated, AreUsable, prefixes_of, UsableIsUnique, State, seen_by, AreSameAt, AreSame, UseSame}

-- ---- place by place

by_place : (xs ys : List PlainPrefix) → length xs ≡ length ys → ((k : ℕ) → k < length xs → slice_get xs k ≡ slice_get ys k) → xs ≡ ys
by_place [] [] same each = refl
by_place [] (y ∷ ys) same each = absurd (omega (arith, same))
by_place (x ∷ xs) [] same each = absurd (omega (arith, same))
by_place (x ∷ xs) (y ∷ ys) same each =
    let first : x ≡ y = same_Some x y (each 0 (omega arith)) in
    let rest : xs ≡ ys = by_place xs ys (omega (arith, same)) (λ k within. each (suc k) (omega (arith, within))) in
    ap (λ (z : PlainPrefix). z ∷ xs) first ∙ ap (λ (zs : List PlainPrefix). y ∷ zs) rest

pub same_when : (a b : List Delegated) → length a ≡ length b → ((k : ℕ) → k < length a → AreSameAt a b k) → AreSame a b
same_when a b same each = record {
  prefixes =
      by_place (prefixes_of a) (prefixes_of b) (length-map a (λ (u : Delegated). u.prefix) ∙ same ∙ sym (length-map b (λ (u : Delegated). u.prefix)))
      (λ k within. (each k (subst (λ (n : ℕ). k < n) (length-map a (λ (u : Delegated). u.prefix)) within)).prefix);
  wanted = λ k. (
    λ h. (each k (slice_get_within a k h.deprecated h.at)).wanted.0 h,
    λ h. (each k (subst (λ (n : ℕ). k < n) (sym same) (slice_get_within b k h.deprecated h.at))).wanted.1 h,
  );
}

pub same_length : (a b : List Delegated) → AreSame a b → length a ≡ length b
same_length a b same = sym (length-map a (λ (u : Delegated). u.prefix)) ∙ ap length same.prefixes ∙ length-map b (λ (u : Delegated). u.prefix)

pub same_at : (a b : List Delegated) (k : ℕ) → AreSame a b → AreSameAt a b k
same_at a b k same = record { prefix = ap (λ (ps : List PlainPrefix). slice_get ps k) same.prefixes; wanted = same.wanted k }

-- ---- the routers of a set

pub same_back : (a b : List Delegated) → AreSame a b → AreSame b a
same_back a b same = record { prefixes = sym same.prefixes; wanted = λ k. ((same.wanted k).1, (same.wanted k).0) }

pub same_on : (a b d : List Delegated) → AreSame a b → AreSame b d → AreSame a d
same_on a b d one other = record {
  prefixes = one.prefixes ∙ other.prefixes;
  wanted = λ k. (λ h. (other.wanted k).0 ((one.wanted k).0 h), λ h. (one.wanted k).1 ((other.wanted k).1 h));
}

-- those that use the same as one use the same
pub use_same_too : UsableIsUnique → (r s u : State) → UseSame r s → UseSame r u → UseSame s u
use_same_too once r s u one other =
    let list : one.one ≡ other.one = once (seen_by r) one.one other.one one.is_one other.is_one in
    record {
      one = one.other;
      is_one = one.is_other;
      other = other.other;
      is_other = other.is_other;
      same = same_on one.other one.one other.other (same_back one.one one.other one.same) (subst (λ (a : List Delegated). AreSame a other.other) (sym list) other.same);
    }

pub use_these : UsableIsUnique → (r s : State) (used other : List Delegated) → AreUsable (seen_by r) used → AreUsable (seen_by s) other → AreSame used other ↔ UseSame r s
use_these once r s used other is_used is_other = (
  λ same. record { one = used; is_one = is_used; other = other; is_other = is_other; same = same },
  λ h. subst (λ (a : List Delegated). AreSame a other) (once (seen_by r) h.one used h.is_one is_used)
      (subst (λ (b : List Delegated). AreSame h.one b) (once (seen_by s) h.other other h.is_other is_other) h.same),
)
