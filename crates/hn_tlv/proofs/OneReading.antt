-- What the one outcome says of two readings of the same bytes.
use Rattle.hn_base.proofs.Names.{◌≡◌, ℕ, ◌+◌, List, [], ◌∷◌, ◌++◌, length, refl, sym, ap, subst, ◌∙◌, append_assoc, arith}
use Rattle.hn_tlv.proofs.Names.{length-append, PlainTlv, IsTlv, spelling, IsTlvList, HasTlvs, IsFault, FirstFault}
use Rattle.hn_base.proofs.BeginningOfBytes as begin
use Rattle.hn_tlv.proofs.BeginningOfTlvs.{outcome, tlv_told}

pub same_begin : (t u : PlainTlv) (x y : List ℕ) → IsTlv t → IsTlv u → spelling t ++ x ≡ spelling u ++ y → (t ≡ u) × (x ≡ y)
same_begin = begin.same_begin spelling IsTlv IsFault outcome tlv_told

pub same_fault : (bytes : List ℕ) (p q v w : ℕ) → IsFault bytes p v → IsFault bytes q w → (p ≡ q) × (v ≡ w)
same_fault = begin.same_fault spelling IsTlv IsFault outcome tlv_told

-- where a fault lies, no TLV begins
pub no_tlv : (bytes rest : List ℕ) (offset why : ℕ) (t : PlainTlv) → IsFault bytes offset why → IsTlv t → ¬ (bytes ≡ spelling t ++ rest)
no_tlv = begin.no_begin spelling IsTlv IsFault outcome tlv_told

-- where a fault lies, bytes are
pub not_empty : (bytes : List ℕ) (offset why : ℕ) → IsFault bytes offset why → ¬ (bytes ≡ [])
not_empty = begin.not_empty spelling IsTlv IsFault outcome tlv_told

-- ---- lists

pub same_list : (a b : List PlainTlv) (bytes : List ℕ) → IsTlvList a bytes → IsTlvList b bytes → a ≡ b
same_list [] [] bytes l m = refl
same_list [] (u ∷ us) bytes l m = let e : [] ≡ spelling u ++ m.0 = sym l ∙ m.2 in absurd cc
same_list (t ∷ ts) [] bytes l m = let e : [] ≡ spelling t ++ l.0 = sym m ∙ l.2 in absurd cc
same_list (t ∷ ts) (u ∷ us) bytes l m =
    let same = same_begin t u l.0 m.0 l.1 m.1 (sym l.2 ∙ m.2) in
    let tails : ts ≡ us = same_list ts us m.0 (subst (IsTlvList ts) same.1 l.3) m.3 in
    rw (same.0, tails) refl

pub joined : (a b : List PlainTlv) (x y : List ℕ) → IsTlvList a x → IsTlvList b y → IsTlvList (a ++ b) (x ++ y)
joined [] b x y l m = subst (λ (z : List ℕ). IsTlvList b (z ++ y)) (sym l) m
joined (t ∷ ts) b x y l m = (l.0 ++ y, l.1, ap (λ (z : List ℕ). z ++ y) l.2 ∙ append_assoc (spelling t) l.0 y, joined ts b l.0 y l.3 m)

-- a list with a TLV at its beginning
pub rest_of : (t : PlainTlv) (all : List PlainTlv) (bytes rest : List ℕ) → IsTlv t → bytes ≡ spelling t ++ rest → IsTlvList all bytes → (ts : List PlainTlv) × (all ≡ t ∷ ts) × IsTlvList ts rest
rest_of t [] bytes rest valid e l = let none : [] ≡ spelling t ++ rest = sym l ∙ e in absurd cc
rest_of t (u ∷ us) bytes rest valid e l =
    let same = same_begin u t l.0 rest l.1 valid (sym l.2 ∙ e) in
    (us, ap (λ (v : PlainTlv). v ∷ us) same.0, subst (IsTlvList us) same.1 l.3)

-- ---- first faults

no_list_after : (a b : List PlainTlv) (front rest : List ℕ) (offset why : ℕ) → IsTlvList a front → IsFault rest offset why → ¬ (IsTlvList b (front ++ rest))
no_list_after [] [] front rest offset why l f m = not_empty rest offset why f (ap (λ (z : List ℕ). z ++ rest) (sym l) ∙ m)
no_list_after [] (u ∷ us) front rest offset why l f m = no_tlv rest m.0 offset why u f m.1 (ap (λ (z : List ℕ). z ++ rest) (sym l) ∙ m.2)
no_list_after (t ∷ ts) b front rest offset why l f m =
    let split : front ++ rest ≡ spelling t ++ (l.0 ++ rest) = ap (λ (z : List ℕ). z ++ rest) l.2 ∙ append_assoc (spelling t) l.0 rest in
    let others = rest_of t b (front ++ rest) (l.0 ++ rest) l.1 split m in
    no_list_after ts others.0 l.0 rest offset why l.3 f others.2

pub no_list : (bytes : List ℕ) (place why : ℕ) → FirstFault bytes place why → ¬ (HasTlvs bytes)
no_list bytes place why f l = no_list_after f.tlvs l.0 f.front f.rest f.offset why f.before f.fault (subst (IsTlvList l.0) f.parts l.1)

same_after : (a b : List PlainTlv) (x y r s : List ℕ) (o p v w : ℕ) → IsTlvList a x → IsTlvList b y → x ++ r ≡ y ++ s → IsFault r o v → IsFault s p w → (length x + o ≡ length y + p) × (v ≡ w)
same_after [] [] x y r s o p v w l m e f g =
    let rests : r ≡ s = ap (λ (z : List ℕ). z ++ r) (sym l) ∙ e ∙ ap (λ (z : List ℕ). z ++ s) m in
    let same = same_fault s o p v w (subst (λ (z : List ℕ). IsFault z o v) rests f) g in
    (rw (l, m, same.0) refl, same.1)
same_after [] (u ∷ us) x y r s o p v w l m e f g =
    absurd (no_tlv r (m.0 ++ s) o v u f m.1 (ap (λ (z : List ℕ). z ++ r) (sym l) ∙ e ∙ ap (λ (z : List ℕ). z ++ s) m.2 ∙ append_assoc (spelling u) m.0 s))
same_after (t ∷ ts) [] x y r s o p v w l m e f g =
    absurd (no_tlv s (l.0 ++ r) p w t g l.1 (ap (λ (z : List ℕ). z ++ s) (sym m) ∙ sym e ∙ ap (λ (z : List ℕ). z ++ r) l.2 ∙ append_assoc (spelling t) l.0 r))
same_after (t ∷ ts) (u ∷ us) x y r s o p v w l m e f g =
    let left : x ++ r ≡ spelling t ++ (l.0 ++ r) = ap (λ (z : List ℕ). z ++ r) l.2 ∙ append_assoc (spelling t) l.0 r in
    let right : y ++ s ≡ spelling u ++ (m.0 ++ s) = ap (λ (z : List ℕ). z ++ s) m.2 ∙ append_assoc (spelling u) m.0 s in
    let same = same_begin t u (l.0 ++ r) (m.0 ++ s) l.1 m.1 (sym left ∙ e ∙ right) in
    let later = same_after ts us l.0 m.0 r s o p v w l.3 m.3 same.1 f g in
    let x_len : length x ≡ length (spelling t) + length l.0 = ap length l.2 ∙ length-append (spelling t) l.0 in
    let y_len : length y ≡ length (spelling t) + length m.0 = ap length m.2 ∙ length-append (spelling u) m.0 ∙ ap (λ (z : PlainTlv). length (spelling z) + length m.0) (sym same.0) in
    (rw (x_len, y_len) (omega (arith, later.0)), later.1)

pub same_first_fault : (bytes : List ℕ) (p q v w : ℕ) → FirstFault bytes p v → FirstFault bytes q w → (p ≡ q) × (v ≡ w)
same_first_fault bytes p q v w f g =
    let same = same_after f.tlvs g.tlvs f.front g.front f.rest g.rest f.offset g.offset v w f.before g.before (sym f.parts ∙ g.parts) f.fault g.fault in
    (f.place_is ∙ same.0 ∙ sym g.place_is, same.1)
