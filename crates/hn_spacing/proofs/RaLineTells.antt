-- What the line on a Router Advertisement tells: its router and its endpoint.
use Rattle.hn_base.proofs.Names.{◌≡◌, ◌∙◌, ℕ, zero, suc, ◌+◌, ◌*◌, ◌/◌, ◌%◌, ◌^◌, ◌<◌, ◌≤◌, Bool, true, false, List, [], ◌∷◌, ◌++◌, append_assoc, length, refl, sym, ap, inl, inr, lit<, arith, ◌==◌}
use Rattle.hn_base.proofs.Names.{if◌then◌else◌, decimal, digits_onto, digit_glyph, list_all, digits_value, pow-suc, pow-le-pow_right, ne_eqb, lt-ltb, cases_lt, and_parts, length-decimal-le, mod_below}
use Rattle.hn_base.proofs.Names.{hex_text, name_text, is_name_byte, Lacks}
use Rattle.hn_spacing.proofs.Names.{EpId, Name, ra_line}
use Rattle.std.specs.Fmt.{digits}
use Rattle.std.proofs.Math.Nat.{le-div_iff_mul-le}
use Rattle.std.proofs.lemmas.Fmt.{decimal_is_IsNumeral_wide}
use Rattle.hn_base.proofs.SplitLemmas.{same_split}

-- ---- names and numbers have no space

no_space : (c : ℕ) → is_name_byte c ≡ true → c ≡ 32 → ⊥
no_space c is same =
    let clash : false ≡ true = ap is_name_byte (sym same) ∙ is in
    cc

lacks_space : (text : List ℕ) → list_all is_name_byte text ≡ true → Lacks 32 text
lacks_space [] all = tt
lacks_space (c ∷ text) all =
    let parts = and_parts (is_name_byte c) (list_all is_name_byte text) all in
    (no_space c parts.0, lacks_space text parts.1)

name_lacks_space : (name : Name) → Lacks 32 (name_text name)
name_lacks_space name = lacks_space (name_text name) name.is_name.name_bytes

glyph_is : (n : ℕ) → digit_glyph false (n % 10) ≡ 48 + n % 10
glyph_is n = rw (lt-ltb (n % 10) 10 (mod_below n 10 (lit< tt))) refl

either : (b : Bool) (xs ys : List ℕ) → Lacks 32 xs → Lacks 32 ys → Lacks 32 (if b then xs else ys)
either true xs ys h k = h
either false xs ys h k = k

digits_lack_space : (k n : ℕ) (acc : List ℕ) → Lacks 32 acc → Lacks 32 (digits_onto k 10 false n acc)
digits_lack_space zero n acc h = h
digits_lack_space (suc k) n acc h =
    let more : Lacks 32 (digit_glyph false (n % 10) ∷ acc) = (λ same. let is = glyph_is n in omega arith, h) in
    either (n / 10 == 0) (digit_glyph false (n % 10) ∷ acc) (digits_onto k 10 false (n / 10) (digit_glyph false (n % 10) ∷ acc)) more
    (digits_lack_space k (n / 10) (digit_glyph false (n % 10) ∷ acc) more)

decimal_lacks_space : (n : ℕ) → Lacks 32 (decimal n)
unfolding digits
decimal_lacks_space n = digits_lack_space 64 n [] tt

-- ---- a short number is known by its text, among all numbers

long : (k n : ℕ) (acc : List ℕ) → 10 ^ k ≤ n → length (digits_onto k 10 false n acc) ≡ k + length acc
long zero n acc large = omega arith
long (suc k) n acc large =
    let power : 10 ^ suc k ≡ 10 ^ k * 10 = pow-suc 10 k in
    let rest : 10 ^ k ≤ n / 10 = (le-div_iff_mul-le {k = 10} {x = 10 ^ k} {y = n} (lit< tt)).1 (omega arith) in
    let some : 10 ^ 0 ≤ 10 ^ k = pow-le-pow_right {n = 10} (lit< tt) {i = 0} {j = k} (omega arith) in
    rw (ne_eqb (n / 10) 0 (λ same. omega arith)) (long k (n / 10) (digit_glyph false (n % 10) ∷ acc) rest ∙ omega arith)

long_decimal : (n : ℕ) → 10 ^ 64 ≤ n → length (decimal n) ≡ 64
unfolding digits
long_decimal n large = long 64 n [] large

short_number : (m n : ℕ) → n < 2 ^ 64 → decimal m ≡ decimal n → m ≡ n
short_number m n small same =
    elim (cases_lt m (10 ^ 64)) [
      | inl below ↦ sym (decimal_is_IsNumeral_wide m below).1 ∙ ap (digits_value 10) same ∙ (decimal_is_IsNumeral_wide n (omega arith)).1
      | inr above ↦
          let short = length-decimal-le 20 n (lit< tt) (omega arith) small in
          let len : length (decimal m) ≡ length (decimal n) = ap length same in
          let large = long_decimal m above in
          absurd (omega arith)
    ]

-- ---- the line

-- its parts, each before a space
parts : (a b c d : List ℕ) → 114 ∷ 97 ∷ 32 ∷ (a ++ 32 ∷ [] ++ b ++ 32 ∷ [] ++ c ++ 32 ∷ [] ++ d ++ 10 ∷ [])
    ≡ 114 ∷ 97 ∷ 32 ∷ (a ++ 32 ∷ (b ++ 32 ∷ (c ++ 32 ∷ (d ++ 10 ∷ []))))
parts a b c d = simp (append_assoc {A = ℕ}) refl

-- two lines that are one, of an endpoint in range
pub record SayTheSame (name other : Name) (e f : EpId) (now past : ℕ) : Type 0 where
  pub texts : name_text other ≡ name_text name
  pub numbers : f.0 ≡ e.0
  pub moments : now < 2 ^ 64 → past ≡ now

pub ra_tells : (name other : Name) (e f : EpId) (now past : ℕ) (bytes others : List ℕ) → e.0 < 2 ^ 32
    → ra_line other f past others ≡ ra_line name e now bytes → SayTheSame name other e f now past
ra_tells name other e f now past bytes others small same =
    let first = parts (name_text other) (decimal f.0) (decimal past) (hex_text others) in
    let second = parts (name_text name) (decimal e.0) (decimal now) (hex_text bytes) in
    let both = sym first ∙ same ∙ second in
    let after : name_text other ++ 32 ∷ (decimal f.0 ++ 32 ∷ (decimal past ++ 32 ∷ (hex_text others ++ 10 ∷ [])))
    ≡ name_text name ++ 32 ∷ (decimal e.0 ++ 32 ∷ (decimal now ++ 32 ∷ (hex_text bytes ++ 10 ∷ []))) = cc in
    let names = same_split 32 (name_text other) _ (name_text name) _ (name_lacks_space other) (name_lacks_space name) after in
    let numbers = same_split 32 (decimal f.0) _ (decimal e.0) _ (decimal_lacks_space f.0) (decimal_lacks_space e.0) names.1 in
    let moments = same_split 32 (decimal past) _ (decimal now) _ (decimal_lacks_space past) (decimal_lacks_space now) numbers.1 in
    record {
      texts = names.0;
      numbers = short_number f.0 e.0 (omega arith) numbers.0;
      moments = λ fits. short_number past now fits moments.0;
    }
