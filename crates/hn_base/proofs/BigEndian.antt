-- Bytes in network byte order and the number that they make, for any count of them; and so for 16.
use Rattle.hn_base.proofs.Names.{◌≡◌, ℕ, zero, suc, ◌+◌, ◌-◌, ◌*◌, ◌/◌, ◌%◌, ◌^◌, ◌<◌, ◌≤◌, List, [], ◌∷◌, ◌++◌, length, get_or, take, drop, replicate, refl, sym, ap, subst, ◌∙◌, arith, All}
use Rattle.hn_base.proofs.Names.{AllByRecursion, w16, w32, w128, byte_at, to_be_bytes, from_be_bytes, length-replicate, length-drop, length-take-le, take-append-drop, take_at}
use Rattle.hn_base.proofs.Names.{from_be_bytes-to_be_bytes_2, from_be_bytes-to_be_bytes_4, pow-add, mod-pow-add, pow-suc, All-from_recursion, IsByte}
use Rattle.std.specs.Int.{byte_worth, bytes_high_first, sum_through}
use Rattle.std.proofs.lemmas.List.{length-append}
use Rattle.std.proofs.lemmas.Nat.{be_bytes_2, mul-add-lt, same_from_place, mod_low}
use Rattle.hn_base.proofs.EachByRecursion.{AllByRecursion-append, AllByRecursion-take, AllByRecursion-drop}

-- the number that bytes make
pub be : List ℕ → ℕ
be [] = 0
be (b ∷ bs) = b * 2 ^ (8 * length bs) + be bs

abbrev pub Bytes : List ℕ → Type 0
Bytes bs = AllByRecursion (λ b. b < 256) bs

pub Bytes-append : (xs ys : List ℕ) → Bytes xs → Bytes ys → Bytes (xs ++ ys)
Bytes-append = AllByRecursion-append (λ b. b < 256)

pub Bytes-take : (n : ℕ) (xs : List ℕ) → Bytes xs → Bytes (take n xs)
Bytes-take = AllByRecursion-take (λ b. b < 256)

pub Bytes-drop : (n : ℕ) (xs : List ℕ) → Bytes xs → Bytes (drop n xs)
Bytes-drop = AllByRecursion-drop (λ b. b < 256)

-- each place has a byte, or nothing
abbrev pub AreOctets : List ℕ → Type 0
AreOctets bytes = (i : ℕ) → get_or bytes i 0 < 256

pub octets : (bs : List ℕ) → Bytes bs → AreOctets bs
octets [] h i = omega arith
octets (b ∷ bs) h zero = h.0
octets (b ∷ bs) h (suc i) = octets bs h.1 i

pub Bytes-from_reads : (bs : List ℕ) → AreOctets bs → Bytes bs
Bytes-from_reads [] h = tt
Bytes-from_reads (b ∷ bs) h = (h 0, Bytes-from_reads bs (λ i. h (suc i)))

Bytes-zeros : (n : ℕ) → Bytes (replicate n 0)
Bytes-zeros zero = tt
Bytes-zeros (suc n) = (omega arith, Bytes-zeros n)

-- ---- the number of a list of bytes

next_power : (k : ℕ) → 2 ^ (8 * suc k) ≡ 256 * 2 ^ (8 * k)
next_power k = let e : 8 * suc k ≡ 8 + 8 * k = omega arith in ap (λ n. 2 ^ n) e ∙ pow-add 2 8 (8 * k)

both_powers : (m n : ℕ) → 2 ^ (8 * (m + n)) ≡ 2 ^ (8 * m) * 2 ^ (8 * n)
both_powers m n = let e : 8 * (m + n) ≡ 8 * m + 8 * n = omega arith in ap (λ n. 2 ^ n) e ∙ pow-add 2 (8 * m) (8 * n)

pub be_small : (bs : List ℕ) → Bytes bs → be bs < 2 ^ (8 * length bs)
unfolding be
be_small [] h = omega arith
be_small (b ∷ bs) h =
    omega (arith, next_power (length bs), mul-add-lt b (2 ^ (8 * length bs)) (be bs) 256 h.0 (be_small bs h.1))

pub be_same : (xs ys : List ℕ) → length xs ≡ length ys → Bytes xs → Bytes ys → be xs ≡ be ys → xs ≡ ys
unfolding be
be_same [] [] len h k e = refl
be_same [] (y ∷ ys) len h k e = absurd (omega arith)
be_same (x ∷ xs) [] len h k e = absurd (omega arith)
be_same (x ∷ xs) (y ∷ ys) len h k e =
    let lens : length xs ≡ length ys = omega arith in
    let e' : x * 2 ^ (8 * length xs) + be xs ≡ y * 2 ^ (8 * length xs) + be ys = e ∙ ap (λ n. y * 2 ^ (8 * n) + be ys) (sym lens) in
    let small : be ys < 2 ^ (8 * length xs) = subst (λ n. be ys < 2 ^ (8 * n)) (sym lens) (be_small ys k.1) in
    let same = same_from_place x (be xs) y (be ys) (2 ^ (8 * length xs)) (be_small xs h.1) small e' in
    rw (same.0, be_same xs ys lens h.1 k.1 same.1) refl

be-append : (xs ys : List ℕ) → be (xs ++ ys) ≡ be xs * 2 ^ (8 * length ys) + be ys
unfolding be
be-append [] ys = omega arith
be-append (x ∷ xs) ys =
    let len : 2 ^ (8 * length (xs ++ ys)) ≡ 2 ^ (8 * length xs) * 2 ^ (8 * length ys) = ap (λ n. 2 ^ (8 * n)) (length-append xs ys) ∙ both_powers (length xs) (length ys) in
    rw (len, be-append xs ys) (omega arith)

be-zeros : (n : ℕ) → be (replicate n 0) ≡ 0
unfolding be
be-zeros zero = refl
be-zeros (suc n) = omega (arith, be-zeros n)

-- ---- the bytes of a number

length-high : (k n : ℕ) → length (bytes_high_first k n) ≡ k
length-high zero n = refl
length-high (suc k) n = ap suc (length-high k n)

power_256 : (k : ℕ) → 256 ^ k ≡ 2 ^ (8 * k)
power_256 zero = refl
power_256 (suc k) = rw (pow-suc) (omega (arith, next_power k, power_256 k))

byte_at-is : (k n : ℕ) → byte_at k n ≡ n / 2 ^ (8 * k) % 256
byte_at-is zero n = omega arith
byte_at-is (suc k) n = ap (λ m. n / m % 256) (power_256 (suc k))

pub byte_small : (i n : ℕ) → byte_at i n < 2 ^ 8
byte_small zero n = omega arith
byte_small (suc i) n = omega arith

pub high_bytes : (k n : ℕ) → Bytes (bytes_high_first k n)
high_bytes zero n = tt
high_bytes (suc k) n = (byte_small k n, high_bytes k n)

pub number_bytes : (k n : ℕ) → All IsByte (bytes_high_first k n)
number_bytes k n = All-from_recursion (λ (byte : ℕ). byte < 2 ^ 8) (bytes_high_first k n) (high_bytes k n)

be-high : (k n : ℕ) → be (bytes_high_first k n) ≡ n % 2 ^ (8 * k)
unfolding be
be-high zero n = omega arith
be-high (suc k) n =
    let len : 2 ^ (8 * length (bytes_high_first k n)) ≡ 2 ^ (8 * k) = ap (λ m. 2 ^ (8 * m)) (length-high k n) in
    let size : 8 * suc k ≡ 8 + 8 * k = omega arith in
    rw (len, be-high k n, byte_at-is k n, size, mod-pow-add n 8 (8 * k)) refl

-- ---- two bytes

-- they are those of the number that they make
pub two_bytes : (a b : ℕ) → a < 256 → b < 256 → to_be_bytes w16 (from_be_bytes w16 (a ∷ b ∷ [])) ≡ a ∷ b ∷ []
two_bytes a b p q = be_bytes_2 (a ∷ b ∷ []) (from_be_bytes w16 (a ∷ b ∷ [])) refl (octets (a ∷ b ∷ []) (p, (q, tt))) refl

pub two_small : (a b : ℕ) → a < 256 → b < 256 → from_be_bytes w16 (a ∷ b ∷ []) < 2 ^ 16
two_small a b p q = omega arith

-- a number of 16 bits is known by its bytes
pub same_two : (m n : ℕ) → m < 2 ^ 16 → n < 2 ^ 16 → to_be_bytes w16 m ≡ to_be_bytes w16 n → m ≡ n
same_two m n m_fits n_fits e = sym (from_be_bytes-to_be_bytes_2 m m_fits) ∙ ap (from_be_bytes w16) e ∙ from_be_bytes-to_be_bytes_2 n n_fits

-- ---- four bytes

-- a number of 32 bits is known by its bytes
pub same_words : (m n : ℕ) → m < 2 ^ 32 → n < 2 ^ 32 → to_be_bytes w32 m ≡ to_be_bytes w32 n → m ≡ n
same_words m n m_fits n_fits e =
    sym (from_be_bytes-to_be_bytes_4 m m_fits) ∙ ap (from_be_bytes w32) e ∙ from_be_bytes-to_be_bytes_4 n n_fits

from_be_bytes-be_4 : (bs : List ℕ) → length bs ≡ 4 → from_be_bytes w32 bs ≡ be bs
unfolding be
from_be_bytes-be_4 (b0 ∷ b1 ∷ b2 ∷ b3 ∷ []) len = omega arith
from_be_bytes-be_4 _ len = absurd (omega arith)

-- four bytes are those of the number that they make
pub word_small : (bs : List ℕ) → length bs ≡ 4 → Bytes bs → from_be_bytes w32 bs < 2 ^ 32
word_small bs len h = rw (from_be_bytes-be_4 bs len) (subst (λ n. be bs < 2 ^ (8 * n)) len (be_small bs h))

pub word_is : (bs : List ℕ) → length bs ≡ 4 → Bytes bs → bs ≡ to_be_bytes w32 (from_be_bytes w32 bs)
word_is bs len h =
    let number : ℕ = be bs in
    let small : number < 2 ^ 32 = subst (λ n. be bs < 2 ^ (8 * n)) len (be_small bs h) in
    let whole : be bs ≡ be (bytes_high_first 4 number) = sym (be-high 4 number ∙ omega arith) in
    be_same bs (bytes_high_first 4 number) (len ∙ sym (length-high 4 number)) h (high_bytes 4 number) whole ∙ ap (bytes_high_first 4) (sym (from_be_bytes-be_4 bs len))

-- ---- sixteen bytes

from_be_bytes-be : (bs : List ℕ) → length bs ≡ 16 → from_be_bytes w128 bs ≡ be bs
unfolding be
from_be_bytes-be (b0 ∷ b1 ∷ b2 ∷ b3 ∷ b4 ∷ b5 ∷ b6 ∷ b7 ∷ b8 ∷ b9 ∷ b10 ∷ b11 ∷ b12 ∷ b13 ∷ b14 ∷ b15 ∷ []) len = omega arith
from_be_bytes-be _ len = absurd (omega arith)

read_padded : (bs : List ℕ) (n i : ℕ) → get_or bs i 0 ≡ get_or (bs ++ replicate n 0) i 0
read_padded [] zero i = refl
read_padded [] (suc n) zero = refl
read_padded [] (suc n) (suc i) = read_padded [] n i
read_padded (b ∷ bs) n zero = refl
read_padded (b ∷ bs) n (suc i) = read_padded bs n i

same_sum : (f g : ℕ → ℕ) → ((i : ℕ) → f i ≡ g i) → (n : ℕ) → sum_through f n ≡ sum_through g n
same_sum f g h zero = h 0
same_sum f g h (suc n) = rw (same_sum f g h n, h (suc n)) refl

-- zeros after the bytes change nothing, since bytes that are missing count as zeros
pub from_be_bytes-padded : (bs : List ℕ) (n : ℕ) → from_be_bytes w128 bs ≡ from_be_bytes w128 (bs ++ replicate n 0)
from_be_bytes-padded bs n =
    same_sum (λ i. byte_worth (15 - i) (get_or bs i 0)) (λ i. byte_worth (15 - i) (get_or (bs ++ replicate n 0) i 0)) (λ i. ap (byte_worth (15 - i)) (read_padded bs n i)) 15

-- what a front of sixteen bytes makes
front_number : (bs : List ℕ) → length bs ≤ 16 → from_be_bytes w128 bs ≡ be (bs ++ replicate (16 - length bs) 0)
front_number bs few =
    let zeros : List ℕ = replicate (16 - length bs) 0 in
    let len : length (bs ++ zeros) ≡ 16 = omega (arith, length-append bs zeros, length-replicate {A = ℕ} (16 - length bs) 0) in
    from_be_bytes-padded bs (16 - length bs) ∙ from_be_bytes-be (bs ++ zeros) len

padded_small : (bs : List ℕ) → length bs ≤ 16 → Bytes bs → be (bs ++ replicate (16 - length bs) 0) < 2 ^ 128
padded_small bs few h =
    let zeros : List ℕ = replicate (16 - length bs) 0 in
    let len : length (bs ++ zeros) ≡ 16 = omega (arith, length-append bs zeros, length-replicate {A = ℕ} (16 - length bs) 0) in
    subst (λ n. be (bs ++ zeros) < 2 ^ (8 * n)) len (be_small (bs ++ zeros) (Bytes-append bs zeros h (Bytes-zeros (16 - length bs))))

pub front_small : (bs : List ℕ) → length bs ≤ 16 → Bytes bs → from_be_bytes w128 bs < 2 ^ 128
front_small bs few h = rw (front_number bs few) (padded_small bs few h)

-- the bytes that are read are the first ones of the number's sixteen
pub front_is : (bs : List ℕ) → length bs ≤ 16 → Bytes bs → take (length bs) (to_be_bytes w128 (from_be_bytes w128 bs)) ≡ bs
front_is bs few h =
    let zeros : List ℕ = replicate (16 - length bs) 0 in
    let number : ℕ = be (bs ++ zeros) in
    let len : length (bs ++ zeros) ≡ 16 = omega (arith, length-append bs zeros, length-replicate {A = ℕ} (16 - length bs) 0) in
    let small : number < 2 ^ 128 = padded_small bs few h in
    let whole : be (bytes_high_first 16 number) ≡ number = be-high 16 number ∙ omega arith in
    let same : bytes_high_first 16 number ≡ bs ++ zeros = be_same (bytes_high_first 16 number) (bs ++ zeros) (length-high 16 number ∙ sym len)
    (high_bytes 16 number) (Bytes-append bs zeros h (Bytes-zeros (16 - length bs))) whole in
    ap (λ n. take (length bs) (bytes_high_first 16 n)) (front_number bs few) ∙ ap (take (length bs)) same ∙ take_at bs zeros (length bs) refl

pub whole_is : (bs : List ℕ) → length bs ≡ 16 → Bytes bs → bs ≡ to_be_bytes w128 (from_be_bytes w128 bs)
whole_is bs len h =
    let number : ℕ = be bs in
    let small : number < 2 ^ 128 = subst (λ n. be bs < 2 ^ (8 * n)) len (be_small bs h) in
    let whole : be bs ≡ be (bytes_high_first 16 number) = sym (be-high 16 number ∙ omega arith) in
    be_same bs (bytes_high_first 16 number) (len ∙ sym (length-high 16 number)) h (high_bytes 16 number) whole ∙ ap (bytes_high_first 16) (sym (from_be_bytes-be bs len))

pub number_again : (n : ℕ) → n < 2 ^ 128 → from_be_bytes w128 (to_be_bytes w128 n) ≡ n
number_again n small = from_be_bytes-be (bytes_high_first 16 n) (length-high 16 n) ∙ be-high 16 n ∙ omega arith

-- a number with zeros after its first bytes is read again from those
pub front_again : (bits n : ℕ) → bits < 2 ^ 128 → n ≤ 16 → bits % 2 ^ (8 * (16 - n)) ≡ 0 → from_be_bytes w128 (take n (to_be_bytes w128 bits)) ≡ bits
front_again bits n small few zeros =
    let all : List ℕ = bytes_high_first 16 bits in
    let front : List ℕ = take n all in
    let back : List ℕ = drop n all in
    let whole : be all ≡ bits = be-high 16 bits ∙ omega arith in
    let front_len : length front ≡ n = length-take-le n all (omega (arith, length-high 16 bits)) in
    let back_len : length back ≡ 16 - n = length-drop n all ∙ ap (λ m. m - n) (length-high 16 bits) in
    let rest_len : 16 - length front ≡ 16 - n = ap (λ m. 16 - m) front_len in
    let split : be front * 2 ^ (8 * (16 - n)) + be back ≡ bits = ap (λ m. be front * 2 ^ (8 * m) + be back) (sym back_len) ∙ sym (be-append front back) ∙ ap be (take-append-drop n all) ∙ whole in
    let back_small : be back < 2 ^ (8 * (16 - n)) = subst (λ m. be back < 2 ^ (8 * m)) back_len (be_small back (Bytes-drop n all (high_bytes 16 bits))) in
    let nothing : be back ≡ 0 = sym (mod_low (be front) (8 * (16 - n)) (be back) back_small) ∙ ap (λ m. m % 2 ^ (8 * (16 - n))) split ∙ zeros in
    let padded : be (front ++ replicate (16 - n) 0) ≡ be front * 2 ^ (8 * (16 - n)) + 0 = be-append front (replicate (16 - n) 0) ∙ rw (length-replicate {A = ℕ} (16 - n) 0, be-zeros (16 - n)) refl in
    front_number front (omega arith) ∙ ap (λ m. be (front ++ replicate m 0)) rest_len ∙ padded ∙ omega arith

-- what has no bit below a place has none below a lower place
pub zeros_below : (n i k : ℕ) → k ≤ i → n % 2 ^ i ≡ 0 → n % 2 ^ k ≡ 0
zeros_below n i k le e =
    let parts : i - k + k ≡ i = omega arith in
    let sum : (n / 2 ^ k % 2 ^ (i - k)) * 2 ^ k + n % 2 ^ k ≡ 0 = sym (mod-pow-add n (i - k) k) ∙ ap (λ m. n % 2 ^ m) parts ∙ e in
    omega arith
