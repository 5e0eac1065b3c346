-- A TLV at a place.
use Rattle.hn_base.proofs.Names.{◌≡◌, ℕ, ◌+◌, ◌-◌, ◌*◌, ◌≤◌, List, [], ◌∷◌, ◌++◌, length, take, drop, replicate, refl, sym, ap, subst, ◌∙◌, append_assoc, arith, append-nil, take-append-drop}
use Rattle.hn_base.proofs.Names.{length-replicate, length-take-le, length_push, drop-drop, drop_at, take_at, take_all}
use Rattle.hn_tlv.proofs.Names.{length-append, PlainTlv, IsTlv, padding, tlv_size, spelling, IsTlvList, IsTlvAt, IsFault, FirstFault}
use Rattle.hn_tlv.proofs.OneReading.{same_begin, joined, rest_of}

pub length-spelling : (t : PlainTlv) → length (spelling t) ≡ tlv_size (length t.value)
length-spelling t =
    let zeros = replicate {A = ℕ} (padding (length t.value)) 0 in
    let zeros_len : length zeros ≡ padding (length t.value) = length-replicate (padding (length t.value)) 0 in
    let len : length (t.value ++ zeros) ≡ length t.value + length zeros = length-append t.value zeros in
    omega (arith, zeros_len, len)

pub read_again : (t : PlainTlv) (front rest : List ℕ) → IsTlv t → IsTlvAt (front ++ (spelling t ++ rest)) (length front) t (length front + tlv_size (length t.value))
read_again t front rest valid =
    let all = front ++ (spelling t ++ rest) in
    let here : drop (length front) all ≡ spelling t ++ rest = drop_at front (spelling t ++ rest) (length front) refl in
    let later : drop (length front + tlv_size (length t.value)) all ≡ rest =
    sym (drop-drop (tlv_size (length t.value)) (length front) all) ∙ ap (drop (tlv_size (length t.value))) here ∙ drop_at (spelling t) rest (tlv_size (length t.value)) (length-spelling t) in
    let len : length all ≡ length front + (length (spelling t) + length rest) = length-append front (spelling t ++ rest) ∙ ap (λ n. length front + n) (length-append (spelling t) rest) in
    record {
      valid = valid;
      spelled = here ∙ ap (λ (z : List ℕ). spelling t ++ z) (sym later);
      ends = refl;
      within = omega (arith, len, length-spelling t);
    }

pub only_one : (t : PlainTlv) → IsTlv t → IsTlvList (t ∷ []) (spelling t)
only_one t valid = ([], valid, sym (append-nil (spelling t)), refl)

-- bytes that are one TLV
pub alone : (t : PlainTlv) (bytes : List ℕ) → IsTlv t → bytes ≡ spelling t → IsTlvAt bytes 0 t (length bytes)
alone t bytes valid e =
    let whole : spelling t ++ [] ≡ bytes = append-nil (spelling t) ∙ sym e in
    let len : length bytes ≡ tlv_size (length t.value) = ap length e ∙ length-spelling t in
    let size : 0 + tlv_size (length t.value) ≡ length bytes = omega arith in
    subst (λ (n : ℕ). IsTlvAt bytes 0 t n) size (subst (λ (z : List ℕ). IsTlvAt z 0 t (0 + tlv_size (length t.value))) whole (read_again t [] [] valid))

pub goes_on : (bytes : List ℕ) (at after : ℕ) (t : PlainTlv) (ts : List PlainTlv) → IsTlvAt bytes at t after → IsTlvList ts (drop after bytes) → IsTlvList (t ∷ ts) (drop at bytes)
goes_on bytes at after t ts here l = (drop after bytes, here.valid, here.spelled, l)

pub splits : (bytes : List ℕ) (at after : ℕ) (t : PlainTlv) (all : List PlainTlv) → IsTlvAt bytes at t after → IsTlvList all (drop at bytes)
    → (ts : List PlainTlv) × (all ≡ t ∷ ts) × IsTlvList ts (drop after bytes)
splits bytes at after t all here l = rest_of t all (drop at bytes) (drop after bytes) here.valid here.spelled l

-- the TLV that begins the bytes from a place on is the one at that place
pub same_at : (bytes : List ℕ) (at size after : ℕ) (t u : PlainTlv) → IsTlvAt (drop at bytes) 0 t size → IsTlvAt bytes at u after → (t ≡ u) × (at + size ≡ after)
same_at bytes at size after t u first here =
    let same = same_begin t u (drop size (drop at bytes)) (drop after bytes) first.valid here.valid (sym first.spelled ∙ here.spelled) in
    let sizes : tlv_size (length t.value) ≡ tlv_size (length u.value) = ap (λ (v : PlainTlv). tlv_size (length v.value)) same.0 in
    (same.0, omega (arith, first.ends, here.ends, sizes))

-- at a place stands at most one TLV
pub same_place : (bytes : List ℕ) (at m n : ℕ) (t u : PlainTlv) → IsTlvAt bytes at t m → IsTlvAt bytes at u n → (t ≡ u) × (m ≡ n)
same_place bytes at m n t u first here =
    let same = same_begin t u (drop m bytes) (drop n bytes) first.valid here.valid (sym first.spelled ∙ here.spelled) in
    let sizes : tlv_size (length t.value) ≡ tlv_size (length u.value) = ap (λ (v : PlainTlv). tlv_size (length v.value)) same.0 in
    (same.0, omega (arith, first.ends, here.ends, sizes))

take_after : (bytes : List ℕ) (at after : ℕ) (t : PlainTlv) → IsTlvAt bytes at t after → take after bytes ≡ take at bytes ++ spelling t
take_after bytes at after t here =
    let split : bytes ≡ (take at bytes ++ spelling t) ++ drop after bytes =
    sym (take-append-drop at bytes) ∙ ap (λ (z : List ℕ). take at bytes ++ z) here.spelled ∙ sym (append_assoc (take at bytes) (spelling t) (drop after bytes)) in
    let front_len : length (take at bytes) ≡ at = length-take-le at bytes (omega (arith, here.ends, here.within)) in
    let len : length (take at bytes ++ spelling t) ≡ after = length-append (take at bytes) (spelling t) ∙ omega (arith, front_len, length-spelling t, here.ends) in
    ap (take after) split ∙ take_at (take at bytes ++ spelling t) (drop after bytes) after len

-- a list up to a place, and the TLV there
pub grows : (bytes : List ℕ) (at after : ℕ) (t : PlainTlv) (ts : List PlainTlv) → IsTlvList ts (take at bytes) → IsTlvAt bytes at t after → IsTlvList (ts ++ t ∷ []) (take after bytes)
grows bytes at after t ts l here = subst (IsTlvList (ts ++ t ∷ [])) (sym (take_after bytes at after t here)) (joined ts (t ∷ []) (take at bytes) (spelling t) l (only_one t here.valid))

-- a list up to a place, and a fault there
pub breaks_off : (bytes : List ℕ) (at place why : ℕ) (ts : List PlainTlv) → at ≤ length bytes → IsTlvList ts (take at bytes) → at ≤ place
    → IsFault (drop at bytes) (place - at) why → FirstFault bytes place why
breaks_off bytes at place why ts within l later f = record {
  tlvs = ts;
  front = take at bytes;
  rest = drop at bytes;
  offset = place - at;
  before = l;
  parts = sym (take-append-drop at bytes);
  fault = f;
  place_is = let front_len : length (take at bytes) ≡ at = length-take-le at bytes within in omega arith;
}

-- the bytes before a place are a list of so many TLVs
pub record IsReadTo (bytes : List ℕ) (at count : ℕ) : Type 0 where
  pub within : at ≤ length bytes
  pub few : 4 * count ≤ at
  pub tlvs : List PlainTlv
  pub list : IsTlvList tlvs (take at bytes)
  pub count_is : length tlvs ≡ count

pub reads_more : (bytes : List ℕ) (at after count : ℕ) (t : PlainTlv) → IsReadTo bytes at count → IsTlvAt bytes at t after → IsReadTo bytes after (count + 1)
reads_more bytes at after count t read here = record {
  within = here.within;
  few = omega (arith, read.few, here.ends);
  tlvs = read.tlvs ++ t ∷ [];
  list = grows bytes at after t read.tlvs read.list here;
  count_is = length_push read.tlvs t ∙ ap (λ n. n + 1) read.count_is;
}

-- what was read to the end is all of the bytes
pub reads_all : (bytes : List ℕ) (at count : ℕ) (read : IsReadTo bytes at count) → at ≡ length bytes → IsTlvList read.tlvs bytes
reads_all bytes at count read ends = subst (IsTlvList read.tlvs) (take_all at bytes (omega arith)) read.list
