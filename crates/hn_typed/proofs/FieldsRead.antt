-- The fields of a value are read from its bytes.
use Rattle.hn_base.proofs.Names.{◌≡◌, ℕ, suc, ◌+◌, ◌-◌, ◌/◌, ◌%◌, ◌^◌, ◌<◌, ◌≤◌, ◌⊎◌, inl, inr, List, [], ◌∷◌, ◌++◌, length, get_or, take, drop, refl, sym, ap, subst, ◌∙◌, append_assoc, arith, w32}
use Rattle.hn_base.proofs.Names.{w128, to_be_bytes, from_be_bytes, cases_eq, cases_lt, append-nil, length-take-le, take-append-drop, take_at, drop_at, All-from_recursion, from_be_bytes-to_be_bytes_4}
use Rattle.hn_base.proofs.Names.{IsByte, PlainPrefix, IsPrefix, OnCause, NoCause}
use Rattle.hn_typed.proofs.Names.{length-append, Bytes, Bytes-take, Bytes-drop, whole_is, two_in_byte, prefix_field, bytes_for, ValueField, Word, Ipv6, Hash, Prefixed, Halves, LowerHalf, Reserved}
use Rattle.hn_typed.proofs.Names.{AreInFields, field_bytes, fields_bytes, prefix_bits, field_size, IsFieldFault}
use Rattle.hn_base.proofs.BigEndian.{word_is, word_small, front_small, number_again}
use Rattle.hn_typed.specs.Fields.{IsHash}
use Rattle.hn_typed.specs.Shape.{IsInField}
use Rattle.hn_typed.specs.Fault.{prefix_len}
use Rattle.hn_typed.proofs.Prefixes.{prefix_read, length-prefix_field, bits_read}

-- ---- one field

-- the field that bytes begin with, of the same sort as a field
abbrev pub field_at : ValueField → List ℕ → ValueField
field_at (Word n) bytes = Word (from_be_bytes w32 (take 4 bytes))
field_at (Ipv6 address) bytes = Ipv6 (from_be_bytes w128 (take 16 bytes))
field_at (Hash hash) bytes = Hash (take 8 bytes)
field_at (Prefixed prefix) bytes = Prefixed (record { bits = prefix_bits bytes; len = prefix_len bytes })
field_at (Halves upper lower) bytes = Halves (get_or bytes 0 0 / 16) (get_or bytes 0 0 % 16)
field_at (LowerHalf n) bytes = LowerHalf (get_or bytes 0 0 % 16)
field_at Reserved bytes = Reserved

-- a field is what its bytes are read as
pub field_is : (reserved : ℕ) (field : ValueField) (after : List ℕ) → IsInField field → field ≡ field_at field (field_bytes reserved field ++ after)
field_is r (Word n) after fits = ap Word (sym (from_be_bytes-to_be_bytes_4 n fits))
field_is r (Ipv6 address) after fits = ap Ipv6 (sym (number_again address fits))
field_is r (Hash hash) after fits = ap Hash (sym (take_at hash after 8 fits.0))
field_is r (Prefixed prefix) after valid =
    ap (λ bits. let p : PlainPrefix = record { bits = bits; len = prefix.len } in Prefixed p) (sym (bits_read prefix after valid))
field_is r (Halves upper lower) after fits =
    let h : upper ≡ two_in_byte upper lower / 16 = omega (arith, fits.1) in
    let l : lower ≡ two_in_byte upper lower % 16 = omega (arith, fits.1) in
    ap (λ n. Halves n lower) h ∙ ap (Halves (two_in_byte upper lower / 16)) l
field_is r (LowerHalf n) after fits = let l : n ≡ two_in_byte r n % 16 = omega (arith, fits) in ap LowerHalf l
field_is r Reserved after fits = refl

pub field_len : (reserved : ℕ) (field : ValueField) (after : List ℕ) → IsInField field → length (field_bytes reserved field) ≡ field_size field (field_bytes reserved field ++ after)
field_len r (Word n) after fits = refl
field_len r (Ipv6 address) after fits = refl
field_len r (Hash hash) after fits = fits.0
field_len r (Prefixed prefix) after valid = length-prefix_field prefix valid
field_len r (Halves upper lower) after fits = refl
field_len r (LowerHalf n) after fits = refl
field_len r Reserved after fits = refl

-- no cause of a fault holds in a field
abbrev pub IsSound : ValueField → List ℕ → Type 0
IsSound field bytes = (why : ℕ) → ¬ (IsFieldFault field bytes why)

-- so many bytes are there
pub none_cut : (size : ℕ) (bytes : List ℕ) → size ≤ length bytes → (why : ℕ) → ¬ (OnCause (length bytes < size) 1 NoCause why)
none_cut size bytes enough why (inl short) = omega (arith, short.0, enough)
none_cut size bytes enough why (inr none) = none.1

size_there : (reserved : ℕ) (field : ValueField) (after : List ℕ) → IsInField field → field_size field (field_bytes reserved field ++ after) ≤ length (field_bytes reserved field ++ after)
size_there r field after fits = omega (arith, field_len r field after fits, length-append (field_bytes r field) after)

pub sound : (reserved : ℕ) (field : ValueField) (after : List ℕ) → IsInField field → IsSound field (field_bytes reserved field ++ after)
sound r (Prefixed prefix) after valid why (inl long) = let above : 128 < prefix.len = long.0 in omega (arith, above, valid.len_in_range)
sound r (Prefixed prefix) after valid why (inr (_, inl short)) = omega (arith, short.0, size_there r (Prefixed prefix) after valid)
sound r (Prefixed prefix) after valid why (inr (_, inr (_, inl bit))) = bit.0 (ap (λ n. n % 2 ^ (128 - prefix.len)) (bits_read prefix after valid) ∙ valid.no_bit_past_len)
sound r (Prefixed prefix) after valid why (inr (_, inr (_, inr (_, none)))) = none
sound r field after fits why cut = none_cut (field_size field (field_bytes r field ++ after)) (field_bytes r field ++ after) (size_there r field after fits) why cut

-- bytes begin with a field of that sort
pub record BeginsWith (field : ValueField) (bytes : List ℕ) : Type 0 where
  pub reserved : ℕ
  pub in_field : IsInField (field_at field bytes)
  pub parts : bytes ≡ field_bytes reserved (field_at field bytes) ++ drop (field_size field bytes) bytes

pub begins_soundly : (field : ValueField) (bytes : List ℕ) → BeginsWith field bytes → IsSound field bytes
begins_soundly field bytes b why fault =
    of_sort field bytes (subst (IsSound (field_at field bytes)) (sym b.parts) (sound b.reserved (field_at field bytes) (drop (field_size field bytes) bytes) b.in_field)) why fault
  where
    of_sort : (field : ValueField) (bytes : List ℕ) → IsSound (field_at field bytes) bytes → IsSound field bytes
    of_sort (Prefixed prefix) bytes is = is
    of_sort _ bytes is = is

-- its bytes are as many as such a field takes
pub begun_len : (field : ValueField) (bytes : List ℕ) (b : BeginsWith field bytes) → length (field_bytes b.reserved (field_at field bytes)) ≡ field_size field bytes
begun_len field bytes b = field_len b.reserved (field_at field bytes) (drop (field_size field bytes) bytes) b.in_field ∙ ap (field_size (field_at field bytes)) (sym b.parts) ∙ of_sort field bytes
  where
    of_sort : (field : ValueField) (bytes : List ℕ) → field_size (field_at field bytes) bytes ≡ field_size field bytes
    of_sort (Prefixed prefix) bytes = refl
    of_sort _ bytes = refl

drop_one_more : (n b : ℕ) (bytes : List ℕ) → drop (1 + n) (b ∷ bytes) ≡ drop n bytes
drop_one_more n b bytes = let more : 1 + n ≡ suc n = omega arith in ap (λ m. drop m (b ∷ bytes)) more

-- bytes begin with a field of that sort, or have a fault there
abbrev BeginsOr : ValueField → List ℕ → Type 0
BeginsOr field bytes = BeginsWith field bytes ⊎ ((why : ℕ) × IsFieldFault field bytes why)

-- a field of a fixed size, which is all that can be missing
sized : {B : Type 0} (size : ℕ) (bytes : List ℕ) → (size ≤ length bytes → B) → B ⊎ ((why : ℕ) × OnCause (length bytes < size) 1 NoCause why)
sized size bytes begins =
    elim (cases_lt (length bytes) size) [
      | inl short ↦ inr (1, inl (short, refl))
      | inr enough ↦ inl (begins enough)
    ]

prefix_or_fault : (prefix : PlainPrefix) (len : ℕ) (tail : List ℕ) → Bytes tail → BeginsOr (Prefixed prefix) (len ∷ tail)
prefix_or_fault prefix len tail fit =
    elim (cases_lt 128 len) [
      | inl long ↦ inr (3, inl (long, refl))
      | inr in_range ↦
          elim (cases_lt (length (len ∷ tail)) (1 + bytes_for len)) [
            | inl short ↦ inr (1, inr ((λ long. omega (arith, long, in_range)), inl (short, refl)))
            | inr enough ↦
                let front : List ℕ = take (bytes_for len) tail in
                let front_len : length front ≡ bytes_for len = length-take-le (bytes_for len) tail (omega (arith, enough)) in
                let front_fits : Bytes front = Bytes-take (bytes_for len) tail fit in
                elim (cases_eq (from_be_bytes w128 front % 2 ^ (128 - len)) 0) [
                  | inr bit ↦ inr (3, inr ((λ long. omega (arith, long, in_range)), inr ((λ short. omega (arith, short, enough)), inl (bit, refl))))
                  | inl none ↦
                      inl (record {
                        reserved = 0;
                        in_field = record { len_in_range = in_range; bits_in_range = front_small front (omega arith) front_fits; no_bit_past_len = none };
                        parts =
                            prefix_read (len ∷ tail) tail front (drop (bytes_for len) tail) len (from_be_bytes w128 front) refl refl refl front_len in_range front_fits refl
                            ∙ ap (λ (z : List ℕ). prefix_field (record { bits = from_be_bytes w128 front; len = len }) ++ z) (sym (drop_one_more (bytes_for len) len tail));
                      })
                ]
          ]
    ]

pub field_or_fault : (field : ValueField) (bytes : List ℕ) → Bytes bytes → BeginsOr field bytes
field_or_fault (Prefixed prefix) [] fit = inr (1, inr ((λ long. omega (arith, long)), inl (omega arith, refl)))
field_or_fault (Prefixed prefix) (len ∷ tail) fit = prefix_or_fault prefix len tail fit.1
field_or_fault (Word n) bytes fit = sized 4 bytes (λ enough.
    let len : length (take 4 bytes) ≡ 4 = length-take-le 4 bytes enough in
    let front : Bytes (take 4 bytes) = Bytes-take 4 bytes fit in
    record { reserved = 0; in_field = word_small (take 4 bytes) len front; parts = sym (take-append-drop 4 bytes) ∙ ap (λ (z : List ℕ). z ++ drop 4 bytes) (word_is (take 4 bytes) len front) })
field_or_fault (Ipv6 address) bytes fit = sized 16 bytes (λ enough.
    let len : length (take 16 bytes) ≡ 16 = length-take-le 16 bytes enough in
    let front : Bytes (take 16 bytes) = Bytes-take 16 bytes fit in
    record {
      reserved = 0;
      in_field = front_small (take 16 bytes) (omega arith) front;
      parts = sym (take-append-drop 16 bytes) ∙ ap (λ (z : List ℕ). z ++ drop 16 bytes) (whole_is (take 16 bytes) len front);
    })
field_or_fault (Hash hash) bytes fit = sized 8 bytes (λ enough.
    let valid : IsHash (take 8 bytes) = (length-take-le 8 bytes enough, All-from_recursion IsByte (take 8 bytes) (Bytes-take 8 bytes fit)) in
    record { reserved = 0; in_field = valid; parts = sym (take-append-drop 8 bytes) })
field_or_fault (Halves upper lower) [] fit = inr (1, inl (omega arith, refl))
field_or_fault (Halves upper lower) (b ∷ bytes) fit =
    let small : b < 256 = fit.0 in
    let parts : b ≡ two_in_byte (b / 16) (b % 16) = omega arith in
    inl (record { reserved = 0; in_field = (omega arith, omega arith); parts = ap (λ n. n ∷ bytes) parts })
field_or_fault (LowerHalf n) [] fit = inr (1, inl (omega arith, refl))
field_or_fault (LowerHalf n) (b ∷ bytes) fit =
    let parts : b ≡ two_in_byte (b / 16) (b % 16) = omega arith in
    inl (record { reserved = b / 16; in_field = omega arith; parts = ap (λ n. n ∷ bytes) parts })
field_or_fault Reserved [] fit = inr (1, inl (omega arith, refl))
field_or_fault Reserved (b ∷ bytes) fit = inl (record { reserved = b; in_field = tt; parts = refl })

-- ---- a list of fields

-- the fields that bytes begin with, of the same sorts as fields, and how many bytes they take
abbrev pub fields_at : List ValueField → List ℕ → List ValueField
fields_at [] bytes = []
fields_at (field ∷ fields) bytes = field_at field bytes ∷ fields_at fields (drop (field_size field bytes) bytes)

abbrev pub fields_size : List ValueField → List ℕ → ℕ
fields_size [] bytes = 0
fields_size (field ∷ fields) bytes = field_size field bytes + fields_size fields (drop (field_size field bytes) bytes)

pub bytes_first : (reserved : List ℕ) (field : ValueField) (fields : List ValueField)
    → fields_bytes reserved (field ∷ fields) ≡ field_bytes (get_or reserved 0 0) field ++ fields_bytes (drop 1 reserved) fields
bytes_first r field [] = sym (append-nil (field_bytes (get_or r 0 0) field))
bytes_first r field (next ∷ fields) = refl

pub first_in : (field : ValueField) (fields : List ValueField) → AreInFields (field ∷ fields) → IsInField field × AreInFields fields
first_in field [] fits = (fits, tt)
first_in field (next ∷ fields) fits = fits

pub both_in : (field : ValueField) (fields : List ValueField) → IsInField field → AreInFields fields → AreInFields (field ∷ fields)
both_in field [] here later = here
both_in field (next ∷ fields) here later = (here, later)

-- fields are what their bytes are read as
pub record AreAt (fields : List ValueField) (bytes value after : List ℕ) : Type 0 where
  pub fields_are : fields ≡ fields_at fields value
  pub len : length bytes ≡ fields_size fields value
  pub rest : drop (fields_size fields value) value ≡ after

pub are_at : (reserved : List ℕ) (fields : List ValueField) (value after : List ℕ) → AreInFields fields → value ≡ fields_bytes reserved fields ++ after
    → AreAt fields (fields_bytes reserved fields) value after
are_at r [] value after fits parts = record { fields_are = refl; len = refl; rest = parts }
are_at r (field ∷ fields) value after fits parts =
    let both = first_in field fields fits in
    let here : List ℕ = field_bytes (get_or r 0 0) field in
    let later : List ℕ = fields_bytes (drop 1 r) fields in
    let all : value ≡ here ++ (later ++ after) = parts ∙ ap (λ (z : List ℕ). z ++ after) (bytes_first r field fields) ∙ append_assoc here later after in
    let size : field_size field value ≡ length here = ap (field_size field) all ∙ sym (field_len (get_or r 0 0) field (later ++ after) both.0) in
    let next : drop (field_size field value) value ≡ later ++ after = ap (drop (field_size field value)) all ∙ drop_at here (later ++ after) (field_size field value) (sym size) in
    let others = are_at (drop 1 r) fields (drop (field_size field value) value) after both.1 next in
    let field_is : field ≡ field_at field value = field_is (get_or r 0 0) field (later ++ after) both.0 ∙ ap (field_at field) (sym all) in
    let front : length (fields_bytes r (field ∷ fields)) ≡ fields_size (field ∷ fields) value = ap length (bytes_first r field fields) ∙ length-append here later ∙ omega (arith, size, others.len) in
    record {
      fields_are = ap (λ f. f ∷ fields) field_is ∙ ap (λ (fs : List ValueField). field_at field value ∷ fs) others.fields_are;
      len = front;
      rest = ap (drop (fields_size (field ∷ fields) value)) parts ∙ drop_at (fields_bytes r (field ∷ fields)) after (fields_size (field ∷ fields) value) front;
    }
