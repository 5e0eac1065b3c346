-- The first cause why a value decodes to no item, from what its reading met.
use Rattle.hn_base.proofs.Names.{◌≡◌, ℕ, ◌+◌, ◌-◌, ◌<◌, ◌≤◌, List, [], ◌∷◌, ◌++◌, length, drop, refl, sym, ap, subst, ◌∙◌, arith, inl, inr, IsUtf8, drop_at, PlainPrefix, IsPrefix}
use Rattle.hn_typed.proofs.Names.{length-append, prefix_field, ThenSubs, HasSubs, ValueField, Prefixed, After, Subs, Text, field_size, IsFieldFault, LacksSubs}
use Rattle.hn_typed.specs.Fault.{IsFirstCause}
use Rattle.hn_typed.specs.Reading.{IsFirstIn, IsPastField}
use Rattle.hn_typed.proofs.FieldsRead.{IsSound, sound, field_len}

-- a cause in a field is the first one
pub in_field : (field : ValueField) (bytes : List ℕ) (why : ℕ) → IsFieldFault field bytes why → IsFirstIn field bytes why
unfolding IsFirstCause
in_field field bytes why fault = λ fields after len. inl fault

-- past the bytes of a field in which no cause holds
pub past : (field : ValueField) (bytes rest : List ℕ) → IsSound field bytes → rest ≡ drop (field_size field bytes) bytes → IsPastField field bytes rest
unfolding IsFirstCause
past field bytes rest is drops = λ fields after len why fault.
    inr (is, subst (λ z. IsFirstCause fields after (len + field_size field bytes) z why) drops fault)

-- past a prefix
pub past_prefix : (p any : PlainPrefix) (bytes rest : List ℕ) → IsPrefix p → bytes ≡ prefix_field p ++ rest → IsPastField (Prefixed any) bytes rest
past_prefix p any bytes rest valid parts =
    let size : length (prefix_field p) ≡ field_size (Prefixed p) bytes = field_len 0 (Prefixed p) rest valid ∙ ap (field_size (Prefixed p)) (sym parts) in
    let drops : drop (field_size (Prefixed p) bytes) bytes ≡ rest = ap (drop (field_size (Prefixed p) bytes)) parts ∙ drop_at (prefix_field p) rest (field_size (Prefixed p) bytes) size in
    past (Prefixed any) bytes rest (subst (IsSound (Prefixed p)) (sym parts) (sound 0 (Prefixed p) rest valid)) (sym drops)

-- what stands after a fixed part, whose length is that of the rest of the value
pub subs_found : (value fixed after subs : List ℕ) → value ≡ fixed ++ after → ThenSubs (length value - length after) after subs → HasSubs fixed subs value
subs_found value fixed after subs parts found =
    let same : length value - length after ≡ length fixed = omega (arith, ap length parts, length-append fixed after) in
    (after, parts, subst (λ n. ThenSubs n after subs) same found)

-- ---- causes in what follows the fields

pub no_subs : (len : ℕ) (bytes subs : List ℕ) → LacksSubs len bytes → IsFirstCause [] (Subs subs) len bytes 2
unfolding IsFirstCause
no_subs len bytes subs lacks = inl (lacks, refl)

pub no_text : (len : ℕ) (bytes text : List ℕ) → ¬ (IsUtf8 bytes) → IsFirstCause [] (Text text) len bytes 4
unfolding IsFirstCause
no_text len bytes text not = inl (not, refl)
