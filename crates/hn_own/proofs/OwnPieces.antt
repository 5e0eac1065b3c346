-- The encodings of own items, one after the other.
use Rattle.hn_base.proofs.Names.{◌≡◌, ◌<◌, ◌+◌, ◌∙◌, ℕ, List, [], ◌∷◌, ◌++◌, length, map, take, get_or, refl, ap, subst, sym, append_assoc, arith, All, ◌==◌, w128, to_be_bytes, flat_map, false≢true}
use Rattle.hn_base.proofs.Names.{map_push, take_more, append-nil, All-append, All-cons, All-nil, All-push, All-take, All-head, All-tail, All-map, IsPrefix, IsByte}
use Rattle.hn_own.proofs.Names.{HasTlvs, spelling, bytes_for, prefix_field, PlainItem, External, tlv_of, value_of, IsWritable, IsEncoding, IsEncoded, OwnPrefix, seconds_left, delegated_item}
use Rattle.hn_own.proofs.Names.{external_items, encodings}
use Rattle.std.specs.Prelude.{false}
use Rattle.std.proofs.lemmas.List.{map_more}
use Rattle.std.proofs.lemmas.List.Concat.{flat_map-append}
use Rattle.hn_base.proofs.BigEndian.{number_bytes}
use Rattle.hn_tlv.specs.Grammar.{IsTlv, IsTlvList}
use Rattle.hn_typed.specs.Fields.{word}
use Rattle.hn_data.specs.OwnData.{AreBytes}

-- ---- one more

pub encodings_more : {X : Type 0} (item_of : X → PlainItem) (xs : List X) (i : ℕ) (d : X) (old pieces : List (List ℕ)) (piece : List ℕ) → i < length xs
    → pieces ≡ old ++ encodings (map item_of (take i xs)) → IsEncoding piece (item_of (get_or xs i d)) → pieces ++ piece ∷ [] ≡ old ++ encodings (map item_of (take (i + 1) xs))
encodings_more item_of xs i d old pieces piece within are is =
    let more : encodings (map item_of (take (i + 1) xs)) ≡ encodings (map item_of (take i xs)) ++ piece ∷ [] =
    ap encodings (map_more item_of xs i d within) ∙ map_push (λ (item : PlainItem). spelling (tlv_of item)) (map item_of (take i xs)) (item_of (get_or xs i d))
    ∙ ap (λ (p : List ℕ). encodings (map item_of (take i xs)) ++ p ∷ []) (sym is.spelled)
    in
    ap (λ (ps : List (List ℕ)). ps ++ piece ∷ []) are ∙ append_assoc old (encodings (map item_of (take i xs))) (piece ∷ []) ∙ ap (λ (ps : List (List ℕ)). old ++ ps) (sym more)

pub writable_more : {X : Type 0} (item_of : X → PlainItem) (xs : List X) (i : ℕ) (d : X) (piece : List ℕ) → i < length xs
    → All IsWritable (map item_of (take i xs)) → IsEncoding piece (item_of (get_or xs i d)) → All IsWritable (map item_of (take (i + 1) xs))
writable_more item_of xs i d piece within are is =
    subst (All IsWritable) (sym (map_more item_of xs i d within)) (All-push IsWritable (map item_of (take i xs)) (item_of (get_or xs i d)) are is.writable)

-- what is written for an item is encoded
pub encodings_encoded : (items : List PlainItem) → All IsWritable items → All IsEncoded (encodings items)
encodings_encoded items are =
    All-map IsEncoded (λ (item : PlainItem). spelling (tlv_of item)) items (λ k d within. (get_or items k d, record { writable = are k d within; spelled = refl }))

-- ---- the Delegated-Prefixes

pub bytes_more : {X : Type 0} (item_of : X → PlainItem) (xs : List X) (i : ℕ) (d : X) (bytes piece : List ℕ) → i < length xs → bytes ≡ flat_map (λ x. spelling (tlv_of (item_of x))) (take i xs)
    → IsEncoding piece (item_of (get_or xs i d)) → bytes ++ piece ≡ flat_map (λ x. spelling (tlv_of (item_of x))) (take (i + 1) xs)
bytes_more {X} item_of xs i d bytes piece within are is =
    let bytes_of : X → List ℕ = λ x. spelling (tlv_of (item_of x)) in
    ap (λ (front : List ℕ). front ++ piece) are ∙ ap (λ (last : List ℕ). flat_map bytes_of (take i xs) ++ last) (is.spelled ∙ sym (append-nil (bytes_of (get_or xs i d))))
    ∙ sym (ap (flat_map bytes_of) (take_more xs i d within) ∙ flat_map-append bytes_of (take i xs) (get_or xs i d ∷ []))

delegated_bytes : (now : ℕ) (own : OwnPrefix) → IsPrefix own.prefix → AreBytes (value_of (delegated_item now own))
delegated_bytes now own is =
    let valid = word (seconds_left now own.valid_until) in
    let preferred = word (seconds_left now own.preferred_until) in
    let bits = take (bytes_for own.prefix.len) (to_be_bytes w128 own.prefix.bits) in
    let len = is.len_in_range in
    let field : All IsByte (prefix_field own.prefix) = All-cons IsByte own.prefix.len bits (omega arith)
    (All-take IsByte (bytes_for own.prefix.len) (to_be_bytes w128 own.prefix.bits) (number_bytes 16 own.prefix.bits)) in
    let fixed : All IsByte ((valid ++ preferred) ++ prefix_field own.prefix) =
    All-append IsByte (valid ++ preferred) (prefix_field own.prefix)
    (All-append IsByte valid preferred (number_bytes 4 (seconds_left now own.valid_until)) (number_bytes 4 (seconds_left now own.preferred_until))) field
    in
    let none = All-nil IsByte in
    All-append IsByte (((valid ++ preferred) ++ prefix_field own.prefix) ++ []) [] (All-append IsByte ((valid ++ preferred) ++ prefix_field own.prefix) [] fixed none) none

delegated_tlv : (now : ℕ) (own : OwnPrefix) → IsWritable (delegated_item now own) → IsTlv (tlv_of (delegated_item now own))
delegated_tlv now own is = record {
  kind_fits = omega arith;
  length_fits = let short = is.short in omega arith;
  bytes = delegated_bytes now own is.in_range.1.1;
}

-- Delegated-Prefixes are a list of TLVs
pub delegated_tlvs : (now : ℕ) (list : List OwnPrefix) → All IsWritable (map (delegated_item now) list) → HasTlvs (flat_map (λ own. spelling (tlv_of (delegated_item now own))) list)
delegated_tlvs now list are = (map (λ own. tlv_of (delegated_item now own)) list, listed list are)
  where
    listed : (list : List OwnPrefix) → All IsWritable (map (delegated_item now) list)
        → IsTlvList (map (λ own. tlv_of (delegated_item now own)) list) (flat_map (λ own. spelling (tlv_of (delegated_item now own))) list)
    listed [] are = refl
    listed (own ∷ rest) are = (
      flat_map (λ own. spelling (tlv_of (delegated_item now own))) rest,
      delegated_tlv now own (All-head IsWritable (delegated_item now own) (map (delegated_item now) rest) are),
      refl,
      listed rest (All-tail IsWritable (delegated_item now own) (map (delegated_item now) rest) are),
    )

-- ---- the External-Connection

pub external_is : (now : ℕ) (list : List OwnPrefix) (subs : List ℕ) → (length list == 0) ≡ false
    → subs ≡ flat_map (λ own. spelling (tlv_of (delegated_item now own))) list → external_items now list ≡ External subs ∷ []
external_is now [] subs some is = absurd (false≢true (sym some))
external_is now (own ∷ list) subs some is = ap (λ (bytes : List ℕ). External bytes ∷ []) (sym is)

pub external_added : (now : ℕ) (list : List OwnPrefix) (subs piece : List ℕ) (old : List (List ℕ)) → external_items now list ≡ External subs ∷ []
    → piece ≡ spelling (tlv_of (External subs)) → old ++ piece ∷ [] ≡ old ++ encodings (external_items now list)
external_added now list subs piece old one is = ap (λ (p : List ℕ). old ++ p ∷ []) is ∙ sym (ap (λ (items : List PlainItem). old ++ encodings items) one)

-- ---- all of them

pub writable_together : (version links external assigned addresses : List PlainItem) → All IsWritable version → All IsWritable links
    → All IsWritable external → All IsWritable assigned → All IsWritable addresses
    → All IsWritable (version ++ (((links ++ external) ++ assigned) ++ addresses))
writable_together version links external assigned addresses first are_links are_external are_assigned are_addresses =
    let joined = All-append IsWritable (links ++ external) assigned (All-append IsWritable links external are_links are_external) are_assigned in
    All-append IsWritable version (((links ++ external) ++ assigned) ++ addresses) first (All-append IsWritable ((links ++ external) ++ assigned) addresses joined are_addresses)
