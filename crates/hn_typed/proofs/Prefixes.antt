-- A prefix field that was read, and one that was written.
use Rattle.hn_base.proofs.Names.{◌≡◌, ℕ, ◌+◌, ◌-◌, ◌*◌, ◌%◌, ◌^◌, ◌≤◌, List, ◌∷◌, ◌++◌, length, take, drop, sym, ap, ◌∙◌, arith, w128, to_be_bytes, from_be_bytes, take-append-drop, length-take-le}
use Rattle.hn_base.proofs.Names.{take_at, PlainPrefix, IsPrefix}
use Rattle.hn_typed.proofs.Names.{prefix_field, bytes_for, prefix_bits, Bytes}
use Rattle.hn_base.proofs.BigEndian.{front_is, front_again, zeros_below}

pub prefix_read : (field tail front after : List ℕ) (len bits : ℕ) → field ≡ len ∷ tail → front ≡ take (bytes_for len) tail → after ≡ drop (bytes_for len) tail
    → length front ≡ bytes_for len → len ≤ 128 → Bytes front → bits ≡ from_be_bytes w128 front
    → field ≡ prefix_field (record { bits = bits; len = len }) ++ after
prefix_read field tail front after len bits parts front-is after-is front_len in_range fits number =
    let few : length front ≤ 16 = omega arith in
    let again : front ≡ take (bytes_for len) (to_be_bytes w128 bits) =
    sym (front_is front few fits) ∙ ap (λ n. take n (to_be_bytes w128 (from_be_bytes w128 front))) front_len ∙ ap (λ n. take (bytes_for len) (to_be_bytes w128 n)) (sym number) in
    let split : tail ≡ front ++ after =
    sym (take-append-drop (bytes_for len) tail) ∙ ap (λ (z : List ℕ). z ++ drop (bytes_for len) tail) (sym front-is) ∙ ap (λ (z : List ℕ). front ++ z) (sym after-is) in
    parts ∙ ap (λ (z : List ℕ). len ∷ z) (split ∙ ap (λ (z : List ℕ). z ++ after) again)

-- the address of a prefix is that of its prefix bytes
prefix_again : (p : PlainPrefix) → IsPrefix p → from_be_bytes w128 (take (bytes_for p.len) (to_be_bytes w128 p.bits)) ≡ p.bits
prefix_again p valid =
    let few : bytes_for p.len ≤ 16 = omega (arith, valid.len_in_range) in
    let below : 8 * (16 - bytes_for p.len) ≤ 128 - p.len = omega (arith, valid.len_in_range) in
    front_again p.bits (bytes_for p.len) valid.bits_in_range few (zeros_below p.bits (128 - p.len) (8 * (16 - bytes_for p.len)) below valid.no_bit_past_len)

pub length-prefix_field : (p : PlainPrefix) → IsPrefix p → length (prefix_field p) ≡ 1 + bytes_for p.len
length-prefix_field p valid =
    let sixteen : List ℕ = to_be_bytes w128 p.bits in
    let few : bytes_for p.len ≤ length sixteen = omega (arith, valid.len_in_range) in
    let len : length (take (bytes_for p.len) sixteen) ≡ bytes_for p.len = length-take-le (bytes_for p.len) sixteen few in
    omega arith

pub bits_read : (p : PlainPrefix) (after : List ℕ) → IsPrefix p → prefix_bits (prefix_field p ++ after) ≡ p.bits
bits_read p after valid =
    let sixteen : List ℕ = to_be_bytes w128 p.bits in
    let few : bytes_for p.len ≤ length sixteen = omega (arith, valid.len_in_range) in
    let front : take (bytes_for p.len) (take (bytes_for p.len) sixteen ++ after) ≡ take (bytes_for p.len) sixteen =
    take_at (take (bytes_for p.len) sixteen) after (bytes_for p.len) (length-take-le (bytes_for p.len) sixteen few) in
    ap (from_be_bytes w128) front ∙ prefix_again p valid
