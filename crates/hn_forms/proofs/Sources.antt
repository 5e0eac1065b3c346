-- What is said of the bytes that were read is said of a longer source.
use Rattle.hn_base.proofs.Names.{◌<◌, ◌≤◌, ◌^◌, ℕ, zero, suc, List, [], ◌∷◌, ◌++◌, Option, None, Some, length, inl, inr, arith}
use Rattle.hn_forms.proofs.Names.{IfSome, Contains, IoFault, NoMemory, IsDecodeOf, WritesDecode, CutsDecode}
use Rattle.hn_forms.proofs.Streams.{AppendsFront-none}

-- what is among some numbers is among more
pub Contains-more : (xs ys : List ℕ) (more x : ℕ) → Contains (xs ++ ys) x → Contains (xs ++ more ∷ ys) x
Contains-more [] ys more x (k, within, is) = (suc k, omega arith, is)
Contains-more (y ∷ xs) ys more x (zero, within, is) = (zero, omega arith, is)
Contains-more (y ∷ xs) ys more x (suc k, within, is) =
    let rest = Contains-more xs ys more x (k, omega arith, is) in
    let below = rest.1 in
    (suc rest.0, omega arith, rest.2)

-- a source of hexadecimal text that is too long, of which one byte more was read
text_longer : (status : ℕ) (text whole read : List ℕ) → 2 ^ 24 < length read → length read ≤ length whole → IsDecodeOf read status text → IsDecodeOf whole status text
text_longer status text whole read long front decoded =
    elim decoded [
      | inl refused ↦
          elim refused.1 [
            | inl too_long ↦ inl (refused.0, inl (omega arith, too_long.1))
            | inr no_hex ↦ let short = no_hex.0 in absurd (omega arith)
          ]
      | inr contents ↦ let short = contents.short in absurd (omega arith)
    ]

pub decode_longer : (status : ℕ) (before after : Option (List ℕ)) (whole read : List ℕ) → 2 ^ 24 < length read → length read ≤ length whole
    → WritesDecode read status before after → WritesDecode whole status before after
decode_longer status before after whole read long front decoded =
    (decoded.0, text_longer status decoded.0 whole read long front decoded.1, decoded.2)

pub cut_longer : (fault : IoFault) (before after : Option (List ℕ)) (whole read : List ℕ) → 2 ^ 24 < length read → length read ≤ length whole
    → CutsDecode read fault before after → CutsDecode whole fault before after
cut_longer fault before after whole read long front cut =
    (cut.0, cut.1, text_longer cut.0 cut.1 whole read long front cut.2, cut.3)

-- of a source that was not read nothing was written
pub cut_of_unread : ((bytes : List ℕ) → (status : ℕ) × (text : List ℕ) × IsDecodeOf bytes status text) → (left before : Option (List ℕ))
    → IfSome left (λ bytes. CutsDecode bytes NoMemory before before)
cut_of_unread decodes None before = tt
cut_of_unread decodes (Some bytes) before =
    let told = decodes bytes in
    (told.0, told.1, told.2, AppendsFront-none before told.1)
