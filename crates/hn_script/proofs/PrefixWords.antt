-- The texts of prefixes as words: they are hexadecimal digits, `:` and `/`.
use Rattle.hn_base.proofs.Names.{ℕ, ◌<◌, ◌≤◌, List, [], ◌∷◌, ◌++◌, length, codes, inl, inr, subst, sym, arith, length-append, IsShortNumeral, PlainPrefix}
use Rattle.hn_script.proofs.Names.{AllByRecursion-append, IsPrefixText}
use Rattle.hn_prefix.specs.AddressText.{IsGroups, IsGroupsText}
use Rattle.hn_script.proofs.HexTexts.{IsWord-digits}
use Rattle.hn_script.proofs.WordBytes.{IsWordByte, IsWord}

joined : (left right : List ℕ) → IsWord left → IsWord right → IsWord (left ++ right)
joined left right h k = AllByRecursion-append IsWordByte left right h k

numeral_word : (base most : ℕ) (text : List ℕ) (n : ℕ) → base ≤ 16 → IsShortNumeral base most text n → IsWord text
numeral_word base most text n small h = IsWord-digits base text small h.digits.1

groups_word : (text gs : List ℕ) → IsGroups text gs → IsWord text
groups_word text [] h = subst IsWord (sym h) tt
groups_word text (g ∷ []) h = numeral_word 16 4 text g (omega arith) h
groups_word text (g ∷ next ∷ gs) h =
    subst IsWord (sym h.2)
    (joined h.0 (58 ∷ h.1) (numeral_word 16 4 h.0 g (omega arith) h.3) ((omega arith, omega arith), groups_word h.1 (next ∷ gs) h.4))

address_word : (text : List ℕ) (gs : List ℕ) → IsGroupsText text gs → IsWord text
address_word text gs (inl all) = groups_word text gs all.0
address_word text gs (inr h) =
    let right = groups_word h.right_text h.right h.right_groups in
    let gap : IsWord (codes "::") = ((omega arith, omega arith), ((omega arith, omega arith), tt)) in
    subst IsWord (sym h.parts)
    (joined (h.left_text ++ codes "::") h.right_text (joined h.left_text (codes "::") (groups_word h.left_text h.left h.left_groups) gap) right)

pub prefix_word : (text : List ℕ) (p : PlainPrefix) → IsPrefixText text p → IsWord text
prefix_word text p h =
    subst IsWord (sym h.parts)
    (joined h.address_text (47 ∷ h.length_text) (address_word h.address_text h.address.0 h.address.1)
    ((omega arith, omega arith), numeral_word 10 3 h.length_text p.len (omega arith) h.len))

pub prefix_some : (text : List ℕ) (p : PlainPrefix) → IsPrefixText text p → 0 < length text
prefix_some text p h = subst (λ t. 0 < length t) (sym h.parts) (omega (arith, length-append h.address_text (47 ∷ h.length_text)))
