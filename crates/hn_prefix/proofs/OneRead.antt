-- A text is a read form of one address at most, and of one prefix.
use Rattle.hn_base.proofs.Names.{◌≡◌, ℕ, List, [], ◌∷◌, length, sym, ap, subst, ◌∙◌, inl, inr, arith, SplitsAt, PlainPrefix}
use Rattle.hn_prefix.proofs.Names.{same_number, same_split, no_split, IsGroups, IsGroupsText, IsAddressText, address_of_groups, IsPrefixText}
use Rattle.hn_prefix.proofs.ReadLemmas.{HasNoGap-front, Lacks-group, empty_groups, groups_no_gap, elided, without_gap, with_gap, prefix_parts, address_lacks_slash, plain_prefix}

same_groups : (text gs hs : List ℕ) → IsGroups text gs → IsGroups text hs → gs ≡ hs
same_groups text [] hs h k = sym (empty_groups text hs (ap length h) k)
same_groups text (g ∷ gs) [] h k = empty_groups text (g ∷ gs) (ap length k) h
same_groups text (g ∷ []) (i ∷ []) h k = ap (λ n. n ∷ []) (same_number 16 4 text g i h k)
same_groups text (g ∷ []) (i ∷ j ∷ hs) h k = absurd (no_split 58 text k.0 k.1 (Lacks-group 58 text g (omega arith) h) k.2)
same_groups text (g ∷ i ∷ gs) (j ∷ []) h k = absurd (no_split 58 text h.0 h.1 (Lacks-group 58 text j (omega arith) k) h.2)
same_groups text (g ∷ i ∷ gs) (j ∷ l ∷ hs) h k =
    let cut = same_split 58 h.0 h.1 k.0 k.1 (Lacks-group 58 h.0 g (omega arith) h.3) (Lacks-group 58 k.0 j (omega arith) k.3) (sym h.2 ∙ k.2) in
    let head = same_number 16 4 k.0 g j (subst (λ t. IsGroups t (g ∷ [])) cut.0 h.3) k.3 in
    let tail = same_groups k.1 (i ∷ gs) (l ∷ hs) (subst (λ t. IsGroups t (i ∷ gs)) cut.1 h.4) k.4 in
    cc

same_groups_text : (text gs hs : List ℕ) → IsGroupsText text gs → IsGroupsText text hs → gs ≡ hs
same_groups_text text gs hs (inl all) k =
    same_groups text gs hs all.0 (without_gap text hs (HasNoGap-front text (58 ∷ []) (groups_no_gap text gs all.0)) k).0
same_groups_text text gs hs (inr h) k =
    let other = with_gap text h.left_text h.right_text hs (record { parts = h.parts; first = groups_no_gap h.left_text h.left h.left_groups }) k in
    let left = same_groups h.left_text h.left other.0 h.left_groups other.2 in
    let right = same_groups h.right_text h.right other.1 h.right_groups other.3 in
    h.value ∙ ap (λ l. elided l h.right) left ∙ ap (λ r. elided other.0 r) right ∙ sym other.5

pub same_address : (text : List ℕ) (one other : ℕ) → IsAddressText text one → IsAddressText text other → one ≡ other
same_address text one other h k = sym h.2 ∙ ap address_of_groups (same_groups_text text h.0 k.0 h.1 k.1) ∙ k.2

pub same_prefix : (text : List ℕ) (one other : PlainPrefix) → IsPrefixText text one → IsPrefixText text other → one ≡ other
same_prefix text one other h k =
    let cut : SplitsAt 47 text h.address_text h.length_text = record { parts = h.parts; first = address_lacks_slash h.address_text one.bits h.address } in
    let parts = prefix_parts text h.address_text h.length_text other cut k in
    plain_prefix one.bits one.len other
    (same_address h.address_text one.bits other.bits h.address parts.0)
    (same_number 10 3 h.length_text one.len other.len h.len parts.1)
