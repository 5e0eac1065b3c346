-- Texts of groups, and where they are cut.
use Rattle.hn_base.proofs.Names.{◌≡◌, ℕ, ◌+◌, ◌-◌, ◌<◌, ◌≤◌, List, [], ◌∷◌, ◌++◌, length, replicate, refl, sym, ap, subst, ◌∙◌, inl, inr, append_assoc, length-append, arith, digit_value}
use Rattle.hn_base.proofs.Names.{IsShortNumeral, Lacks, SplitsAt, PlainPrefix}
use Rattle.hn_prefix.proofs.Names.{codes, same_number, same_split, no_split, HasNoGap, SplitsAtGap, IsGroups, IsGroupsText, IsAddressText, IsPrefixText}
use Rattle.hn_base.proofs.NumeralLemmas.{Lacks-digits}
use Rattle.hn_base.proofs.SplitLemmas.{Lacks-append}
use Rattle.hn_prefix.specs.AddressText.{IsGroupText}

-- ---- the cut at the first `::`

HasNoGap-tail : (c : ℕ) (text : List ℕ) → HasNoGap (c ∷ text) → HasNoGap text
HasNoGap-tail c [] h = tt
HasNoGap-tail c (d ∷ text) h = h.1

pub HasNoGap-front : (xs ys : List ℕ) → HasNoGap (xs ++ ys) → HasNoGap xs
HasNoGap-front [] ys h = tt
HasNoGap-front (x ∷ []) ys h = tt
HasNoGap-front (x ∷ y ∷ xs) ys h = (h.0, HasNoGap-front (y ∷ xs) ys h.1)

pub gap_in : (front back : List ℕ) → HasNoGap (front ++ 58 ∷ 58 ∷ back) → ⊥
gap_in [] back h = h.0 refl refl
gap_in (c ∷ front) back h = gap_in front back (HasNoGap-tail c (front ++ 58 ∷ 58 ∷ back) h)

-- a text that ends in a colon has no other beside it
colon_before : (g : List ℕ) → HasNoGap (58 ∷ g ++ 58 ∷ []) → (d : ℕ) (rest : List ℕ) → g ++ 58 ∷ rest ≡ 58 ∷ d ∷ [] → ⊥
colon_before [] h d rest e = h.0 refl refl
colon_before (c ∷ g) h d rest e = h.0 refl cc

same_gap_start : (c : ℕ) (g b d : List ℕ) → HasNoGap (c ∷ g ++ 58 ∷ []) → c ≡ 58 → g ++ 58 ∷ 58 ∷ d ≡ 58 ∷ b → ⊥
same_gap_start c [] b d h is e = h.0 is refl
same_gap_start c (x ∷ g) b d h is e = h.0 is cc

-- the cut at the first `::`
same_gap : (f b g d : List ℕ) → HasNoGap (f ++ 58 ∷ []) → HasNoGap (g ++ 58 ∷ []) → f ++ 58 ∷ 58 ∷ b ≡ g ++ 58 ∷ 58 ∷ d → ((f ≡ g) × (b ≡ d))
same_gap [] b [] d h k e = (refl, cc)
same_gap [] b (y ∷ g) d h k e =
    let head : y ≡ 58 = cc in
    let tail : g ++ 58 ∷ 58 ∷ d ≡ 58 ∷ b = cc in
    absurd (same_gap_start y g b d k head tail)
same_gap (x ∷ f) b [] d h k e =
    let head : x ≡ 58 = cc in
    let tail : f ++ 58 ∷ 58 ∷ b ≡ 58 ∷ d = cc in
    absurd (same_gap_start x f d b h head tail)
same_gap (x ∷ f) b (y ∷ g) d h k e =
    let heads : x ≡ y = cc in
    let tails : f ++ 58 ∷ 58 ∷ b ≡ g ++ 58 ∷ 58 ∷ d = cc in
    let rest = same_gap f b g d (HasNoGap-tail x (f ++ 58 ∷ []) h) (HasNoGap-tail y (g ++ 58 ∷ []) k) tails in
    (cc, rest.1)

-- `front ++ "::" ++ back`, with both colons before back
pub regroup : (front back : List ℕ) → front ++ codes "::" ++ back ≡ front ++ 58 ∷ 58 ∷ back
regroup front back = append_assoc front (58 ∷ 58 ∷ []) back

-- ---- groups

pub Lacks-group : (byte : ℕ) (text : List ℕ) (g : ℕ) → 16 ≤ digit_value byte → IsGroupText text g → Lacks byte text
Lacks-group byte text g none h = Lacks-digits 16 byte text none h.digits.1

no_groups : (front back : List ℕ) (gs : List ℕ) → front ++ 58 ∷ back ≡ [] → ⊥
no_groups [] back gs e = absurd cc
no_groups (c ∷ front) back gs e = absurd cc

-- a text with no colon is one group
pub one_group : (text gs : List ℕ) → Lacks 58 text → IsGroups text gs → 0 < length gs → ((g : ℕ) × (gs ≡ g ∷ []) × IsGroupText text g)
one_group text [] lacks h some = absurd (omega arith)
one_group text (g ∷ []) lacks h some = (g, refl, h)
one_group text (g ∷ i ∷ gs) lacks h some = absurd (no_split 58 text h.0 h.1 lacks h.2)

-- a text with a colon has a group before it, and groups after it
pub more_groups : (text digits rest gs : List ℕ) → SplitsAt 58 text digits rest → IsGroups text gs → 0 < length gs
    → ((g : ℕ) × (others : List ℕ) × (gs ≡ g ∷ others) × IsGroupText digits g × IsGroups rest others × (0 < length others))
more_groups text digits rest [] cut h some = absurd (omega arith)
more_groups text digits rest (g ∷ []) cut h some = absurd (no_split 58 text digits rest (Lacks-group 58 text g (omega arith) h) cut.parts)
more_groups text digits rest (g ∷ i ∷ gs) cut h some =
    let same = same_split 58 digits rest h.0 h.1 cut.first (Lacks-group 58 h.0 g (omega arith) h.3) (sym cut.parts ∙ h.2) in
    (g, i ∷ gs, refl, subst (λ t. IsGroupText t g) (sym same.0) h.3, subst (λ t. IsGroups t (i ∷ gs)) (sym same.1) h.4, omega arith)

-- ---- what `read_groups` answers

pub none_alone : (text gs : List ℕ) → Lacks 58 text → ((n : ℕ) → ¬ IsShortNumeral 16 4 text n) → IsGroups text gs → 0 < length gs → ⊥
none_alone text gs lacks none h some = let one = one_group text gs lacks h some in none one.0 one.2

pub one_alone : (text gs : List ℕ) (n : ℕ) → Lacks 58 text → IsShortNumeral 16 4 text n → IsGroups text gs → 0 < length gs → gs ≡ n ∷ []
one_alone text gs n lacks is h some =
    let one = one_group text gs lacks h some in
    one.1 ∙ ap (λ g. g ∷ []) (same_number 16 4 text one.0 n one.2 is)

pub none_first : (text digits rest gs : List ℕ) → SplitsAt 58 text digits rest → ((n : ℕ) → ¬ IsShortNumeral 16 4 digits n) → IsGroups text gs → 0 < length gs → ⊥
none_first text digits rest gs cut none h some = let more = more_groups text digits rest gs cut h some in none more.0 more.3

pub one_first : (text digits rest gs : List ℕ) (n : ℕ) → SplitsAt 58 text digits rest → IsShortNumeral 16 4 digits n → IsGroups text gs → 0 < length gs
    → ((others : List ℕ) × (gs ≡ n ∷ others) × IsGroups rest others × (0 < length others))
one_first text digits rest gs n cut is h some =
    let more = more_groups text digits rest gs cut h some in
    (more.1, more.2 ∙ ap (λ g. g ∷ more.1) (same_number 16 4 digits more.0 n more.3 is), more.4, more.5)

-- nothing has no groups
pub empty_groups : (text gs : List ℕ) → length text ≡ 0 → IsGroups text gs → gs ≡ []
empty_groups text [] none h = refl
empty_groups text (g ∷ []) none h = absurd (omega (arith, h.digits.0))
empty_groups text (g ∷ i ∷ gs) none h = absurd (omega (arith, length-append h.0 (58 ∷ h.1), ap length h.2))

-- ---- groups beside `::`

gap_after : (xs ys : List ℕ) → Lacks 58 xs → HasNoGap (58 ∷ ys) → HasNoGap (xs ++ 58 ∷ ys)
gap_after [] ys lacks h = h
gap_after (x ∷ []) ys lacks h = (λ is. absurd (lacks.0 is), h)
gap_after (x ∷ y ∷ xs) ys lacks h = (λ is. absurd (lacks.0 is), gap_after (y ∷ xs) ys lacks.1 h)

gap_before_digits : (digits ys : List ℕ) → 0 < length digits → Lacks 58 digits → HasNoGap (digits ++ ys) → HasNoGap (58 ∷ digits ++ ys)
gap_before_digits [] ys some lacks h = absurd (omega arith)
gap_before_digits (d ∷ digits) ys some lacks h = (λ _ is. lacks.0 is, h)

-- no `::` stands in groups, nor one that begins before them or ends after them
colon_groups_no_gap : (text : List ℕ) (g : ℕ) (gs : List ℕ) → IsGroups text (g ∷ gs) → HasNoGap (58 ∷ text ++ 58 ∷ [])
colon_groups_no_gap text g [] h =
    let lacks = Lacks-group 58 text g (omega arith) h in
    gap_before_digits text (58 ∷ []) h.digits.0 lacks (gap_after text [] lacks tt)
colon_groups_no_gap text g (i ∷ gs) h =
    let lacks = Lacks-group 58 h.0 g (omega arith) h.3 in
    let later = colon_groups_no_gap h.1 i gs h.4 in
    let regrouped : text ++ 58 ∷ [] ≡ h.0 ++ (58 ∷ h.1 ++ 58 ∷ []) = ap (λ t. t ++ 58 ∷ []) h.2 ∙ append_assoc h.0 (58 ∷ h.1) (58 ∷ []) in
    subst (λ t. HasNoGap (58 ∷ t)) (sym regrouped) (gap_before_digits h.0 (58 ∷ h.1 ++ 58 ∷ []) h.3.digits.0 lacks (gap_after h.0 (h.1 ++ 58 ∷ []) lacks later))

pub groups_no_gap : (text gs : List ℕ) → IsGroups text gs → HasNoGap (text ++ 58 ∷ [])
groups_no_gap text [] h = subst (λ t. HasNoGap (t ++ 58 ∷ [])) (sym h) tt
groups_no_gap text (g ∷ gs) h = HasNoGap-tail 58 (text ++ 58 ∷ []) (colon_groups_no_gap text g gs h)

-- ---- what `all_groups` answers

-- with no `::` the text is eight groups
pub without_gap : (text gs : List ℕ) → HasNoGap text → IsGroupsText text gs → (IsGroups text gs × (length gs ≡ 8))
without_gap text gs no_gap (inl all) = all
without_gap text gs no_gap (inr h) = absurd (gap_in h.left_text h.right_text (subst HasNoGap (h.parts ∙ regroup h.left_text h.right_text) no_gap))

-- the value of groups on both sides of `::`
abbrev pub elided : List ℕ → List ℕ → List ℕ
elided left right = left ++ replicate (8 - (length left + length right)) 0 ++ right

-- with a `::` there are groups on both sides of it
pub with_gap : (text front back gs : List ℕ) → SplitsAtGap text front back → IsGroupsText text gs
    → ((left right : List ℕ) × IsGroups front left × IsGroups back right × (length left + length right < 8) × (gs ≡ elided left right))
with_gap text front back gs cut (inl all) =
    absurd (gap_in front back (subst HasNoGap (cut.parts ∙ regroup front back) (HasNoGap-front text (58 ∷ []) (groups_no_gap text gs all.0))))
with_gap text front back gs cut (inr h) =
    let same = same_gap front back h.left_text h.right_text cut.first (groups_no_gap h.left_text h.left h.left_groups)
    (sym (regroup front back) ∙ sym cut.parts ∙ h.parts ∙ regroup h.left_text h.right_text) in
    (h.left, h.right, subst (λ t. IsGroups t h.left) (sym same.0) h.left_groups, subst (λ t. IsGroups t h.right) (sym same.1) h.right_groups, h.room, h.value)

-- ---- what `Prefix::parse` answers

groups_lack_slash : (text gs : List ℕ) → IsGroups text gs → Lacks 47 text
groups_lack_slash text [] h = subst (Lacks 47) (sym h) tt
groups_lack_slash text (g ∷ []) h = Lacks-group 47 text g (omega arith) h
groups_lack_slash text (g ∷ i ∷ gs) h =
    subst (Lacks 47) (sym h.2) (Lacks-append 47 h.0 (58 ∷ h.1) (Lacks-group 47 h.0 g (omega arith) h.3) ((λ e. absurd (omega arith)), groups_lack_slash h.1 (i ∷ gs) h.4))

-- no `/` stands in an address
pub address_lacks_slash : (text : List ℕ) (ip : ℕ) → IsAddressText text ip → Lacks 47 text
address_lacks_slash text ip (gs, inl all, is) = groups_lack_slash text gs all.0
address_lacks_slash text ip (gs, inr h, is) =
    subst (Lacks 47) (sym (h.parts ∙ regroup h.left_text h.right_text))
    (Lacks-append 47 h.left_text (58 ∷ 58 ∷ h.right_text) (groups_lack_slash h.left_text h.left h.left_groups)
    ((λ e. absurd (omega arith)), ((λ e. absurd (omega arith)), groups_lack_slash h.right_text h.right h.right_groups)))

-- what stands on both sides of the first `/`
pub prefix_parts : (text address len : List ℕ) (p : PlainPrefix) → SplitsAt 47 text address len → IsPrefixText text p → (IsAddressText address p.bits × IsShortNumeral 10 3 len p.len)
prefix_parts text address len p cut h =
    let same = same_split 47 address len h.address_text h.length_text cut.first (address_lacks_slash h.address_text p.bits h.address) (sym cut.parts ∙ h.parts) in
    (subst (λ t. IsAddressText t p.bits) (sym same.0) h.address, subst (λ t. IsShortNumeral 10 3 t p.len) (sym same.1) h.len)

pub no_slash : (text : List ℕ) (p : PlainPrefix) → Lacks 47 text → IsPrefixText text p → ⊥
no_slash text p lacks h = no_split 47 text h.address_text h.length_text lacks h.parts

pub plain_prefix : (bits len : ℕ) (p : PlainPrefix) → bits ≡ p.bits → len ≡ p.len → record { bits = bits; len = len } ≡ p
plain_prefix bits len p same_bits same_len =
    let make : ℕ → ℕ → PlainPrefix = λ b l. record { bits = b; len = l } in
    ap (λ b. make b len) same_bits ∙ ap (λ l. make p.bits l) same_len
