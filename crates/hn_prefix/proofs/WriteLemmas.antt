-- The written form: which run it shortens, how long it is, and that it is a read form.
use Rattle.hn_base.proofs.Names.{◌≡◌, ℕ, ◌+◌, ◌-◌, ◌*◌, ◌/◌, ◌%◌, ◌^◌, ◌<◌, ◌≤◌, List, [], ◌∷◌, ◌++◌, Option, None, Some, length, take, drop, refl, sym, ap, subst, ◌∙◌, inl, inr, length-append, arith}
use Rattle.hn_base.proofs.Names.{digit_char, decimal, w128, to_be_bytes, AllByRecursion, cases_lt, lt-ltb, le-ltb, cond-true, cond-false, nat_tests, append-nil, length-take-le, numeral, PlainPrefix}
use Rattle.hn_base.proofs.Names.{IsPrefix}
use Rattle.hn_prefix.proofs.Names.{codes, address_of_groups, IsGroups, IsGroupsText, IsAddressText, IsPrefixText}
use Rattle.std.proofs.Common.{length-drop, take-append-drop, take-add}
use Rattle.std.specs.Net.Addr.{segments_of, ipv6_segments, IsIpv6OfBits}
use Rattle.std.specs.Net.Text as std
use Rattle.std.specs.Net.Text.{longest_zero_run, leading_zero_digits, hex, hex_groups_text, hex_groups_addr}
use Rattle.std.specs.declared.net.display.HexGroups.{HexGroups}
use Rattle.std.specs.declared.net.ipv6_addr.Ipv6Addr.{Ipv6Addr}
use Rattle.std.proofs.NetLemmas.Texts.{IsZeroRun-longest_zero_run, longest_zero_run_first}
use Rattle.std.proofs.Math.Nat.{div-div-eq-div-mul}
use Rattle.hn_base.proofs.NumeralLemmas.{numeral_one, numeral_step, numeral_is_short, decimal_is_short}
use Rattle.hn_base.proofs.EachByRecursion.{AllByRecursion-take, AllByRecursion-drop}
use Rattle.hn_prefix.specs.AddressText.{groups, group_text, groups_text, IsFirstLongestRun, shortened_text, IsZeroRun, IsWrittenForm, address_text_of}
use Rattle.hn_prefix.specs.PrefixText.{prefix_text_of, text_of}

-- each group has 16 bits
abbrev pub AllFit : List ℕ → Type 0
AllFit gs = AllByRecursion (λ g. g < 65536) gs

AllFit-take : (n : ℕ) (gs : List ℕ) → AllFit gs → AllFit (take n gs)
AllFit-take = AllByRecursion-take (λ g. g < 65536)

AllFit-drop : (n : ℕ) (gs : List ℕ) → AllFit gs → AllFit (drop n gs)
AllFit-drop = AllByRecursion-drop (λ g. g < 65536)

groups_fit : (ip : ℕ) → AllFit (groups ip)
unfolding groups
groups_fit ip = (omega arith, (omega arith, (omega arith, (omega arith, (omega arith, (omega arith, (omega arith, (omega arith, tt))))))))

length-groups : (ip : ℕ) → length (groups ip) ≡ 8
unfolding groups
length-groups ip = refl

-- ---- the segments of std's address are the groups

segment_is : (n m : ℕ) → (n / (m * 256) % 256) * 256 + n / m % 256 ≡ n / m % 65536
segment_is n m = rw (← div-div-eq-div-mul n m 256) (omega arith)

segments_are : (ip : ℕ) → segments_of (to_be_bytes w128 ip) ≡ groups ip
unfolding groups
segments_are ip =
    let s0 = segment_is ip (2 ^ 112) in
    let s1 = segment_is ip (2 ^ 96) in
    let s2 = segment_is ip (2 ^ 80) in
    let s3 = segment_is ip (2 ^ 64) in
    let s4 = segment_is ip (2 ^ 48) in
    let s5 = segment_is ip (2 ^ 32) in
    let s6 = segment_is ip (2 ^ 16) in
    let s7 : (ip / 256 % 256) * 256 + ip % 256 ≡ ip % 65536 = omega arith in
    cc

groups_shown : (address : Ipv6Addr) (ip : ℕ) → IsIpv6OfBits address ip → hex_groups_text (ipv6_segments address) ≡ address_text_of ip
unfolding IsIpv6OfBits address_text_of
groups_shown address ip is = ap hex_groups_text (is ∙ segments_are ip)

-- what is printed of an address, and of a prefix
pub address_printed : (shown : HexGroups) (address : Ipv6Addr) (ip : ℕ) (len : Option ℕ) (text : List ℕ) → hex_groups_addr shown ≡ address
    → IsIpv6OfBits address ip → len ≡ None → text_of ip len ≡ text
    → hex_groups_text (ipv6_segments (hex_groups_addr shown)) ≡ text
address_printed shown address ip len text at is none view =
    ap (λ a. hex_groups_text (ipv6_segments a)) at ∙ groups_shown address ip is ∙ ap (text_of ip) (sym none) ∙ view

pub prefix_printed : (shown : HexGroups) (address : Ipv6Addr) (ip : ℕ) (len : Option ℕ) (l : ℕ) (text : List ℕ) → hex_groups_addr shown ≡ address
    → IsIpv6OfBits address ip → len ≡ Some l → text_of ip len ≡ text
    → hex_groups_text (ipv6_segments (hex_groups_addr shown)) ++ (codes "/" ++ decimal l) ≡ text
unfolding prefix_text_of
prefix_printed shown address ip len l text at is some view =
    ap (λ t. t ++ 47 ∷ decimal l) (ap (λ a. hex_groups_text (ipv6_segments a)) at ∙ groups_shown address ip is) ∙ ap (text_of ip) (sym some) ∙ view

-- ---- std's text of groups

-- a group in one to four digits
digits_1 : (g : ℕ) → g < 16 → hex g ≡ digit_char g ∷ []
unfolding hex
digits_1 g small =
    let zeros : leading_zero_digits g ≡ 3 = grind (arith, nat_tests) in
    let last : g % 16 ≡ g = omega arith in
    rw (zeros, last) refl

digits_2 : (g : ℕ) → 16 ≤ g → g < 256 → hex g ≡ digit_char (g / 16) ∷ digit_char (g % 16) ∷ []
unfolding hex
digits_2 g large small =
    let zeros : leading_zero_digits g ≡ 2 = grind (arith, nat_tests) in
    let first : g / 16 % 16 ≡ g / 16 = omega arith in
    rw (zeros, first) refl

digits_3 : (g : ℕ) → 256 ≤ g → g < 4096 → hex g ≡ digit_char (g / 16 / 16) ∷ digit_char (g / 16 % 16) ∷ digit_char (g % 16) ∷ []
unfolding hex
digits_3 g large small =
    let zeros : leading_zero_digits g ≡ 1 = grind (arith, nat_tests) in
    let first : g / 256 % 16 ≡ g / 16 / 16 = omega arith in
    rw (zeros, first) refl

digits_4 : (g : ℕ) → 4096 ≤ g → hex g ≡ digit_char (g / 16 / 16 / 16) ∷ digit_char (g / 16 / 16 % 16) ∷ digit_char (g / 16 % 16) ∷ digit_char (g % 16) ∷ []
unfolding hex
digits_4 g large =
    let zeros : leading_zero_digits g ≡ 0 = grind (arith, nat_tests) in
    let first : g / 4096 ≡ g / 16 / 16 / 16 = omega arith in
    let second : g / 256 % 16 ≡ g / 16 / 16 % 16 = omega arith in
    rw (zeros, first, second) refl

numeral_2 : (g : ℕ) → 16 ≤ g → g < 256 → numeral 16 g ≡ digit_char (g / 16) ∷ digit_char (g % 16) ∷ []
numeral_2 g large small = numeral_step 16 g (omega arith) large ∙ ap (λ t. t ++ digit_char (g % 16) ∷ []) (numeral_one 16 (g / 16) (omega arith) (omega arith))

numeral_3 : (g : ℕ) → 256 ≤ g → g < 4096 → numeral 16 g ≡ digit_char (g / 16 / 16) ∷ digit_char (g / 16 % 16) ∷ digit_char (g % 16) ∷ []
numeral_3 g large small = numeral_step 16 g (omega arith) (omega arith) ∙ ap (λ t. t ++ digit_char (g % 16) ∷ []) (numeral_2 (g / 16) (omega arith) (omega arith))

numeral_4 : (g : ℕ) → 4096 ≤ g → g < 65536 → numeral 16 g ≡ digit_char (g / 16 / 16 / 16) ∷ digit_char (g / 16 / 16 % 16) ∷ digit_char (g / 16 % 16) ∷ digit_char (g % 16) ∷ []
numeral_4 g large small = numeral_step 16 g (omega arith) (omega arith) ∙ ap (λ t. t ++ digit_char (g % 16) ∷ []) (numeral_3 (g / 16) (omega arith) (omega arith))

group_is : (g : ℕ) → g < 65536 → hex g ≡ group_text g
group_is g fits =
    elim (cases_lt g 16) [
      | inl one ↦ digits_1 g one ∙ sym (numeral_one 16 g (omega arith) one)
      | inr more ↦
          elim (cases_lt g 256) [
            | inl two ↦ digits_2 g more two ∙ sym (numeral_2 g more two)
            | inr still_more ↦
                elim (cases_lt g 4096) [
                  | inl three ↦ digits_3 g still_more three ∙ sym (numeral_3 g still_more three)
                  | inr four ↦ digits_4 g four ∙ sym (numeral_4 g four fits)
                ]
          ]
    ]

groups_are : (gs : List ℕ) → AllFit gs → std.groups_text gs ≡ groups_text gs
groups_are [] fits = refl
groups_are (g ∷ []) fits = append-nil (hex g) ∙ group_is g fits.0
groups_are (g ∷ h ∷ gs) fits = ap (λ t. t ++ 58 ∷ std.groups_text (h ∷ gs)) (group_is g fits.0) ∙ ap (λ t. group_text g ++ 58 ∷ t) (groups_are (h ∷ gs) fits.1)

-- ---- how long a text is

length-group_text : (g : ℕ) → g < 65536 → length (group_text g) ≤ 4
length-group_text g fits = (numeral_is_short 16 4 g (omega arith) (omega arith) (omega arith) fits).short

-- five bytes a group at most, with its colon, but none before the first
length-groups_text : (g : ℕ) (gs : List ℕ) → AllFit (g ∷ gs) → length (groups_text (g ∷ gs)) < 5 + 5 * length gs
length-groups_text g [] fits = omega (arith, length-group_text g fits.0)
length-groups_text g (i ∷ gs) fits =
    omega (arith, length-group_text g fits.0, length-groups_text i gs fits.1, length-append (group_text g) (58 ∷ groups_text (i ∷ gs)))

length-groups_text-le : (gs : List ℕ) → AllFit gs → length (groups_text gs) ≤ 5 * length gs - 1
length-groups_text-le [] fits = omega arith
length-groups_text-le (g ∷ gs) fits = omega (arith, length-groups_text g gs fits)

length-front : (n : ℕ) (gs : List ℕ) → n ≤ length gs → AllFit gs → length (groups_text (take n gs)) ≤ 5 * n
length-front n gs le fits = omega (arith, length-groups_text-le (take n gs) (AllFit-take n gs fits), length-take-le n gs le)

length-back : (n : ℕ) (gs : List ℕ) → AllFit gs → length (groups_text (drop n gs)) ≤ 5 * (length gs - n)
length-back n gs fits = omega (arith, length-groups_text-le (drop n gs) (AllFit-drop n gs fits), length-drop n gs)

-- ---- the run

run_here : (gs : List ℕ) → IsZeroRun gs (longest_zero_run gs).0 (longest_zero_run gs).1
run_here gs = let run = IsZeroRun-longest_zero_run gs in record { inside = run.0; zeros = run.1 }

first_longest : (gs : List ℕ) → 2 ≤ (longest_zero_run gs).1 → IsFirstLongestRun gs (longest_zero_run gs).0 (longest_zero_run gs).1
first_longest gs several = record {
  run = run_here gs;
  several = several;
  longest = λ s l run. (longest_zero_run_first gs s l (run.inside, run.zeros)).0;
  first = λ s run. (longest_zero_run_first gs s (longest_zero_run gs).1 (run.inside, run.zeros)).1 refl;
}

-- the text with the run shortened, and the text with none
form_shortened : (gs : List ℕ) → AllFit gs → 1 < (longest_zero_run gs).1 → hex_groups_text gs ≡ shortened_text gs (longest_zero_run gs).0 (longest_zero_run gs).1
unfolding hex_groups_text
form_shortened gs fits long =
    let run = longest_zero_run gs in
    let front = groups_are (take run.0 gs) (AllFit-take run.0 gs fits) in
    let back = groups_are (drop (run.0 + run.1) gs) (AllFit-drop (run.0 + run.1) gs fits) in
    cond-true _ _ _ (lt-ltb 1 run.1 long)
    ∙ ap (λ t. t ++ codes "::" ++ std.groups_text (drop (run.0 + run.1) gs)) front
    ∙ ap (λ t. groups_text (take run.0 gs) ++ codes "::" ++ t) back

form_whole : (gs : List ℕ) → AllFit gs → (longest_zero_run gs).1 ≤ 1 → hex_groups_text gs ≡ groups_text gs
unfolding hex_groups_text
form_whole gs fits short = cond-false _ _ _ (le-ltb 1 (longest_zero_run gs).1 short) ∙ groups_are gs fits

written_is_written : (gs : List ℕ) → AllFit gs → IsWrittenForm (hex_groups_text gs) gs
written_is_written gs fits =
    elim (cases_lt 1 (longest_zero_run gs).1) [
      | inl long ↦ inl ((longest_zero_run gs).0, (longest_zero_run gs).1, first_longest gs long, form_shortened gs fits long)
      | inr short ↦ inr (λ s l several run. absurd (omega (arith, (longest_zero_run_first gs s l (run.inside, run.zeros)).0)), form_whole gs fits short)
    ]

pub address_text_is_written : (ip : ℕ) → IsWrittenForm (address_text_of ip) (groups ip)
unfolding address_text_of
address_text_is_written ip = written_is_written (groups ip) (groups_fit ip)

length-written : (gs : List ℕ) → length gs ≡ 8 → AllFit gs → length (hex_groups_text gs) ≤ 39
length-written gs eight fits =
    let start = (longest_zero_run gs).0 in
    let len = (longest_zero_run gs).1 in
    let run = run_here gs in
    let front = length-front start gs (omega (arith, run.inside)) fits in
    let back = length-back (start + len) gs fits in
    elim (cases_lt 1 len) [
      | inl long ↦ omega (
        arith,
        run.inside,
        ap length (form_shortened gs fits long),
        length-append (groups_text (take start gs) ++ codes "::") (groups_text (drop (start + len) gs)),
        length-append (groups_text (take start gs)) (codes "::"),
      )
      | inr short ↦ omega (arith, ap length (form_whole gs fits short), length-groups_text-le gs fits)
    ]

pub length-address_text_of : (ip : ℕ) → length (address_text_of ip) ≤ 39
unfolding address_text_of
length-address_text_of ip = length-written (groups ip) (length-groups ip) (groups_fit ip)

-- ---- the written form is read

IsGroups-groups_text : (gs : List ℕ) → AllFit gs → IsGroups (groups_text gs) gs
IsGroups-groups_text [] fits = refl
IsGroups-groups_text (g ∷ []) fits = numeral_is_short 16 4 g (omega arith) (omega arith) (omega arith) fits.0
IsGroups-groups_text (g ∷ i ∷ gs) fits =
    (group_text g, groups_text (i ∷ gs), refl, numeral_is_short 16 4 g (omega arith) (omega arith) (omega arith) fits.0, IsGroups-groups_text (i ∷ gs) fits.1)

written_is_read : (gs : List ℕ) → length gs ≡ 8 → AllFit gs → IsGroupsText (hex_groups_text gs) gs
written_is_read gs eight fits =
    let start = (longest_zero_run gs).0 in
    let len = (longest_zero_run gs).1 in
    let run = run_here gs in
    let front = length-take-le start gs (omega (arith, run.inside)) in
    let back = length-drop (start + len) gs in
    let elided : 8 - (length (take start gs) + length (drop (start + len) gs)) ≡ len = omega (arith, run.inside) in
    elim (cases_lt 1 len) [
      | inl long ↦ inr (record {
        left_text = groups_text (take start gs);
        right_text = groups_text (drop (start + len) gs);
        left = take start gs;
        right = drop (start + len) gs;
        parts = form_shortened gs fits long;
        left_groups = IsGroups-groups_text (take start gs) (AllFit-take start gs fits);
        right_groups = IsGroups-groups_text (drop (start + len) gs) (AllFit-drop (start + len) gs fits);
        room = omega (arith, run.inside);
        value = rw (elided, ← run.zeros, ← take-add start len gs) (sym (take-append-drop (start + len) gs));
      })
      | inr short ↦ inl (subst (λ t. IsGroups t gs) (sym (form_whole gs fits short)) (IsGroups-groups_text gs fits), eight)
    ]

-- the bits from one place on, by those from 16 bits on
one_group_more : (n m : ℕ) → n / (m * 65536) * 65536 + n / m % 65536 ≡ n / m
one_group_more n m = rw (← div-div-eq-div-mul n m 65536) (omega arith)

pub address_of-groups : (ip : ℕ) → ip < 2 ^ 128 → address_of_groups (groups ip) ≡ ip
unfolding groups
address_of-groups ip fits =
    let s112 : 0 + ip / 2 ^ 112 % 65536 ≡ ip / 2 ^ 112 = omega arith in
    let s96 = ap (λ q. q * 65536 + ip / 2 ^ 96 % 65536) s112 ∙ one_group_more ip (2 ^ 96) in
    let s80 = ap (λ q. q * 65536 + ip / 2 ^ 80 % 65536) s96 ∙ one_group_more ip (2 ^ 80) in
    let s64 = ap (λ q. q * 65536 + ip / 2 ^ 64 % 65536) s80 ∙ one_group_more ip (2 ^ 64) in
    let s48 = ap (λ q. q * 65536 + ip / 2 ^ 48 % 65536) s64 ∙ one_group_more ip (2 ^ 48) in
    let s32 = ap (λ q. q * 65536 + ip / 2 ^ 32 % 65536) s48 ∙ one_group_more ip (2 ^ 32) in
    let s16 = ap (λ q. q * 65536 + ip / 2 ^ 16 % 65536) s32 ∙ one_group_more ip (2 ^ 16) in
    ap (λ q. q * 65536 + ip % 65536) s16 ∙ omega arith

pub address_text_is_read : (ip : ℕ) → ip < 2 ^ 128 → IsAddressText (address_text_of ip) ip
unfolding address_text_of
address_text_is_read ip fits = (groups ip, written_is_read (groups ip) (length-groups ip) (groups_fit ip), address_of-groups ip fits)

-- ---- groups and their address

high_of : (v g : ℕ) → g < 65536 → (v * 65536 + g) / 65536 ≡ v
high_of v g fits = omega arith

low_of : (v g : ℕ) → g < 65536 → (v * 65536 + g) % 65536 ≡ g
low_of v g fits = omega arith

high_after : (n m v g : ℕ) → n / m ≡ v * 65536 + g → g < 65536 → n / (m * 65536) ≡ v
high_after n m v g is fits = sym (div-div-eq-div-mul n m 65536) ∙ ap (λ q. q / 65536) is ∙ high_of v g fits

eight_back : (a b c d e f g h : ℕ) → AllFit (a ∷ b ∷ c ∷ d ∷ e ∷ f ∷ g ∷ h ∷ []) → groups (address_of_groups (a ∷ b ∷ c ∷ d ∷ e ∷ f ∷ g ∷ h ∷ [])) ≡ a ∷ b ∷ c ∷ d ∷ e ∷ f ∷ g ∷ h ∷ []
unfolding groups
eight_back a b c d e f g h fits =
    let v1 : ℕ = 0 + a in
    let v2 : ℕ = v1 * 65536 + b in
    let v3 : ℕ = v2 * 65536 + c in
    let v4 : ℕ = v3 * 65536 + d in
    let v5 : ℕ = v4 * 65536 + e in
    let v6 : ℕ = v5 * 65536 + f in
    let v7 : ℕ = v6 * 65536 + g in
    let ip : ℕ = v7 * 65536 + h in
    let q16 : ip / 2 ^ 16 ≡ v7 = high_of v7 h fits.1.1.1.1.1.1.1.0 in
    let q32 : ip / 2 ^ 32 ≡ v6 = high_after ip (2 ^ 16) v6 g q16 fits.1.1.1.1.1.1.0 in
    let q48 : ip / 2 ^ 48 ≡ v5 = high_after ip (2 ^ 32) v5 f q32 fits.1.1.1.1.1.0 in
    let q64 : ip / 2 ^ 64 ≡ v4 = high_after ip (2 ^ 48) v4 e q48 fits.1.1.1.1.0 in
    let q80 : ip / 2 ^ 80 ≡ v3 = high_after ip (2 ^ 64) v3 d q64 fits.1.1.1.0 in
    let q96 : ip / 2 ^ 96 ≡ v2 = high_after ip (2 ^ 80) v2 c q80 fits.1.1.0 in
    let q112 : ip / 2 ^ 112 ≡ v1 = high_after ip (2 ^ 96) v1 b q96 fits.1.0 in
    let first : ip / 2 ^ 112 % 2 ^ 16 ≡ a = ap (λ q. q % 2 ^ 16) q112 ∙ omega arith in
    let second : ip / 2 ^ 96 % 2 ^ 16 ≡ b = ap (λ q. q % 2 ^ 16) q96 ∙ low_of v1 b fits.1.0 in
    let third : ip / 2 ^ 80 % 2 ^ 16 ≡ c = ap (λ q. q % 2 ^ 16) q80 ∙ low_of v2 c fits.1.1.0 in
    let fourth : ip / 2 ^ 64 % 2 ^ 16 ≡ d = ap (λ q. q % 2 ^ 16) q64 ∙ low_of v3 d fits.1.1.1.0 in
    let fifth : ip / 2 ^ 48 % 2 ^ 16 ≡ e = ap (λ q. q % 2 ^ 16) q48 ∙ low_of v4 e fits.1.1.1.1.0 in
    let sixth : ip / 2 ^ 32 % 2 ^ 16 ≡ f = ap (λ q. q % 2 ^ 16) q32 ∙ low_of v5 f fits.1.1.1.1.1.0 in
    let seventh : ip / 2 ^ 16 % 2 ^ 16 ≡ g = ap (λ q. q % 2 ^ 16) q16 ∙ low_of v6 g fits.1.1.1.1.1.1.0 in
    let eighth : ip % 2 ^ 16 ≡ h = low_of v7 h fits.1.1.1.1.1.1.1.0 in
    cc

pub groups-address_of : (gs : List ℕ) → length gs ≡ 8 → AllFit gs → groups (address_of_groups gs) ≡ gs
groups-address_of (a ∷ b ∷ c ∷ d ∷ e ∷ f ∷ g ∷ h ∷ []) eight fits = eight_back a b c d e f g h fits
groups-address_of _ eight fits = absurd (omega arith)

pub prefix_text_is_read : (p : PlainPrefix) → IsPrefix p → IsPrefixText (prefix_text_of p) p
unfolding prefix_text_of
prefix_text_is_read p h = record {
  address_text = address_text_of p.bits;
  length_text = decimal p.len;
  parts = refl;
  address = address_text_is_read p.bits h.bits_in_range;
  len = decimal_is_short 3 p.len (omega arith) (omega (arith, h.len_in_range)) (omega (arith, h.len_in_range));
  prefix = h;
}
