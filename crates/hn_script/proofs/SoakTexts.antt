-- The lines of the script of a soak are printed as its texts.
use Rattle.hn_base.proofs.Names.{◌≡◌, ◌≢◌, ℕ, ◌+◌, ◌*◌, ◌/◌, ◌^◌, ◌-◌, ◌<◌, ◌≤◌, true, List, [], ◌∷◌, ◌++◌, length, map, codes, refl, sym, ap, subst, ◌∙◌, arith, append_assoc, add-one, lit<, lit≤}
use Rattle.hn_base.proofs.Names.{append-nil, length-append, ne_eqb, nat_tests, digit_value, decimal, AllZip, AllByRecursion, join_with_byte, list_all, AllDigits, id_text, name_text, IsNameText}
use Rattle.hn_base.proofs.Names.{is_name_byte, PlainPrefix, IsPrefix}
use Rattle.hn_script.proofs.Names.{Name, decimal_is_short, Field, Named, Node, Endpoint, Number, Prefixed, IsFieldInRange, IsNameWord, field_text, One, line_spelling, IsOfVersion, line_text, router_name}
use Rattle.hn_script.proofs.Names.{link_name, up_to, IsLineOf, AddsLines, Line, Router, Link, Attach, External, Seed, Loss, Run, Used, Prefixes, Audit, Show, Compare, Mail}
use Rattle.std.specs.Char.{is_ascii_alphabetic}
use Rattle.std.specs.Fmt.{digits}
use Rattle.std.specs.Net.Text.{hex_groups_text, hex}
use Rattle.hn_prefix.specs.AddressText.{groups, address_text_of}
use Rattle.hn_prefix.specs.PrefixText.{prefix_text_of}
use Rattle.hn_script.specs.Soak.{upward_texts}
use Rattle.hn_script.proofs.HexTexts.{printed_id}

-- ---- names

name_digit : (c : ℕ) → digit_value c < 10 → is_name_byte c ≡ true
name_digit c h = grind (arith, nat_tests)

name_digits : (text : List ℕ) → AllDigits 10 text → list_all is_name_byte text ≡ true
name_digits [] h = refl
name_digits (c ∷ text) h = rw (name_digit c h.0) (name_digits text h.1)

letter_byte : (c : ℕ) → is_ascii_alphabetic c ≡ true → is_name_byte c ≡ true
letter_byte c h = grind (arith, nat_tests)

-- a letter and a number
pub numbered_name : (letter n : ℕ) → n < 2 ^ 32 → is_ascii_alphabetic letter ≡ true → IsNameText (letter ∷ decimal n)
numbered_name letter n small is_letter =
    let read = decimal_is_short 10 n (omega arith) (omega arith) (omega arith) in
    let short = read.short in
    record {
      not_empty = omega arith;
      short = omega arith;
      letter_first = is_letter;
      name_bytes = rw (letter_byte letter is_letter) (name_digits (decimal n) read.digits.1);
    }

-- the name of the first router
pub first_name : (name : Name) → IsNameWord name (router_name 1) → IsNameWord name (codes "r1")
unfolding digits
first_name name h = h

-- ---- short words

record IsShort (field : Field) : Type 0 where
  in_range : IsFieldInRange field
  short : length (field_text field) ≤ 64

short_name : (name : Name) (word : List ℕ) → IsNameWord name word → IsShort (Named name)
short_name name word h = record { in_range = h.room; short = let short = name.is_name.short in omega arith }

short_number : (lowest highest n : ℕ) → lowest ≤ n → n ≤ highest → n < 2 ^ 64 → IsShort (Number lowest highest n)
short_number lowest highest n low high small =
    let read = decimal_is_short 20 n (omega arith) (omega arith) small in
    record { in_range = (low, high, small); short = let short = read.short in omega arith }

short_node : (id : ℕ) → id < 2 ^ 32 → IsShort (Node (record { 0 = id }))
short_node id small = record { in_range = small; short = let eight = (printed_id id small).eight in omega arith }

short_endpoint : (e : ℕ) → 1 ≤ e → e < 2 ^ 32 → IsShort (Endpoint (record { 0 = e }))
short_endpoint e low small =
    let read = decimal_is_short 20 e (omega arith) (omega arith) (omega arith) in
    record { in_range = (low, omega arith); short = let short = read.short in omega arith }

in_range_of : (fields : List Field) → AllByRecursion IsShort fields → AllByRecursion IsFieldInRange fields
in_range_of [] h = tt
in_range_of (field ∷ fields) h = (h.0.in_range, in_range_of fields h.1)

short_words : (first : List ℕ) (fields : List Field) → AllByRecursion IsShort fields → length (join_with_byte 32 (first ∷ map field_text fields)) ≤ length first + 65 * length fields
short_words first [] h = omega arith
short_words first (field ∷ fields) h =
    let rest = short_words (field_text field) fields h.1 in
    let short = h.0.short in
    omega (arith, length-append first (32 ∷ join_with_byte 32 (field_text field ∷ map field_text fields)))

line_so : (line : Line) (text : List ℕ) → IsOfVersion One line → AllByRecursion IsShort (line_spelling line).fields
    → length (line_spelling line).first + 65 * length (line_spelling line).fields ≤ 16384 → line_text line ≡ text → IsLineOf line text
line_so line text of h few is =
    let short = short_words (line_spelling line).first (line_spelling line).fields h in
    record { of_one = of; printable = record { in_range = in_range_of (line_spelling line).fields h; short = omega arith }; text_is = is }

-- ---- each line

pub seed_line : (seed : ℕ) → seed < 2 ^ 64 → IsLineOf (Seed seed) (codes "seed " ++ decimal seed)
seed_line seed small = line_so _ _ tt (short_number 0 (2 ^ 64 - 1) seed (omega arith) (omega arith) small, tt) (omega arith) refl

pub loss_line : IsLineOf (Loss 10) (codes "loss 10")
unfolding digits
loss_line = line_so _ _ tt (short_number 0 100 10 (omega arith) (omega arith) (lit< tt), tt) (omega arith) refl

pub link_line : (name : Name) (word : List ℕ) → IsNameWord name word → IsLineOf (Link name) (codes "link " ++ word)
link_line name word h = line_so _ _ tt (short_name name word h, tt) (omega arith) (ap (λ (w : List ℕ). codes "link " ++ w) (sym h.text))

pub router_line : (name : Name) (word : List ℕ) (id : ℕ) → id < 2 ^ 32 → IsNameWord name word → IsLineOf (Router name (record { 0 = id })) (codes "router " ++ word ++ codes " " ++ id_text id)
router_line name word id small h =
    line_so _ _ tt (short_name name word h, (short_node id small, tt)) (omega arith)
    (ap (λ (w : List ℕ). codes "router " ++ (w ++ (codes " " ++ id_text id))) (sym h.text) ∙ ap (λ (w : List ℕ). codes "router " ++ w) (sym (append_assoc word (codes " ") (id_text id))))

pub first_attach_line : (name link : Name) (word other : List ℕ) → IsNameWord name word → IsNameWord link other
    → IsLineOf (Attach name (record { 0 = 1 }) link) (codes "attach " ++ word ++ codes " 1 " ++ other)
unfolding digits
first_attach_line name link word other h k =
    line_so _ _ tt (short_name name word h, (short_endpoint 1 (omega arith) (lit< tt), (short_name link other k, tt))) (omega arith)
    (ap (λ (w : List ℕ). codes "attach " ++ (w ++ (codes " 1 " ++ name_text link))) (sym h.text)
    ∙ ap (λ (w : List ℕ). codes "attach " ++ (word ++ (codes " 1 " ++ w))) (sym k.text)
    ∙ ap (λ (w : List ℕ). codes "attach " ++ w) (sym (append_assoc word (codes " 1 ") other)))

pub second_attach_line : (name link : Name) (word other : List ℕ) → IsNameWord name word → IsNameWord link other
    → IsLineOf (Attach name (record { 0 = 2 }) link) (codes "attach " ++ word ++ codes " 2 " ++ other)
unfolding digits
second_attach_line name link word other h k =
    line_so _ _ tt (short_name name word h, (short_endpoint 2 (omega arith) (lit< tt), (short_name link other k, tt))) (omega arith)
    (ap (λ (w : List ℕ). codes "attach " ++ (w ++ (codes " 2 " ++ name_text link))) (sym h.text)
    ∙ ap (λ (w : List ℕ). codes "attach " ++ (word ++ (codes " 2 " ++ w))) (sym k.text)
    ∙ ap (λ (w : List ℕ). codes "attach " ++ w) (sym (append_assoc word (codes " 2 ") other)))

-- the delegated prefix
abbrev pub uplink : PlainPrefix
uplink = record { bits = 0x20010db8 * 2 ^ 96; len = 56 }

pub uplink_is_prefix : IsPrefix uplink
uplink_is_prefix = record { len_in_range = lit≤ tt; bits_in_range = lit< tt; no_bit_past_len = refl }

short_uplink : IsShort (Prefixed uplink)
unfolding prefix_text_of address_text_of groups hex_groups_text hex digits
short_uplink = record { in_range = uplink_is_prefix; short = lit≤ tt }

uplink_text : prefix_text_of uplink ≡ codes "2001:db8::/56"
unfolding prefix_text_of address_text_of groups hex_groups_text hex digits
uplink_text = refl

pub external_line : (name : Name) (prefix : PlainPrefix) → prefix ≡ uplink → IsNameWord name (codes "r1") → IsLineOf (External name prefix 7200 3600) (codes "external r1 2001:db8::/56 7200 3600")
unfolding digits
external_line name prefix is h =
    subst (λ (p : PlainPrefix). IsLineOf (External name p 7200 3600) (codes "external r1 2001:db8::/56 7200 3600")) (sym is)
    (line_so _ _ tt (
      short_name name (codes "r1") h,
      (
        short_uplink,
        (short_number 0 (2 ^ 32 - 1) 7200 (omega arith) (lit≤ tt) (lit< tt), (short_number 0 7200 3600 (omega arith) (lit≤ tt) (lit< tt), tt)),
      ),
    ) (omega arith)
    (ap (λ (w : List ℕ). codes "external " ++ (w ++ (codes " " ++ (prefix_text_of uplink ++ codes " 7200 3600")))) (sym h.text)
    ∙ ap (λ (w : List ℕ). codes "external r1 " ++ (w ++ codes " 7200 3600")) uplink_text))

pub run_line : IsLineOf (Run 60000 100) (codes "run 60000 100")
unfolding digits
run_line = line_so _ _ tt (short_number 0 (2 ^ 48) 60000 (omega arith) (lit≤ tt) (lit< tt), (short_number 1 (2 ^ 48) 100 (lit≤ tt) (lit≤ tt) (lit< tt), tt)) (omega arith) refl

pub compare_line : (left right : Name) (word : List ℕ) → IsNameWord left (codes "r1") → IsNameWord right word → IsLineOf (Compare left right) (codes "compare r1 " ++ word)
compare_line left right word h k =
    line_so _ _ tt (short_name left (codes "r1") h, (short_name right word k, tt)) (omega arith)
    (ap (λ (w : List ℕ). codes "compare " ++ (w ++ (codes " " ++ name_text right))) (sym h.text) ∙ ap (λ (w : List ℕ). codes "compare r1 " ++ w) (sym k.text))

pub audit_line : (name : Name) (word : List ℕ) → IsNameWord name word → IsLineOf (Audit name) (codes "audit " ++ word)
audit_line name word h = line_so _ _ tt (short_name name word h, tt) (omega arith) (ap (λ (w : List ℕ). codes "audit " ++ w) (sym h.text))

pub used_line : (name : Name) (word : List ℕ) → IsNameWord name word → IsLineOf (Used name) (codes "used " ++ word)
used_line name word h = line_so _ _ tt (short_name name word h, tt) (omega arith) (ap (λ (w : List ℕ). codes "used " ++ w) (sym h.text))

pub prefixes_line : (name : Name) (word : List ℕ) → IsNameWord name word → IsLineOf (Prefixes name) (codes "prefixes " ++ word)
prefixes_line name word h = line_so _ _ tt (short_name name word h, tt) (omega arith) (ap (λ (w : List ℕ). codes "prefixes " ++ w) (sym h.text))

pub show_line : (name : Name) (word : List ℕ) → IsNameWord name word → IsLineOf (Show name) (codes "show " ++ word)
show_line name word h = line_so _ _ tt (short_name name word h, tt) (omega arith) (ap (λ (w : List ℕ). codes "show " ++ w) (sym h.text))

pub mail_line : IsLineOf Mail (codes "mail")
mail_line = line_so _ _ tt tt (omega arith) refl

-- ---- lines after lines

AllZip-append : {A B : Type 0} (R : A → B → Type 0) (xs more : List A) (ys others : List B) → AllZip R xs ys → AllZip R more others → AllZip R (xs ++ more) (ys ++ others)
AllZip-append R [] more [] others h k = k
AllZip-append R [] more (y ∷ ys) others h k = absurd h
AllZip-append R (x ∷ xs) more [] others h k = absurd h
AllZip-append R (x ∷ xs) more (y ∷ ys) others h k = (h.0, AllZip-append R xs more ys others h.1 k)

-- nothing is added
pub adds_none : (lines : List Line) → AddsLines [] lines lines
adds_none lines = record { more = []; added = sym (append-nil lines); lines = tt }

-- some lines, and then others
pub adds_both : (texts others : List (List ℕ)) (before between after : List Line) → AddsLines texts before between → AddsLines others between after → AddsLines (texts ++ others) before after
adds_both texts others before between after h k = record {
  more = h.more ++ k.more;
  added = k.added ∙ ap (λ (lines : List Line). lines ++ k.more) h.added ∙ append_assoc before h.more k.more;
  lines = AllZip-append IsLineOf h.more k.more texts others h.lines k.lines;
}

-- one line
pub adds_one : (text : List ℕ) (before after : List Line) (line : Line) → IsLineOf line text → after ≡ before ++ line ∷ [] → AddsLines (text ∷ []) before after
adds_one text before after line h is = record { more = line ∷ []; added = is; lines = (h, tt) }

-- some lines, and then one
pub adds_then : (texts : List (List ℕ)) (text : List ℕ) (before between after : List Line) (line : Line) → AddsLines texts before between
    → IsLineOf line text → after ≡ between ++ line ∷ [] → AddsLines (texts ++ text ∷ []) before after
adds_then texts text before between after line h is added =
    adds_both texts (text ∷ []) before between after h (adds_one text between after line is added)

-- the texts for one number more
pub up_to-more : (n : ℕ) (texts : ℕ → List (List ℕ)) → up_to (n + 1) texts ≡ up_to n texts ++ texts (n + 1)
up_to-more n texts = rw add-one refl

pub adds_more : (n : ℕ) (texts : ℕ → List (List ℕ)) (before between after : List Line) → AddsLines (up_to n texts) before between
    → AddsLines (texts (n + 1)) between after → AddsLines (up_to (n + 1) texts) before after
adds_more n texts before between after h k =
    subst (λ (found : List (List ℕ)). AddsLines found before after) (sym (up_to-more n texts)) (adds_both (up_to n texts) (texts (n + 1)) before between after h k)

-- the last number is reached
pub adds_end : (k n : ℕ) (texts : ℕ → List (List ℕ)) (before after : List Line) → k ≤ n → n ≤ k → AddsLines (up_to k texts) before after → AddsLines (up_to n texts) before after
adds_end k n texts before after low high h =
    let last : k ≡ n = omega arith in
    subst (λ (number : ℕ). AddsLines (up_to number texts) before after) last h

-- the first router has no endpoint 1, and each other has one
pub adds_no_upward : (k : ℕ) (lines : List Line) → k ≡ 1 → AddsLines (upward_texts k) lines lines
unfolding upward_texts
adds_no_upward k lines is = subst (λ (number : ℕ). AddsLines (upward_texts number) lines lines) (sym is) (adds_none lines)

pub adds_upward : (k : ℕ) (before after : List Line) → k ≢ 1 → AddsLines ((codes "attach " ++ router_name k ++ codes " 1 " ++ link_name (k / 2)) ∷ []) before after
    → AddsLines (upward_texts k) before after
unfolding upward_texts
adds_upward k before after is_not h = rw (ne_eqb k 1 is_not) h
