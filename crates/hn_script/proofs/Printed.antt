-- What is printed is read again.
use Rattle.hn_base.proofs.Names.{◌≡◌, ℕ, ◌+◌, ◌^◌, ◌<◌, ◌≤◌, true, List, [], ◌∷◌, ◌++◌, length, get_or, take, map, codes, Option, Some, None, refl, sym, ap, ◌∙◌, arith, append_assoc, and_parts}
use Rattle.hn_base.proofs.Names.{nat_tests, append-nil, map_push, take_more, decimal, AllZip, AllByRecursion, join_with_byte, list_all, id_text, name_text, is_name_byte, IsShortNumeral, Lacks}
use Rattle.hn_script.proofs.Names.{lower_digits, Letter, M, P, H, L, decimal_is_short, AllByRecursion-append, Lacks-from_fact, prefix_text_of, IsPlain, Field, Named, Node, Endpoint, Number, Prefixed}
use Rattle.hn_script.proofs.Names.{Capability, Way, Hex, Length, IsField, IsFieldInRange, IsNumberText, field_text, letter_text, way_text, IsPrintable, renumbered, PrintedIsRead, IsEntry, numbered}
use Rattle.hn_script.proofs.Names.{line_spelling, IsOfVersion, of_version, values_text, line_text, ended, first_line, words_of, lines_of, How, Uni, Multi, Far, Line, Version}
use Rattle.hex.proofs.HexLemmas.{decode_of-encode_lower, length-encode_with}
use Rattle.hn_prefix.specs.Laws.{PrefixTextIsRead}
use Rattle.hn_script.proofs.SameScripts.{plain_first}
use Rattle.hn_script.proofs.HexTexts.{printed_id, IsWord-digits, IsWord-hex}
use Rattle.hn_script.proofs.LineWords.{first_letters}
use Rattle.hn_script.proofs.Pieces.{words_last, words_cut, lines_none, lines_cut}
use Rattle.hn_script.proofs.PrefixWords.{prefix_word, prefix_some}
use Rattle.hn_script.proofs.WordBytes.{IsWordByte, IsWord, IsWord-from_letters, IsPlain-word, Lacks-word, letters_some, letters_no_hash}

-- ---- the word of each value

-- a word that writes the value
pub record IsWordOf (field : Field) (word : List ℕ) : Type 0 where
  pub writes : IsField field word
  pub bytes : IsWord word
  pub some : 0 < length word

name_byte : (c : ℕ) → is_name_byte c ≡ true → IsWordByte c
name_byte c h = grind (arith, nat_tests)

name_bytes : (text : List ℕ) → list_all is_name_byte text ≡ true → IsWord text
name_bytes [] h = tt
name_bytes (c ∷ text) h =
    let parts = and_parts (is_name_byte c) (list_all is_name_byte text) h in
    (name_byte c parts.0, name_bytes text parts.1)

number_text : (lowest highest n : ℕ) → lowest ≤ n → n ≤ highest → n < 2 ^ 64 → IsNumberText lowest highest (decimal n) n
number_text lowest highest n low high small =
    record { numeral = decimal_is_short 20 n (omega arith) (omega arith) small; low = low; high = high }

digits_word : (n : ℕ) → IsShortNumeral 10 20 (decimal n) n → IsWord (decimal n)
digits_word n h = IsWord-digits 10 (decimal n) (omega arith) h.digits.1

way_word : (how : How) → IsWordOf (Way how) (way_text how)
way_word Uni = record { writes = refl; bytes = IsWord-from_letters (codes "uni") refl; some = omega arith }
way_word Multi = record { writes = refl; bytes = IsWord-from_letters (codes "multi") refl; some = omega arith }
way_word Far = record { writes = refl; bytes = IsWord-from_letters (codes "far") refl; some = omega arith }

letter_word : (letter : Letter) → IsWordOf (Capability letter) (letter_text letter)
letter_word M = record { writes = refl; bytes = IsWord-from_letters (codes "M") refl; some = omega arith }
letter_word P = record { writes = refl; bytes = IsWord-from_letters (codes "P") refl; some = omega arith }
letter_word H = record { writes = refl; bytes = IsWord-from_letters (codes "H") refl; some = omega arith }
letter_word L = record { writes = refl; bytes = IsWord-from_letters (codes "L") refl; some = omega arith }

printed_word : PrefixTextIsRead → (field : Field) → IsFieldInRange field → IsWordOf field (field_text field)
printed_word print (Named name) h = record {
  writes = record { text = refl; room = h };
  bytes = name_bytes (name_text name) name.is_name.name_bytes;
  some = name.is_name.not_empty;
}
printed_word print (Node id) h =
    let read = printed_id id.0 h in record {
      writes = read;
      bytes = IsWord-digits 16 (id_text id.0) (omega arith) read.numeral.digits.1;
      some = read.numeral.digits.0;
    }
printed_word print (Endpoint e) h =
    let read = number_text 1 _ e.0 h.0 h.1 (omega (arith, h.1)) in
    record { writes = read; bytes = digits_word e.0 read.numeral; some = read.numeral.digits.0 }
printed_word print (Number lowest highest n) h =
    let read = number_text lowest highest n h.0 h.1 h.2 in
    record { writes = read; bytes = digits_word n read.numeral; some = read.numeral.digits.0 }
printed_word print (Prefixed prefix) h =
    let read = print prefix h in let text = prefix_text_of prefix in
    record { writes = read; bytes = prefix_word text prefix read; some = prefix_some text prefix read }
printed_word print (Capability letter) h = letter_word letter
printed_word print (Way how) h = way_word how
printed_word print (Hex []) h = record { writes = refl; bytes = IsWord-from_letters (codes "-") refl; some = omega arith }
printed_word print (Hex (byte ∷ bytes)) h =
    let long = length-encode_with lower_digits (byte ∷ bytes) in record {
      writes = decode_of-encode_lower (byte ∷ bytes) h;
      bytes = IsWord-hex (byte ∷ bytes) h;
      some = omega (arith, long);
    }
printed_word print (Length None) h = record { writes = refl; bytes = IsWord-from_letters (codes "off") refl; some = omega arith }
printed_word print (Length (Some bits)) h =
    let read = number_text 1 64 bits h.0 h.1 (omega (arith, h.1)) in
    record { writes = read; bytes = digits_word bits read.numeral; some = read.numeral.digits.0 }

-- ---- words in a row

AreWords : List (List ℕ) → Type 0
AreWords words = AllByRecursion (λ word. IsWord word × (0 < length word)) words

printed_words : PrefixTextIsRead → (fields : List Field) → AllByRecursion IsFieldInRange fields → AreWords (map field_text fields)
unfolding AreWords
printed_words print [] h = tt
printed_words print (field ∷ fields) h = let word = printed_word print field h.0 in ((word.bytes, word.some), printed_words print fields h.1)

printed_fields : PrefixTextIsRead → (fields : List Field) → AllByRecursion IsFieldInRange fields → AllZip IsField fields (map field_text fields)
printed_fields print [] h = tt
printed_fields print (field ∷ fields) h = ((printed_word print field h.0).writes, printed_fields print fields h.1)

joined_words : (word : List ℕ) (words : List (List ℕ)) → AreWords (word ∷ words) → words_of (join_with_byte 32 (word ∷ words)) ≡ word ∷ words
unfolding AreWords
joined_words word [] h = words_last word h.0.1 (Lacks-word 32 (omega arith) word h.0.0)
joined_words word (next ∷ words) h =
    words_cut _ word (join_with_byte 32 (next ∷ words)) h.0.1 (Lacks-word 32 (omega arith) word h.0.0) refl
    ∙ ap (λ (found : List (List ℕ)). word ∷ found) (joined_words next words h.1)

joined_plain : (word : List ℕ) (words : List (List ℕ)) → AreWords (word ∷ words) → IsPlain (join_with_byte 32 (word ∷ words))
unfolding AreWords
joined_plain word [] h = IsPlain-word word h.0.0
joined_plain word (next ∷ words) h =
    AllByRecursion-append (λ c. (32 ≤ c) × (c ≤ 126)) word (32 ∷ join_with_byte 32 (next ∷ words)) (IsPlain-word word h.0.0)
    ((omega arith, omega arith), joined_plain next words h.1)

-- ---- lines

line_words : PrefixTextIsRead → (line : Line) → IsPrintable line → AreWords ((line_spelling line).first ∷ map field_text (line_spelling line).fields)
unfolding AreWords
line_words print line h =
    let letters = first_letters line in
    ((IsWord-from_letters (line_spelling line).first letters, letters_some (line_spelling line).first letters), printed_words print (line_spelling line).fields h.in_range)

printed_entry : PrefixTextIsRead → (version : Version) (line : Line) → IsOfVersion version line → IsPrintable line → IsEntry (of_version version) (Some line) (line_text line)
printed_entry print version line of h = record {
  short = h.short;
  plain = joined_plain (line_spelling line).first (map field_text (line_spelling line).fields) (line_words print line h);
  gives = rw (joined_words (line_spelling line).first (map field_text (line_spelling line).fields) (line_words print line h))
      ((of, refl, printed_fields print (line_spelling line).fields h.in_range), letters_no_hash (line_spelling line).first (first_letters line));
}

pub plain_lacks : (text : List ℕ) → IsPlain text → Lacks 10 text
plain_lacks = Lacks-from_fact (λ c. (32 ≤ c) × (c ≤ 126)) 10 (λ plain. omega arith)

-- the texts of numbered lines
abbrev texts_of : List (ℕ × Line) → List (List ℕ)
texts_of lines = map (λ (line : ℕ × Line). line_text line.1) lines

abbrev given : List (ℕ × Line) → List (Option Line)
given lines = map (λ (line : ℕ × Line). Some line.1) lines

-- each line is of the version, and can be printed
abbrev AreGood : Version → List (ℕ × Line) → Type 0
AreGood version lines = AllByRecursion (λ line. IsOfVersion version line.1) lines × AllByRecursion (λ line. IsPrintable line.1) lines

given_entries : PrefixTextIsRead → (version : Version) (lines : List (ℕ × Line)) → AreGood version lines → AllZip (IsEntry (of_version version)) (given lines) (texts_of lines)
given_entries print version [] h = tt
given_entries print version (line ∷ lines) h = (printed_entry print version line.1 h.0.0 h.1.0, given_entries print version lines (h.0.1, h.1.1))

given_numbers : (n : ℕ) (lines : List (ℕ × Line)) → renumbered n lines ≡ numbered n (given lines)
given_numbers n [] = refl
given_numbers n (line ∷ lines) = ap (λ (found : List (ℕ × Line)). (n, line.1) ∷ found) (given_numbers (n + 1) lines)

texts_lack : PrefixTextIsRead → (version : Version) (lines : List (ℕ × Line)) → AreGood version lines → AllByRecursion (Lacks 10) (texts_of lines)
texts_lack print version [] h = tt
texts_lack print version (line ∷ lines) h =
    (plain_lacks (line_text line.1) (printed_entry print version line.1 h.0.0 h.1.0).plain, texts_lack print version lines (h.0.1, h.1.1))

pub ended_lines : (texts : List (List ℕ)) → AllByRecursion (Lacks 10) texts → lines_of (ended texts) ≡ texts
ended_lines [] h = lines_none [] refl
ended_lines (text ∷ texts) h =
    lines_cut (ended (text ∷ texts)) text (ended texts) h.0 (append_assoc text (10 ∷ []) (ended texts))
    ∙ ap (λ (found : List (List ℕ)). text ∷ found) (ended_lines texts h.1)

pub first_lacks : (version : Version) → Lacks 10 (first_line version)
first_lacks version = plain_lacks (first_line version) (plain_first version)

pub printed_script : PrefixTextIsRead → PrintedIsRead
printed_script print script of h small = record {
  small = small;
  texts = texts_of script.lines;
  parts = ended_lines (first_line script.version ∷ texts_of script.lines) (first_lacks script.version, texts_lack print script.version script.lines (of, h));
  lines = (given script.lines, given_entries print script.version script.lines (of, h), given_numbers 2 script.lines);
}

-- ---- the printing itself

words_are : (first : List ℕ) (fields : List Field) → join_with_byte 32 (first ∷ map field_text fields) ≡ first ++ values_text fields
words_are first [] = sym (append-nil first)
words_are first (field ∷ fields) = refl

pub ended-push : (texts : List (List ℕ)) (text : List ℕ) → ended (texts ++ text ∷ []) ≡ ended texts ++ text ++ 10 ∷ []
ended-push [] text = append-nil (text ++ 10 ∷ [])
ended-push (first ∷ texts) text =
    ap (λ (rest : List ℕ). (first ++ 10 ∷ []) ++ rest) (ended-push texts text) ∙ simp append_assoc

pub printed_more : (first : List ℕ) (lines : List (ℕ × Line)) (i : ℕ) (line : ℕ × Line) → i < length lines → line ≡ get_or lines i line
    → ended (first ∷ texts_of (take (i + 1) lines)) ≡ ended (first ∷ texts_of (take i lines)) ++ line_text line.1 ++ 10 ∷ []
printed_more first lines i line lt is =
    let more = take_more lines i line lt ∙ ap (λ (x : ℕ × Line). take i lines ++ x ∷ []) (sym is) in
    ap (λ (found : List (ℕ × Line)). ended (first ∷ texts_of found)) more
    ∙ ap (λ (texts : List (List ℕ)). ended (first ∷ texts)) (map_push (λ (l : ℕ × Line). line_text l.1) (take i lines) line)
    ∙ ended-push (first ∷ texts_of (take i lines)) (line_text line.1)

-- the values of a line stand after its first word
pub line_is : (line : Line) → line_text line ≡ (line_spelling line).first ++ values_text (line_spelling line).fields
line_is line = words_are (line_spelling line).first (line_spelling line).fields
