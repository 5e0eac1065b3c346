-- Texts that are words: each byte is above the space, and printable.
use Rattle.hn_base.proofs.Names.{◌≡◌, ◌≢◌, ℕ, ◌<◌, ◌≤◌, Bool, true, false, nat_lt, List, [], ◌∷◌, length, slice_index, arith, and_parts, false≢true, nat_tests, IsUtf8-from_ascii, AllByRecursion}
use Rattle.hn_base.proofs.Names.{list_all, IsAscii, IsUtf8, Lacks}
use Rattle.hn_script.proofs.Names.{◌&&◌, Lacks-from_fact, IsPlain}
use Rattle.std.proofs.lemmas.Str.Ascii.{IsAscii-nil, IsAscii-cons}
use Rattle.hn_base.proofs.EachByRecursion.{AllByRecursion-weaker}

-- a byte of a word
abbrev pub IsWordByte : ℕ → Type 0
IsWordByte c = (32 < c) × (c ≤ 126)

abbrev pub IsWord : List ℕ → Type 0
IsWord text = AllByRecursion IsWordByte text

-- a byte of a word that is no `#`, which computes
abbrev pub is_plain_letter : ℕ → Bool
is_plain_letter c = nat_lt 35 c && nat_lt c 127

above_hash : (c : ℕ) → is_plain_letter c ≡ true → (35 < c) × IsWordByte c
above_hash c h = grind (arith, nat_tests)

-- some such bytes
abbrev pub is_letters : List ℕ → Bool
is_letters [] = false
is_letters (c ∷ text) = is_plain_letter c && list_all is_plain_letter text

word_from_letters : (text : List ℕ) → list_all is_plain_letter text ≡ true → IsWord text
word_from_letters [] h = tt
word_from_letters (c ∷ text) h =
    let parts = and_parts (is_plain_letter c) (list_all is_plain_letter text) h in
    ((above_hash c parts.0).1, word_from_letters text parts.1)

pub IsWord-from_letters : (text : List ℕ) → is_letters text ≡ true → IsWord text
IsWord-from_letters [] h = absurd (false≢true h)
IsWord-from_letters (c ∷ text) h = word_from_letters (c ∷ text) h

pub letters_some : (text : List ℕ) → is_letters text ≡ true → 0 < length text
letters_some [] h = absurd (false≢true h)
letters_some (c ∷ text) h = omega arith

pub letters_no_hash : (text : List ℕ) → is_letters text ≡ true → slice_index text 0 ≢ 35
letters_no_hash [] h = absurd (false≢true h)
letters_no_hash (c ∷ text) h = λ hash.
    let parts = and_parts (is_plain_letter c) (list_all is_plain_letter text) h in
    let above = (above_hash c parts.0).0 in
    absurd (omega arith)

pub IsPlain-word : (text : List ℕ) → IsWord text → IsPlain text
IsPlain-word = AllByRecursion-weaker IsWordByte (λ c. (32 ≤ c) × (c ≤ 126)) (λ c h. (omega arith, h.1))

pub Lacks-word : (byte : ℕ) → byte < 33 → (text : List ℕ) → IsWord text → Lacks byte text
Lacks-word byte low text h = Lacks-from_fact IsWordByte byte (λ above. omega arith) text h

IsAscii-word : (text : List ℕ) → IsWord text → IsAscii text
IsAscii-word [] h = IsAscii-nil
IsAscii-word (c ∷ text) h = IsAscii-cons c text (omega (arith, h.0.1)) (IsAscii-word text h.1)

pub IsUtf8-word : (text : List ℕ) → IsWord text → IsUtf8 text
IsUtf8-word text h = IsUtf8-from_ascii text (IsAscii-word text h)
