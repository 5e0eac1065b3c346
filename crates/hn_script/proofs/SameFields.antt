-- A word writes one value of a kind, and words spell one line.
use Rattle.hn_base.proofs.Names.{◌≡◌, ◌≢◌, ℕ, true, false, List, [], ◌∷◌, map, codes, slice_index, Option, Some, None, Ok, refl, sym, ap, ◌∙◌, subst, arith, false≢true, AllZip}
use Rattle.hn_script.proofs.Names.{◌==◌, decode_of, decode_of-ok, Letter, M, P, H, L, PrefixTextIsOfOne, Field, Named, Node, Endpoint, Number, Prefixed, Capability, Way, Hex, Length, IsField}
use Rattle.hn_script.proofs.Names.{IsHexWord, IsNumberText, letter_text, way_text, line_spelling, of_version, Name, Version, How, Uni, Multi, Far, Line, Router, Link, Attach, Detach, External}
use Rattle.hn_script.proofs.Names.{Withdraw, Caps, Stop, Start, Seed, Loss, Time, Tick, Run, Deliver, Drop, Flow, Inject, Show, Hash, Used, Prefixes, Elect, Advert, Audit, Compare, Mail, Private}
use Rattle.hn_script.proofs.Names.{Sync, Address, Addresses, Addressed, Ula, Ulas, Radv, Solicit, same_caps}
use Rattle.std.proofs.Common.{if◌then◌else◌}
use Rattle.hex.proofs.HexLemmas.{decode_of-same}
use Rattle.hn_base.proofs.NumeralLemmas.{same_number}
use Rattle.hn_base.specs.declared.caps.Caps.{Caps as PriorityCaps}
use Rattle.hn_script.proofs.LineWords.{same_text, same_text-refl}
use Rattle.hn_script.proofs.SameEntries.{IsTold}
use Rattle.hn_script.proofs.Values.{same_name}
use Rattle.hn_base.proofs.Keys.{same_id, same_node}

pub apart : (a b : List ℕ) → a ≡ b → same_text a b ≡ false → ⊥
apart a b e differ = false≢true (sym differ ∙ subst (λ t. same_text a t ≡ true) e (same_text-refl a))

same_way : (a b : How) → way_text a ≡ way_text b → a ≡ b
same_way Uni Uni e = refl
same_way Uni Multi e = absurd (apart (codes "uni") (codes "multi") e refl)
same_way Uni Far e = absurd (apart (codes "uni") (codes "far") e refl)
same_way Multi Uni e = absurd (apart (codes "multi") (codes "uni") e refl)
same_way Multi Multi e = refl
same_way Multi Far e = absurd (apart (codes "multi") (codes "far") e refl)
same_way Far Uni e = absurd (apart (codes "far") (codes "uni") e refl)
same_way Far Multi e = absurd (apart (codes "far") (codes "multi") e refl)
same_way Far Far e = refl

-- the capability of a letter
abbrev named_by : ℕ → Letter
named_by c = if c == 77 then M else if c == 80 then P else if c == 72 then H else L

named_letter : (letter : Letter) → named_by (slice_index (letter_text letter) 0) ≡ letter
named_letter M = refl
named_letter P = refl
named_letter H = refl
named_letter L = refl

same_letter : (a b : Letter) → letter_text a ≡ letter_text b → a ≡ b
same_letter a b e = sym (named_letter a) ∙ ap (λ text. named_by (slice_index text 0)) e ∙ named_letter b

odd_dash : (bytes : List ℕ) → decode_of (codes "-") ≢ Ok bytes
odd_dash bytes e = let even = (decode_of-ok (codes "-") bytes e).0 in absurd (omega arith)

same_bytes : (a b word : List ℕ) → IsHexWord a word → IsHexWord b word → a ≡ b
same_bytes [] [] word h k = refl
same_bytes [] (c ∷ b) word h k = absurd (odd_dash (c ∷ b) (subst (λ w. decode_of w ≡ Ok (c ∷ b)) h k))
same_bytes (c ∷ a) [] word h k = absurd (odd_dash (c ∷ a) (subst (λ w. decode_of w ≡ Ok (c ∷ a)) k h))
same_bytes (c ∷ a) (d ∷ b) word h k = decode_of-same word (c ∷ a) (d ∷ b) h k

-- `off` is no number
off_no_number : (bits : ℕ) → ¬ IsNumberText 1 64 (codes "off") bits
off_no_number bits h = let digit = h.numeral.digits.1.0 in absurd (omega (arith, digit))

same_length : (a b : Option ℕ) (word : List ℕ) → IsField (Length a) word → IsField (Length b) word → a ≡ b
same_length None None word h k = refl
same_length None (Some m) word h k = absurd (off_no_number m (subst (λ w. IsNumberText 1 64 w m) h k))
same_length (Some n) None word h k = absurd (off_no_number n (subst (λ w. IsNumberText 1 64 w n) k h))
same_length (Some n) (Some m) word h k = ap Some (same_number 10 20 word n m h.numeral k.numeral)

-- two values of one kind
abbrev pub SameKind : Field → Field → Type 0
SameKind (Named a) (Named b) = Unit {0}
SameKind (Node a) (Node b) = Unit {0}
SameKind (Endpoint a) (Endpoint b) = Unit {0}
SameKind (Number lowest highest n) (Number low high m) = Unit {0}
SameKind (Prefixed a) (Prefixed b) = Unit {0}
SameKind (Capability a) (Capability b) = Unit {0}
SameKind (Way a) (Way b) = Unit {0}
SameKind (Hex a) (Hex b) = Unit {0}
SameKind (Length a) (Length b) = Unit {0}
SameKind _ _ = ⊥

-- the value, without the range of a number
abbrev pub without_range : Field → Field
without_range (Number lowest highest n) = Number 0 0 n
without_range field = field

-- a word writes one value of a kind, whatever the range of a number is
same_field : PrefixTextIsOfOne → (f g : Field) (word : List ℕ) → SameKind f g → IsField f word → IsField g word → without_range f ≡ without_range g
same_field one (Named a) (Named b) word kind h k = ap Named (same_name a b (sym h.text ∙ k.text) h.room k.room)
same_field one (Node a) (Node b) word kind h k = ap Node (same_node a b (same_number 16 8 word a.0 b.0 h.numeral k.numeral))
same_field one (Endpoint a) (Endpoint b) word kind h k = ap Endpoint (same_id a b (same_number 10 20 word a.0 b.0 h.numeral k.numeral))
same_field one (Number l u n) (Number l' u' m) word kind h k = ap (λ value. Number 0 0 value) (same_number 10 20 word n m h.numeral k.numeral)
same_field one (Prefixed a) (Prefixed b) word kind h k = ap Prefixed (one word a b h k)
same_field one (Capability a) (Capability b) word kind h k = ap Capability (same_letter a b (sym h ∙ k))
same_field one (Way a) (Way b) word kind h k = ap Way (same_way a b (sym h ∙ k))
same_field one (Hex a) (Hex b) word kind h k = ap Hex (same_bytes a b word h k)
same_field one (Length a) (Length b) word kind h k = ap Length (same_length a b word h k)
same_field one _ _ word kind h k = absurd kind

pub same_fields : PrefixTextIsOfOne → (fs gs : List Field) (words : List (List ℕ)) → AllZip SameKind fs gs → AllZip IsField fs words → AllZip IsField gs words
    → map without_range fs ≡ map without_range gs
same_fields one [] [] words kinds h k = refl
same_fields one [] (g ∷ gs) words kinds h k = absurd kinds
same_fields one (f ∷ fs) [] words kinds h k = absurd kinds
same_fields one (f ∷ fs) (g ∷ gs) [] kinds h k = absurd h
same_fields one (f ∷ fs) (g ∷ gs) (word ∷ words) kinds h k =
    let head = same_field one f g word kinds.0 h.0 k.0 in
    let tail = same_fields one fs gs words kinds.1 h.1 k.1 in
    cc

-- capabilities that four priorities of a line give
same_caps_lines : (a : Name) (b : PriorityCaps) (c : Name) (d : PriorityCaps)
    → map without_range (line_spelling (Caps a b)).fields ≡ map without_range (line_spelling (Caps c d)).fields → Caps a b ≡ Caps c d
same_caps_lines a b c d e =
    let name : a ≡ c = cc in
    let m : b.m ≡ d.m = cc in
    let p : b.p ≡ d.p = cc in
    let h : b.h ≡ d.h = cc in
    let l : b.l ≡ d.l = cc in
    rw (name, same_caps b d m p h l) refl

-- the values of a line
abbrev values_of : Line → List Field
values_of line = map without_range (line_spelling line).fields

same_values : PrefixTextIsOfOne → (line other : Line) (words : List (List ℕ)) → AllZip SameKind (line_spelling line).fields (line_spelling other).fields
    → AllZip IsField (line_spelling line).fields words → AllZip IsField (line_spelling other).fields words → values_of line ≡ values_of other
same_values one line other = same_fields one (line_spelling line).fields (line_spelling other).fields

-- words spell one line of a first word
same_row : PrefixTextIsOfOne → (line other : Line) (words : List (List ℕ)) → same_text (line_spelling line).first (line_spelling other).first ≡ true
    → AllZip IsField (line_spelling line).fields words → AllZip IsField (line_spelling other).fields words → line ≡ other
same_row one (Router a b) (Router g h) words e p q = let values = same_values one (Router a b) (Router g h) words (tt, (tt, tt)) p q in cc
same_row one (Link a) (Link g) words e p q = let values = same_values one (Link a) (Link g) words (tt, tt) p q in cc
same_row one (Attach a b c) (Attach g h i) words e p q = let values = same_values one (Attach a b c) (Attach g h i) words (tt, (tt, (tt, tt))) p q in cc
same_row one (Detach a b) (Detach g h) words e p q = let values = same_values one (Detach a b) (Detach g h) words (tt, (tt, tt)) p q in cc
same_row one (External a b c d) (External g h i j) words e p q = let values = same_values one (External a b c d) (External g h i j) words (tt, (tt, (tt, (tt, tt)))) p q in cc
same_row one (Withdraw a b) (Withdraw g h) words e p q = let values = same_values one (Withdraw a b) (Withdraw g h) words (tt, (tt, tt)) p q in cc
same_row one (Caps a b) (Caps g h) words e p q = same_caps_lines a b g h (same_values one (Caps a b) (Caps g h) words (tt, (tt, (tt, (tt, (tt, tt))))) p q)
same_row one (Stop a) (Stop g) words e p q = let values = same_values one (Stop a) (Stop g) words (tt, tt) p q in cc
same_row one (Start a) (Start g) words e p q = let values = same_values one (Start a) (Start g) words (tt, tt) p q in cc
same_row one (Seed a) (Seed g) words e p q = let values = same_values one (Seed a) (Seed g) words (tt, tt) p q in cc
same_row one (Loss a) (Loss g) words e p q = let values = same_values one (Loss a) (Loss g) words (tt, tt) p q in cc
same_row one (Time a) (Time g) words e p q = let values = same_values one (Time a) (Time g) words (tt, tt) p q in cc
same_row one (Tick a) (Tick g) words e p q = let values = same_values one (Tick a) (Tick g) words (tt, tt) p q in cc
same_row one (Run a b) (Run g h) words e p q = let values = same_values one (Run a b) (Run g h) words (tt, (tt, tt)) p q in cc
same_row one (Deliver a) (Deliver g) words e p q = let values = same_values one (Deliver a) (Deliver g) words (tt, tt) p q in cc
same_row one (Drop a) (Drop g) words e p q = let values = same_values one (Drop a) (Drop g) words (tt, tt) p q in cc
same_row one Flow Flow words e h k = refl
same_row one (Inject a b c d) (Inject g h i j) words e p q = let values = same_values one (Inject a b c d) (Inject g h i j) words (tt, (tt, (tt, (tt, tt)))) p q in cc
same_row one (Show a) (Show g) words e p q = let values = same_values one (Show a) (Show g) words (tt, tt) p q in cc
same_row one (Hash a) (Hash g) words e p q = let values = same_values one (Hash a) (Hash g) words (tt, tt) p q in cc
same_row one (Used a) (Used g) words e p q = let values = same_values one (Used a) (Used g) words (tt, tt) p q in cc
same_row one (Prefixes a) (Prefixes g) words e p q = let values = same_values one (Prefixes a) (Prefixes g) words (tt, tt) p q in cc
same_row one (Elect a b c) (Elect g h i) words e p q = let values = same_values one (Elect a b c) (Elect g h i) words (tt, (tt, (tt, tt))) p q in cc
same_row one (Advert a b) (Advert g h) words e p q = let values = same_values one (Advert a b) (Advert g h) words (tt, (tt, tt)) p q in cc
same_row one (Audit a) (Audit g) words e p q = let values = same_values one (Audit a) (Audit g) words (tt, tt) p q in cc
same_row one (Compare a b) (Compare g h) words e p q = let values = same_values one (Compare a b) (Compare g h) words (tt, (tt, tt)) p q in cc
same_row one Mail Mail words e h k = refl
same_row one (Private a b) (Private g h) words e p q = let values = same_values one (Private a b) (Private g h) words (tt, (tt, tt)) p q in cc
same_row one (Sync a b) (Sync g h) words e p q = let values = same_values one (Sync a b) (Sync g h) words (tt, (tt, tt)) p q in cc
same_row one (Address a) (Address g) words e p q = let values = same_values one (Address a) (Address g) words (tt, tt) p q in cc
same_row one (Addresses a) (Addresses g) words e p q = let values = same_values one (Addresses a) (Addresses g) words (tt, tt) p q in cc
same_row one (Addressed a) (Addressed g) words e p q = let values = same_values one (Addressed a) (Addressed g) words (tt, tt) p q in cc
same_row one (Ula a) (Ula g) words e p q = let values = same_values one (Ula a) (Ula g) words (tt, tt) p q in cc
same_row one (Ulas a) (Ulas g) words e p q = let values = same_values one (Ulas a) (Ulas g) words (tt, tt) p q in cc
same_row one (Radv a b) (Radv g h) words e p q = let values = same_values one (Radv a b) (Radv g h) words (tt, (tt, tt)) p q in cc
same_row one (Solicit a b) (Solicit g h) words e p q = let values = same_values one (Solicit a b) (Solicit g h) words (tt, (tt, tt)) p q in cc
same_row one _ _ words e p q = absurd (false≢true e)

-- words spell one line
pub same_line : PrefixTextIsOfOne → (version : Version) → IsTold (of_version version)
same_line one version line other word words h k =
    same_row one line other words (subst (λ w. same_text (line_spelling line).first w ≡ true) (h.1 ∙ sym k.1) (same_text-refl (line_spelling line).first)) h.2 k.2
