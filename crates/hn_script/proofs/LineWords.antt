-- The lines of each first word: some line begins with it, and what is after the word in all lines that do.
use Rattle.hn_base.proofs.Names.{◌≡◌, ◌≢◌, ◌⊎◌, ℕ, Bool, true, false, List, [], ◌∷◌, ◌++◌, length, map, Option, None, Err, inl, inr, refl, sym, subst, arith, replicate, lit≤, false≢true, eqb-true}
use Rattle.hn_base.proofs.Names.{and_parts, or_left, or_right, PlainPrefix}
use Rattle.hn_script.proofs.Names.{◌==◌, ◌&&◌, eq-eqb, EpId, Letter, M, Name, IsUnknown, FirstWordFault, Field, Named, Node, Endpoint, Number, Prefixed, Capability, Way, Hex, Length, IsOneOf}
use Rattle.hn_script.proofs.Names.{IsNoneOf, line_spelling, every_line, priority, lifetime, ReadsFields, How, Uni, Line, Router, Link, Attach, Detach, External, Withdraw, Caps, Stop, Start, Seed}
use Rattle.hn_script.proofs.Names.{Loss, Time, Tick, Run, Deliver, Drop, Flow, Inject, Show, Hash, Used, Prefixes, Elect, Advert, Audit, Compare, Mail, Private, Sync, Address, Addresses, Addressed}
use Rattle.hn_script.proofs.Names.{Ula, Ulas, Radv, Solicit}
use Rattle.std.proofs.Common.{◌||◌}
use Rattle.hn_base.specs.declared.caps.Caps.{Caps as PriorityCaps}
use Rattle.hn_base.specs.declared.ids.NodeId.{NodeId}
use Rattle.hn_script.specs.FirstWords.{shared_firsts, router_firsts, prefix_firsts, range_firsts}
use Rattle.hn_script.specs.Line.{any_number, time_from}
use Rattle.hn_script.proofs.WordBytes.{is_letters}
use Rattle.hn_script.proofs.WordFaults.{fault_after}

-- whether two texts are the same, which computes
abbrev pub same_text : List ℕ → List ℕ → Bool
same_text [] [] = true
same_text [] (y ∷ ys) = false
same_text (x ∷ xs) [] = false
same_text (x ∷ xs) (y ∷ ys) = x == y && same_text xs ys

pub same_text-refl : (xs : List ℕ) → same_text xs xs ≡ true
same_text-refl [] = refl
same_text-refl (x ∷ xs) = rw (eq-eqb x x refl) (same_text-refl xs)

-- whether a text is one of these
abbrev pub is_one_of : List (List ℕ) → List ℕ → Bool
is_one_of [] word = false
is_one_of (first ∷ firsts) word = same_text word first || is_one_of firsts word

pub one_of : (firsts : List (List ℕ)) (word : List ℕ) → IsOneOf firsts word → is_one_of firsts word ≡ true
one_of [] word h = absurd h
one_of (first ∷ firsts) word (inl e) = or_left (same_text word first) (is_one_of firsts word) (subst (λ w. same_text word w ≡ true) e (same_text-refl word))
one_of (first ∷ firsts) word (inr h) = or_right (same_text word first) (is_one_of firsts word) (one_of firsts word h)

same_text-true : (a b : List ℕ) → same_text a b ≡ true → a ≡ b
same_text-true [] [] h = refl
same_text-true [] (y ∷ ys) h = absurd (false≢true h)
same_text-true (x ∷ xs) [] h = absurd (false≢true h)
same_text-true (x ∷ xs) (y ∷ ys) h =
    let parts = and_parts (x == y) (same_text xs ys) h in
    let head = eqb-true x y parts.0 in
    let tail = same_text-true xs ys parts.1 in
    rw (head, tail) refl

none_so : (b c : Bool) → b || c ≡ true → (b ≡ true) ⊎ (c ≡ true)
none_so true c h = inl refl
none_so false c h = inr h

lacks : (firsts : List (List ℕ)) (word : List ℕ) → IsNoneOf firsts word → is_one_of firsts word ≡ true → ⊥
lacks [] word none h = absurd (false≢true h)
lacks (first ∷ firsts) word none h = elim (none_so (same_text word first) (is_one_of firsts word) h) [
  | inl same ↦ none.0 (same_text-true word first same)
  | inr later ↦ lacks firsts word none.1 later
]

-- a text of a list is no word that is none of the list
pub none_of : (firsts : List (List ℕ)) (first word : List ℕ) → is_one_of firsts first ≡ true → IsNoneOf firsts word → first ≢ word
none_of firsts first word one none e = absurd (lacks firsts word none (subst (λ w. is_one_of firsts w ≡ true) e one))

-- ---- lines of some words

-- the first words of lines
abbrev pub firsts : List Line → List (List ℕ)
firsts lines = map (λ line. (line_spelling line).first) lines

some_of : (lines : List Line) (word : List ℕ) → IsOneOf (firsts lines) word → (line : Line) × ((line_spelling line).first ≡ word)
some_of [] word h = absurd h
some_of (line ∷ lines) word (inl e) = (line, sym e)
some_of (line ∷ lines) word (inr h) = some_of lines word h

-- what follows the first words of some lines, in all lines that begin with one of them
abbrev pub Follows : {A : Type 0} → List Line → (A → List Field) → Type 0
Follows {A} lines fields_of = (line : Line) → is_one_of (firsts lines) (line_spelling line).first ≡ true → (a : A) × ((line_spelling line).fields ≡ fields_of a)

-- what is wrong with the words after such a first word
pub word_fault : {A : Type 0} (lines : List Line) (count : ℕ) (fields_of : A → List Field) → ((a : A) → length (fields_of a) ≡ count) → Follows lines fields_of
    → (word : List ℕ) → IsOneOf (firsts lines) word
    → (words : List (List ℕ)) (code : ℕ) → ReadsFields count fields_of words (Err code) → FirstWordFault every_line word words code
word_fault lines count fields_of counted follows word one =
    let some = some_of lines word one in
    fault_after every_line word some.0 tt some.1 count fields_of counted
    (λ line _ e. follows line (subst (λ w. is_one_of (firsts lines) w ≡ true) (sym e) (one_of (firsts lines) word one)))

-- ---- some values

pub a_name : Name
a_name = record {
  len = 1;
  bytes = 65 ∷ replicate 15 0;
  fits = lit≤ tt;
  is_name = record { not_empty = omega arith; short = omega arith; letter_first = refl; name_bytes = refl };
  padded = refl;
}

pub a_node : NodeId
a_node = record { 0 = 0 }

pub an_endpoint : EpId
an_endpoint = record { 0 = 1 }

pub some_caps : PriorityCaps
some_caps = record { m = 0; p = 0; h = 0; l = 0; m_in_range = omega arith; p_in_range = omega arith; h_in_range = omega arith; l_in_range = omega arith }

pub a_prefix : PlainPrefix
a_prefix = record { bits = 0; len = 0 }

-- ---- the lines of each first word, by what follows it

abbrev pub name_lines : List Line
name_lines = Link a_name ∷ Stop a_name ∷ Start a_name ∷ Tick a_name ∷ Show a_name ∷ Hash a_name ∷ Used a_name ∷ Prefixes a_name ∷ Audit a_name ∷
    Address a_name ∷ Addresses a_name ∷ Addressed a_name ∷ Ula a_name ∷ Ulas a_name ∷ []

pub name_follows : Follows name_lines (λ (a : Name). Named a ∷ [])
name_follows (Link a) h = (a, refl)
name_follows (Stop a) h = (a, refl)
name_follows (Start a) h = (a, refl)
name_follows (Tick a) h = (a, refl)
name_follows (Show a) h = (a, refl)
name_follows (Hash a) h = (a, refl)
name_follows (Used a) h = (a, refl)
name_follows (Prefixes a) h = (a, refl)
name_follows (Audit a) h = (a, refl)
name_follows (Address a) h = (a, refl)
name_follows (Addresses a) h = (a, refl)
name_follows (Addressed a) h = (a, refl)
name_follows (Ula a) h = (a, refl)
name_follows (Ulas a) h = (a, refl)
name_follows _ h = absurd (false≢true h)

abbrev pub endpoint_lines : List Line
endpoint_lines = Detach a_name an_endpoint ∷ Advert a_name an_endpoint ∷ Radv a_name an_endpoint ∷ Solicit a_name an_endpoint ∷ []

pub endpoint_follows : Follows endpoint_lines (λ (a : Name × EpId). Named a.0 ∷ Endpoint a.1 ∷ [])
endpoint_follows (Detach a b) h = ((a, b), refl)
endpoint_follows (Advert a b) h = ((a, b), refl)
endpoint_follows (Radv a b) h = ((a, b), refl)
endpoint_follows (Solicit a b) h = ((a, b), refl)
endpoint_follows _ h = absurd (false≢true h)

abbrev pub number_lines : List Line
number_lines = Seed 0 ∷ Deliver 0 ∷ Drop 0 ∷ []

pub number_follows : Follows number_lines (λ (a : ℕ). any_number a ∷ [])
number_follows (Seed a) h = (a, refl)
number_follows (Deliver a) h = (a, refl)
number_follows (Drop a) h = (a, refl)
number_follows _ h = absurd (false≢true h)

abbrev pub pair_lines : List Line
pair_lines = Compare a_name a_name ∷ Sync a_name a_name ∷ []

pub pair_follows : Follows pair_lines (λ (a : Name × Name). Named a.0 ∷ Named a.1 ∷ [])
pair_follows (Compare a b) h = ((a, b), refl)
pair_follows (Sync a b) h = ((a, b), refl)
pair_follows _ h = absurd (false≢true h)

abbrev pub lone_lines : List Line
lone_lines = Flow ∷ Mail ∷ []

pub lone_follows : Follows lone_lines (λ (a : Unit {0}). [])
lone_follows Flow h = (tt, refl)
lone_follows Mail h = (tt, refl)
lone_follows _ h = absurd (false≢true h)

abbrev pub router_lines : List Line
router_lines = Router a_name a_node ∷ []

pub router_follows : Follows router_lines (λ (a : Name × NodeId). Named a.0 ∷ Node a.1 ∷ [])
router_follows (Router a b) h = ((a, b), refl)
router_follows _ h = absurd (false≢true h)

abbrev pub attach_lines : List Line
attach_lines = Attach a_name an_endpoint a_name ∷ []

pub attach_follows : Follows attach_lines (λ (a : Name × EpId × Name). Named a.0 ∷ Endpoint a.1 ∷ Named a.2 ∷ [])
attach_follows (Attach a b c) h = ((a, b, c), refl)
attach_follows _ h = absurd (false≢true h)

abbrev pub external_lines : List Line
external_lines = External a_name a_prefix 0 0 ∷ []

pub external_follows : Follows external_lines (λ (a : Name × PlainPrefix × ℕ × ℕ). Named a.0 ∷ Prefixed a.1 ∷ lifetime a.2 ∷ Number 0 a.2 a.3 ∷ [])
external_follows (External a b c d) h = ((a, b, c, d), refl)
external_follows _ h = absurd (false≢true h)

abbrev pub withdraw_lines : List Line
withdraw_lines = Withdraw a_name a_prefix ∷ []

pub withdraw_follows : Follows withdraw_lines (λ (a : Name × PlainPrefix). Named a.0 ∷ Prefixed a.1 ∷ [])
withdraw_follows (Withdraw a b) h = ((a, b), refl)
withdraw_follows _ h = absurd (false≢true h)

abbrev pub caps_lines : List Line
caps_lines = Caps a_name some_caps ∷ []

pub caps_follows : Follows caps_lines (λ (a : Name × PriorityCaps). Named a.0 ∷ priority a.1.m ∷ priority a.1.p ∷ priority a.1.h ∷ priority a.1.l ∷ [])
caps_follows (Caps a b) h = ((a, b), refl)
caps_follows _ h = absurd (false≢true h)

abbrev pub private_lines : List Line
private_lines = Private a_name None ∷ []

pub private_follows : Follows private_lines (λ (a : Name × Option ℕ). Named a.0 ∷ Length a.1 ∷ [])
private_follows (Private a b) h = ((a, b), refl)
private_follows _ h = absurd (false≢true h)

abbrev pub loss_lines : List Line
loss_lines = Loss 0 ∷ []

pub loss_follows : Follows loss_lines (λ (a : ℕ). Number 0 100 a ∷ [])
loss_follows (Loss a) h = (a, refl)
loss_follows _ h = absurd (false≢true h)

abbrev pub time_lines : List Line
time_lines = Time 0 ∷ []

pub time_follows : Follows time_lines (λ (a : ℕ). time_from 0 a ∷ [])
time_follows (Time a) h = (a, refl)
time_follows _ h = absurd (false≢true h)

abbrev pub run_lines : List Line
run_lines = Run 0 0 ∷ []

pub run_follows : Follows run_lines (λ (a : ℕ × ℕ). time_from 0 a.0 ∷ time_from 1 a.1 ∷ [])
run_follows (Run a b) h = ((a, b), refl)
run_follows _ h = absurd (false≢true h)

abbrev pub elect_lines : List Line
elect_lines = Elect a_name an_endpoint M ∷ []

pub elect_follows : Follows elect_lines (λ (a : Name × EpId × Letter). Named a.0 ∷ Endpoint a.1 ∷ Capability a.2 ∷ [])
elect_follows (Elect a b c) h = ((a, b, c), refl)
elect_follows _ h = absurd (false≢true h)

abbrev pub inject_lines : List Line
inject_lines = Inject a_name an_endpoint Uni [] ∷ []

pub inject_follows : Follows inject_lines (λ (a : Name × EpId × How × List ℕ). Named a.0 ∷ Endpoint a.1 ∷ Way a.2 ∷ Hex a.3 ∷ [])
inject_follows (Inject a b c d) h = ((a, b, c, d), refl)
inject_follows _ h = absurd (false≢true h)

-- ---- no other words

-- the first words that no other line shares what follows with, and those that lines share
abbrev pub known_words : List (List ℕ)
known_words = range_firsts ++ prefix_firsts ++ router_firsts ++ shared_firsts

known_first : (line : Line) → is_one_of known_words (line_spelling line).first ≡ true
known_first (Router a b) = refl
known_first _ = refl

-- a word that is none of these begins no line
pub unknown_word : (word : List ℕ) → IsNoneOf known_words word → IsUnknown every_line word
unknown_word word none line has e = none_of known_words (line_spelling line).first word (known_first line) none e

-- the first word of a line is of letters
pub first_letters : (line : Line) → is_letters (line_spelling line).first ≡ true
first_letters (Router a b) = refl
first_letters _ = refl

-- ---- the lines that are of no other group

-- a line of the words of routers is one of these
pub no_other_of_router : (line : Line) → IsOneOf router_firsts (line_spelling line).first
    → ((name : Name) (id : NodeId) → line ≢ Router name id) → ((name : Name) (e : EpId) (link : Name) → line ≢ Attach name e link)
    → ((name : Name) (caps : PriorityCaps) → line ≢ Caps name caps) → ((name : Name) (e : EpId) (letter : Letter) → line ≢ Elect name e letter)
    → ((name : Name) (e : EpId) (how : How) (bytes : List ℕ) → line ≢ Inject name e how bytes) → ⊥
no_other_of_router (Router name id) one router attach caps elect inject = router name id refl
no_other_of_router (Attach name e link) one router attach caps elect inject = attach name e link refl
no_other_of_router (Caps name c) one router attach caps elect inject = caps name c refl
no_other_of_router (Elect name e letter) one router attach caps elect inject = elect name e letter refl
no_other_of_router (Inject name e how bytes) one router attach caps elect inject = inject name e how bytes refl
no_other_of_router line one router attach caps elect inject = false≢true (one_of router_firsts (line_spelling line).first one)

-- a line of the words of prefixes is one of these
pub no_other_of_prefix : (line : Line) → IsOneOf prefix_firsts (line_spelling line).first
    → ((name : Name) (prefix : PlainPrefix) (valid preferred : ℕ) → line ≢ External name prefix valid preferred)
    → ((name : Name) (prefix : PlainPrefix) → line ≢ Withdraw name prefix) → ((name : Name) (bits : Option ℕ) → line ≢ Private name bits) → ⊥
no_other_of_prefix (External name prefix valid preferred) one external withdraw private = external name prefix valid preferred refl
no_other_of_prefix (Withdraw name prefix) one external withdraw private = withdraw name prefix refl
no_other_of_prefix (Private name bits) one external withdraw private = private name bits refl
no_other_of_prefix line one external withdraw private = false≢true (one_of prefix_firsts (line_spelling line).first one)
