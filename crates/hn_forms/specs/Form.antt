-- What the words of the command line ask for.
use Rattle.std.specs.Prelude.{◌≡◌, ℕ, ◌-◌, ◌^◌, ◌<◌, ◌≤◌, List, [], ◌∷◌, length, take, codes}
use Rattle.std.specs.List.{AllZip}
use Rattle.hn_base.specs.HexText.{IsIdText}
use Rattle.hn_script.specs.Field.{IsNumberText}
use Rattle.hn_forms.specs.declared.words.Form.{Form}
use Rattle.hn_forms.specs.declared.words.Form.TheVariants.{Lab, Udp, Node, Decode, Watch, Soak}
use Rattle.hn_forms.specs.declared.words.NodeCall.{NodeCall}

-- the word of a form without numbers
abbrev pub IsPlainWord : Form → List ℕ → Type 0
IsPlainWord Lab word = word ≡ codes "lab"
IsPlainWord (Udp base) word = ⊥
IsPlainWord (Node call) word = ⊥
IsPlainWord Decode word = word ≡ codes "decode"
IsPlainWord Watch word = word ≡ codes "watch"
IsPlainWord (Soak n seed) word = ⊥

-- the word of a form with one number, and this: a port from 1,024 to 65,534, in one to twenty decimal digits
abbrev pub IsBasedWord : Form → List ℕ → List ℕ → Type 0
IsBasedWord (Udp base) word base_word = (word ≡ codes "udp") × IsNumberText 1024 65534 base_word base
IsBasedWord _ word base_word = ⊥

-- the word of a form with two numbers, and these: 2 to 32 routers, and a seed below 2^64, in as many digits
abbrev pub AreCountedWords : Form → List ℕ → List ℕ → List ℕ → Type 0
AreCountedWords (Soak n seed) word count_word seed_word =
    (word ≡ codes "soak") × IsNumberText 2 32 count_word n × IsNumberText 0 (2 ^ 64 - 1) seed_word seed
AreCountedWords _ word count_word seed_word = ⊥

-- these words are ports from 1,024 to 65,534, the first so many of these eight; there are one to eight
pub record ArePeerPorts (words : List (List ℕ)) (count : ℕ) (ports : List ℕ) : Type 0 where
  pub some : 0 < count
  pub most : count ≤ 8
  pub places : length ports ≡ 8
  pub are : AllZip (IsNumberText 1024 65534) words (take count ports)

-- the words after `node`: an identifier in eight hexadecimal digits, a port, 1 to 100,000 turns, a seed, and the ports of one to
-- eight peers
pub record IsNodeCall (call : NodeCall) (id port turns seed : List ℕ) (peers : List (List ℕ)) : Type 0 where
  pub id_is : IsIdText id call.id.0
  pub port_is : IsNumberText 1024 65534 port call.port
  pub turns_are : IsNumberText 1 100000 turns call.turns
  pub seed_is : IsNumberText 0 (2 ^ 64 - 1) seed call.seed
  pub peers_are : ArePeerPorts peers call.count call.peers

-- the words of the command line ask for a form: the program's name, and the words of the form
abbrev pub IsFormOf : Form → List (List ℕ) → Type 0
IsFormOf Lab words = (program : List ℕ) × (words ≡ program ∷ codes "lab" ∷ [])
IsFormOf (Udp base) words =
    (program base_word : List ℕ) × (words ≡ program ∷ codes "udp" ∷ base_word ∷ []) × IsNumberText 1024 65534 base_word base
IsFormOf (Node call) words =
    (program id port turns seed : List ℕ) × (peers : List (List ℕ))
    × (words ≡ program ∷ codes "node" ∷ id ∷ port ∷ turns ∷ seed ∷ peers) × IsNodeCall call id port turns seed peers
IsFormOf Decode words = (program : List ℕ) × (words ≡ program ∷ codes "decode" ∷ [])
IsFormOf Watch words = (program : List ℕ) × (words ≡ program ∷ codes "watch" ∷ [])
IsFormOf (Soak n seed) words =
    (program count_word seed_word : List ℕ) × (words ≡ program ∷ codes "soak" ∷ count_word ∷ seed_word ∷ [])
    × IsNumberText 2 32 count_word n × IsNumberText 0 (2 ^ 64 - 1) seed_word seed

-- the words ask for no form
abbrev pub AsksNothing : List (List ℕ) → Type 0
AsksNothing words = (form : Form) → IsFormOf form words → ⊥

-- forms that read the source
abbrev pub HasSource : Form → Type 0
HasSource (Soak n seed) = ⊥
HasSource _ = Unit {0}

-- forms that play a script
abbrev pub IsPlayed : Form → Type 0
IsPlayed (Node call) = ⊥
IsPlayed Decode = ⊥
IsPlayed Watch = ⊥
IsPlayed _ = Unit {0}

-- forms that use the wire
abbrev pub IsWired : Form → Type 0
IsWired (Udp base) = Unit {0}
IsWired (Node call) = Unit {0}
IsWired _ = ⊥

-- forms that serve a router, by the clock
abbrev pub IsTimed : Form → Type 0
IsTimed (Node call) = Unit {0}
IsTimed _ = ⊥

-- What a form does not use is as before, and what it does not make is not there. These facts say so: of the source, of the wire,
-- of the clock, of the world, and of the router that was served.
pub record LeavesUnused (form : Form) (Unread Unwired Untimed NoWorld NotServed : Type 0) : Type 0 where
  pub unread : ¬ HasSource form → Unread
  pub unwired : ¬ IsWired form → Unwired
  pub untimed : ¬ IsTimed form → Untimed
  pub no_world : ¬ IsPlayed form → NoWorld
  pub not_served : ¬ IsTimed form → NotServed

-- the statuses with which a form may end
abbrev pub statuses_of : Form → List ℕ
statuses_of (Udp base) = 0 ∷ 2 ∷ 3 ∷ 4 ∷ 5 ∷ 6 ∷ []
statuses_of (Node call) = 0 ∷ 2 ∷ 3 ∷ 4 ∷ 5 ∷ 6 ∷ []
statuses_of (Soak n seed) = 0 ∷ 2 ∷ 4 ∷ 6 ∷ []
statuses_of _ = 0 ∷ 2 ∷ 3 ∷ 4 ∷ 6 ∷ []
