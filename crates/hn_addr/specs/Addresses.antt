-- Which addresses a router takes for itself inside its assigned prefixes (RFC 7788, section 10.4). The rule is this
-- project's own.
use Rattle.std.specs.Prelude.{◌≡◌, ◌≢◌, ◌⊎◌, ◌&&◌, ℕ, ◌+◌, ◌-◌, ◌%◌, ◌^◌, ◌<◌, ◌≤◌, Bool, List, [], ◌∷◌, ◌++◌, filter, Contains}
use Rattle.std.specs.List.Sorted.{IsStrictlySortedBy}
use Rattle.hn_pair.specs.declared.assigned.Assigned.{Assigned}
use Rattle.hn_base.specs.Ascending.{HaveSame}
use Rattle.hn_base.specs.Prefix.{IsInside}
use Rattle.hn_base.specs.Rules.{RuleOf, Each}
use Rattle.hn_base.specs.declared.ids.EpId.{EpId}
use Rattle.hn_data.specs.Said.{HasVersion, HasAddress}
use Rattle.hn_data.specs.View.{PlainView}
use Rattle.hn_data.specs.declared.view.Entry.{Entry}
use Rattle.hn_own.specs.Addresses.{OwnAddress, address_cmp}
use Rattle.hn_own.specs.Ports.{is_attached}
use Rattle.hn_rules.specs.Seen.{seen_by}
use Rattle.hn_rules.specs.declared.state.State.{State}
use Rattle.hn_addr.specs.declared.choice.Choice.{Choice}
use Rattle.hn_addr.specs.declared.choice.Choice.TheVariants.{Keep, Set}
use Rattle.hn_addr.specs.declared.choosing.Choosing.{Choosing}

-- ---- the addresses of other nodes

-- Another node has an address: it is reachable, has an HNCP-Version, and says the address, of whatever endpoint.
pub record IsAddressOfOther (view : PlainView) (node address : ℕ) : Type 0 where
  pub entry : Entry
  pub reachable : Contains view.nodes entry
  pub is_it : entry.id.0 ≡ node
  pub other : node ≢ view.own
  pub version : HasVersion entry.body
  pub said : OwnAddress
  pub says : HasAddress entry.body said
  pub of_address : said.1 ≡ address

-- ---- the own address that stays

-- the address came already, of whatever endpoint
pub record HasCome (list : List OwnAddress) (x : ℕ) : Type 0 where
  pub one : OwnAddress
  pub among : Contains list one
  pub address_is : one.1 ≡ x

-- the least own address of the assignment's endpoint inside its prefix
pub record IsLeastOwn (own : List OwnAddress) (c : Assigned) (x : ℕ) : Type 0 where
  pub own_is : Contains own (c.endpoint, x)
  pub inside : IsInside x c.prefix
  pub least : (y : ℕ) → Contains own (c.endpoint, y) → IsInside y c.prefix → x ≤ y

-- It stays: no node with a greater identifier has it, and it did not come already.
pub record Stays (view : PlainView) (own : List OwnAddress) (c : Assigned) (list : List OwnAddress) (x : ℕ) : Type 0 where
  pub least : IsLeastOwn own c x
  pub not_yielded : (node : ℕ) → IsAddressOfOther view node x → ¬ (view.own < node)
  pub new : ¬ HasCome list x

-- ---- a new address

-- A number fits: the address that it makes is inside the prefix, is no other node's, and did not come already.
pub record NumberFits (view : PlainView) (c : Assigned) (list : List OwnAddress) (k : ℕ) : Type 0 where
  pub low : 1 ≤ k
  pub high : k ≤ 65535
  pub inside : k < 2 ^ (128 - c.prefix.len)
  pub free : (node : ℕ) → ¬ IsAddressOfOther view node (c.prefix.bits + k)
  pub new : ¬ HasCome list (c.prefix.bits + k)

-- the number at which a word says to begin, 1 to 65,535
abbrev pub start_of : ℕ → ℕ
start_of word = 1 + word % 65535

-- how far a number is from a start, in cyclic order through 1 to 65,535
abbrev pub ahead : ℕ → ℕ → ℕ
ahead start k = (k + 65535 - start) % 65535

-- the first number that fits, from the start that a word says
pub record IsFirstFit (view : PlainView) (c : Assigned) (list : List OwnAddress) (word k : ℕ) : Type 0 where
  pub fits : NumberFits view c list k
  pub first : (j : ℕ) → NumberFits view c list j → ahead (start_of word) k ≤ ahead (start_of word) j

-- ---- what comes of one assignment

-- The choosing so far: the addresses in the order in which they came, and the words that were taken. One more address
-- comes, with these words.
abbrev pub adding : EpId → ℕ → List ℕ → Choosing → Choosing
adding e x words p = record { list = p.list ++ (e, x) ∷ []; words = p.words ++ words }

-- its least own address stays, and takes no word
abbrev pub KeepsOwn : PlainView → List OwnAddress → Assigned → RuleOf Choosing
KeepsOwn view own c before after = (x : ℕ) × Stays view own c before.list x × (after ≡ adding c.endpoint x [] before)

-- the address with the first number that fits comes, from the start that a word says
abbrev pub DrawsOne : PlainView → Assigned → RuleOf Choosing
DrawsOne view c before after =
    (word k : ℕ) × IsFirstFit view c before.list word k × (after ≡ adding c.endpoint (c.prefix.bits + k) (word ∷ []) before)

-- no number fits, and nothing comes
abbrev pub GetsNone : PlainView → Assigned → RuleOf Choosing
GetsNone view c before after = ((k : ℕ) → ¬ NumberFits view c before.list k) × (after ≡ before)

-- Its least own address stays; or it does not, and one with a number that fits comes, or none.
abbrev pub IsChosenFor : PlainView → List OwnAddress → Assigned → RuleOf Choosing
IsChosenFor view own c before after =
    KeepsOwn view own c before after
    ⊎ (((x : ℕ) → ¬ Stays view own c before.list x) × (DrawsOne view c before after ⊎ GetsNone view c before after))

-- ---- what the router has next

-- The assignments that count are applied, and of an attached endpoint. The post of a private link is none.
abbrev pub counts : State → Assigned → Bool
counts s c = c.applied && is_attached c.endpoint s.ports

-- before the first assignment
abbrev pub none_chosen : Choosing
none_chosen = record { list = []; words = [] }

-- the choosing goes over the assignments that count, in ascending order of delegated prefix and endpoint
abbrev pub IsChoosing : State → Choosing → Type 0
IsChoosing s end = Each (IsChosenFor (seen_by s) s.addresses) (filter (counts s) s.held.assigned) none_chosen end

-- the addresses that the router would have next, in ascending order, and the words that choosing them takes
pub record AreNext (s : State) (addresses : List OwnAddress) (words : List ℕ) : Type 0 where
  pub end : Choosing
  pub chosen : IsChoosing s end
  pub words_are : words ≡ end.words
  pub ascending : IsStrictlySortedBy address_cmp addresses
  pub same : HaveSame addresses end.list

-- the choice: the own addresses stay, or these are set, which are others
abbrev pub IsChoice : State → Choice → List ℕ → Type 0
IsChoice s Keep words = AreNext s s.addresses words
IsChoice s (Set list) words = AreNext s list words × (list ≢ s.addresses)

-- The own addresses stay, and no word is taken: no address is chosen anew.
abbrev pub IsAddressStill : State → Type 0
IsAddressStill s = AreNext s s.addresses []
