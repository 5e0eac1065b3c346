-- What routers hold and say was published (RFC 7787, section 7.2.3).
use Rattle.std.specs.Prelude.{◌≡◌, ℕ, ◌⊎◌, List, [], ◌++◌, All, Contains, Some}
use Rattle.hn_hash.specs.Hash.{hash_of, Collides}
use Rattle.hn_tlv.specs.Grammar.{PlainTlv, IsTlv, IsTlvList, spelling}
use Rattle.hn_typed.specs.Item.{NodeState}
use Rattle.hn_typed.specs.Table.{IsItem}
use Rattle.hn_store.specs.Nodes.{held}
use Rattle.hn_store.specs.declared.stored.Stored.{Stored}
use Rattle.hn_rules.specs.declared.answers.Answer.{Answer}
use Rattle.hn_rules.specs.declared.done.Publication.{Publication}
use Rattle.hn_rules.specs.declared.running.Running.{Running}
use Rattle.hn_rules.specs.declared.state.State.{State}
use Rattle.hn_rules.specs.Router.{IsHashed}

-- The texts that may collide: node data that were published, and no data. A Node State without data whose hash is that
-- of no bytes is read as one with no data.
abbrev pub IsText : List Publication → List ℕ → Type 0
IsText published text = (text ≡ []) ⊎ ((p : Publication) × Contains published p × (p.body ≡ text))

-- two of these texts differ and have one hash
abbrev pub TextsCollide : List Publication → Type 0
TextsCollide published = (a : List ℕ) × (b : List ℕ) × IsText published a × IsText published b × Collides a b

-- these node data were published under this identifier with this number
pub record WasPublished (published : List Publication) (id number : ℕ) (body : List ℕ) : Type 0 where
  pub publication : Publication
  pub there : Contains published publication
  pub of_node : publication.id.0 ≡ id
  pub of_number : publication.number ≡ number
  pub of_body : publication.body ≡ body

-- what a router holds of other nodes was published
abbrev pub HoldsPublished : List Publication → State → Type 0
HoldsPublished published s =
    (id : ℕ) (stored : Stored) → held s.table.entries id ≡ Some stored → WasPublished published id stored.number stored.body

-- and so were its own node data
pub record IsGenuine (published : List Publication) (s : State) : Type 0 where
  pub own : WasPublished published s.id.0 s.number s.own.body
  pub others : HoldsPublished published s

-- a Node State says what was published, with the data or with their hash alone
pub record SaysPublished (published : List Publication) (node number : ℕ) (hash body : List ℕ) : Type 0 where
  pub data_of : List ℕ
  pub is_published : WasPublished published node number data_of
  pub hash_is : hash ≡ hash_of data_of
  pub body_is : (body ≡ data_of) ⊎ (body ≡ [])

-- so does a TLV, if it is a Node State
abbrev pub TlvSaysPublished : List Publication → PlainTlv → Type 0
TlvSaysPublished published tlv =
    (node number age : ℕ) (hash body : List ℕ) → IsItem tlv (NodeState node number age hash body)
    → SaysPublished published node number hash body

-- so does each of these TLVs
abbrev pub TlvsSayPublished : List Publication → List PlainTlv → Type 0
TlvsSayPublished published tlvs = (tlv : PlainTlv) → Contains tlvs tlv → TlvSaysPublished published tlv

-- so does each TLV of the list that bytes are, if they are one
abbrev pub BytesSayPublished : List Publication → List ℕ → Type 0
BytesSayPublished published bytes = (tlvs : List PlainTlv) → IsTlvList tlvs bytes → TlvsSayPublished published tlvs

-- an answer is what is written for a TLV that says what was published
pub record IsGenuineAnswer (published : List Publication) (a : Answer) : Type 0 where
  pub tlv : PlainTlv
  pub is_tlv : IsTlv tlv
  pub spelled : a.tlv ≡ spelling tlv
  pub says : TlvSaysPublished published tlv

-- In the middle of an event, after these publications of before: own and held node data were published, and so was what
-- answers and datagrams say.
pub record IsGenuineSoFar (past : List Publication) (r : Running) : Type 0 where
  pub state : IsGenuine (past ++ r.done.published) r.state
  pub answers : All (IsGenuineAnswer (past ++ r.done.published)) r.answers
  pub sends : All (λ o. BytesSayPublished (past ++ r.done.published) o.bytes) r.done.sends

-- so it is, or two texts that were published collide
abbrev pub IsGenuineOrCollides : List Publication → Running → Type 0
IsGenuineOrCollides past r = (IsHashed r.state × IsGenuineSoFar past r) ⊎ TextsCollide (past ++ r.done.published)
