-- What becomes of a delegated prefix that a node has inside an External-Connection (RFC 7788, sections 6.2 and 10.2.1).
use Rattle.std.specs.Prelude.{◌≡◌, ◌≢◌, ◌<◌, ◌≤◌, List, length, All, Contains}
use Rattle.std.specs.declared.cmp.Ordering.TheVariants.{Less}
use Rattle.hn_base.specs.Prefix.{PlainPrefix, IsWithin, prefix_cmp}
use Rattle.hn_data.specs.Said.{HasVersion}
use Rattle.hn_data.specs.View.{PlainView}
use Rattle.hn_data.specs.declared.said.Delegation.{Delegation}
use Rattle.hn_data.specs.declared.view.Entry.{Entry}
use Rattle.hn_deleg.specs.Live.{remaining, IsAnnounced}
use Rattle.hn_deleg.specs.Used.{AreUsable, IsOutermost, prefixes_of}
use Rattle.hn_deleg.specs.declared.delegated.Delegated.{Delegated}
use Rattle.hn_table.specs.declared.fate.Fate.{Fate}
use Rattle.hn_table.specs.declared.fate.Fate.TheVariants.{Used, NoVersion, Ended, Long, Inside, Past, Unreachable}

-- the node announces it, and it has at most 64 bits: so it is a candidate
pub record IsAnnouncedCandidate (view : PlainView) (node : Entry) (d : Delegation) : Type 0 where
  pub announced : IsAnnounced view node d
  pub short : d.prefix.len ≤ 64

-- it is a candidate, and among the prefixes that are used
pub record IsUsed (view : PlainView) (used : List Delegated) (node : Entry) (d : Delegation) : Type 0 where
  pub candidate : IsAnnouncedCandidate view node d
  pub among : Contains (prefixes_of used) d.prefix

-- nothing is left of its valid lifetime
pub record IsEnded (node : Entry) (d : Delegation) : Type 0 where
  pub version : HasVersion node.body
  pub ended : remaining node.age d.valid ≡ 0

-- it is longer than 64 bits
pub record IsLong (node : Entry) (d : Delegation) : Type 0 where
  pub version : HasVersion node.body
  pub live : 0 < remaining node.age d.valid
  pub long : 64 < d.prefix.len

-- it is a candidate, and this other one, the outermost, has it inside
pub record IsInsideOther (view : PlainView) (node : Entry) (d : Delegation) (outer : PlainPrefix) : Type 0 where
  pub candidate : IsAnnouncedCandidate view node d
  pub outermost : IsOutermost view outer
  pub inside : IsWithin d.prefix outer
  pub different : outer ≢ d.prefix

-- it is a candidate inside no other one, and comes after the 32 prefixes that are used
pub record IsPastTheUsed (view : PlainView) (used : List Delegated) (node : Entry) (d : Delegation) : Type 0 where
  pub candidate : IsAnnouncedCandidate view node d
  pub outermost : IsOutermost view d.prefix
  pub not_among : ¬ Contains (prefixes_of used) d.prefix
  pub full : length used ≡ 32
  pub after : All (λ q. prefix_cmp q d.prefix ≡ Less) (prefixes_of used)

-- What becomes of a delegation of a node that the router sees, where these are the prefixes that it uses: it is used, or the
-- first reason why it is not. Of a node with no HNCP-Version nothing is used (RFC 7788, section 10.1).
abbrev pub IsFate : PlainView → List Delegated → Entry → Delegation → Fate → Type 0
IsFate view used node d Used = IsUsed view used node d
IsFate view used node d NoVersion = ¬ HasVersion node.body
IsFate view used node d Ended = IsEnded node d
IsFate view used node d Long = IsLong node d
IsFate view used node d (Inside outer) = IsInsideOther view node d outer
IsFate view used node d Past = IsPastTheUsed view used node d
IsFate view used node d Unreachable = ⊥

-- Nothing has two fates, where these prefixes are the usable ones.
abbrev pub HasOneFate : Type 0
HasOneFate =
    (view : PlainView) (used : List Delegated) (node : Entry) (d : Delegation) (a b : Fate) → AreUsable view used
    → IsFate view used node d a → IsFate view used node d b → a ≡ b
