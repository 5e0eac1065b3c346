-- Whether a router announces a ULA prefix of its own making (RFC 4193; RFC 7788, section 6.5), withdraws one, or does
-- neither. Which of these it does is this project's own rule.
use Rattle.std.specs.Prelude.{◌≡◌, ◌≢◌, ◌⊎◌, ℕ, ◌+◌, ◌*◌, ◌%◌, ◌^◌, ◌<◌, ◌≤◌, List, [], ◌∷◌, Contains}
use Rattle.std.specs.declared.cmp.Ordering.TheVariants.{Less}
use Rattle.hn_base.specs.Causes.{LineElse}
use Rattle.hn_base.specs.Prefix.{PlainPrefix, IsWithin, prefix_cmp}
use Rattle.hn_base.specs.declared.ids.NodeId.{NodeId}
use Rattle.hn_data.specs.Delegations.{HasDelegation}
use Rattle.hn_data.specs.Said.{HasVersion}
use Rattle.hn_data.specs.View.{PlainView}
use Rattle.hn_data.specs.declared.said.Delegation.{Delegation}
use Rattle.hn_data.specs.declared.view.Entry.{Entry}
use Rattle.hn_deleg.specs.Used.{AreUsable}
use Rattle.hn_deleg.specs.declared.delegated.Delegated.{Delegated}
use Rattle.hn_rules.specs.Seen.{seen_by}
use Rattle.hn_rules.specs.declared.state.State.{State}
use Rattle.hn_ula.specs.declared.decision.Ula.{Ula}
use Rattle.hn_ula.specs.declared.decision.Ula.TheVariants.{Keep, Announce, Withdraw}

-- ---- prefixes

-- fd00::/8, the prefixes whose Global ID is locally assigned (RFC 4193, section 3.1)
abbrev pub local_block : PlainPrefix
local_block = record { bits = 0xfd * 2 ^ 120; len = 8 }

-- inside fd00::/8
abbrev pub IsLocal : PlainPrefix → Type 0
IsLocal p = IsWithin p local_block

-- A node has a generated prefix: it is reachable, has an HNCP-Version, and says a delegated prefix that is a /48 inside
-- fd00::/8, whatever its lifetimes are.
pub record IsGenerated (view : PlainView) (node : ℕ) (p : PlainPrefix) : Type 0 where
  pub entry : Entry
  pub reachable : Contains view.nodes entry
  pub is_it : entry.id.0 ≡ node
  pub version : HasVersion entry.body
  pub delegation : Delegation
  pub says : HasDelegation entry.body delegation
  pub prefix_is : delegation.prefix ≡ p
  pub long : p.len ≡ 48
  pub local : IsLocal p

-- a usable delegated prefix that is not inside fd00::/8 is still preferred
pub record IsForeign (view : PlainView) : Type 0 where
  pub usable : List Delegated
  pub are_usable : AreUsable view usable
  pub one : Delegated
  pub used : Contains usable one
  pub outside : ¬ IsLocal one.prefix
  pub preferred : 0 < one.preferred

-- the router has that generated prefix
abbrev pub IsOwnOf : State → PlainPrefix → Type 0
IsOwnOf s p = IsGenerated (seen_by s) s.id.0 p

-- and has no greater one
pub record IsGreatestOwn (s : State) (p : PlainPrefix) : Type 0 where
  pub own : IsOwnOf s p
  pub greatest : (q : PlainPrefix) → IsOwnOf s q → prefix_cmp p q ≢ Less

-- ---- the lines of the rule

-- The router has one, and there is a foreign prefix, or a node with a greater identifier has one.
pub record MustGo (s : State) : Type 0 where
  pub one : PlainPrefix
  pub has : IsOwnOf s one
  pub because : IsForeign (seen_by s) ⊎ ((node : ℕ) × (p : PlainPrefix) × (s.id.0 < node) × IsGenerated (seen_by s) node p)

-- The router has two different ones.
abbrev pub HasTwo : State → Type 0
HasTwo s = (p q : PlainPrefix) × IsOwnOf s p × IsOwnOf s q × (p ≢ q)

-- Nobody has one, there is no foreign prefix, and no reachable node has a greater identifier.
pub record IsToAnnounce (s : State) : Type 0 where
  pub none : (node : ℕ) (p : PlainPrefix) → ¬ IsGenerated (seen_by s) node p
  pub no_better : ¬ IsForeign (seen_by s)
  pub greatest : (id : NodeId) → Contains s.reach id → id.0 ≤ s.id.0

-- ---- what the router does

-- the prefix that is made of two words: fd, and a Global ID of the four bytes of the first and the lowest of the second
abbrev pub made_of : ℕ → ℕ → PlainPrefix
made_of first second = record { bits = 0xfd * 2 ^ 120 + first * 2 ^ 88 + second % 256 * 2 ^ 80; len = 48 }

-- it withdraws its greatest one, and takes no word
abbrev pub Withdraws : State → Ula → List ℕ → Type 0
Withdraws s ula words = (p : PlainPrefix) × IsGreatestOwn s p × (ula ≡ Withdraw p) × (words ≡ [])

-- it announces one that it makes of two words
abbrev pub Announces : Ula → List ℕ → Type 0
Announces ula words = (first second : ℕ) × (words ≡ first ∷ second ∷ []) × (ula ≡ Announce (made_of first second))

-- The first line whose condition holds decides.
abbrev pub Decides : State → Ula → List ℕ → Type 0
Decides s ula words =
    LineElse (MustGo s) (Withdraws s ula words)
    (LineElse (HasTwo s) (Withdraws s ula words)
    (LineElse (IsToAnnounce s) (Announces ula words) ((ula ≡ Keep) × (words ≡ []))))

-- none of these conditions holds
abbrev pub IsUlaStill : State → Type 0
IsUlaStill s = (¬ MustGo s) × (¬ HasTwo s) × (¬ IsToAnnounce s)
