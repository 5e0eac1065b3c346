-- Delegated prefixes that are announced and live (RFC 7788, sections 6.2 and 10.2.1).
use Rattle.std.specs.Prelude.{◌≡◌, ℕ, ◌*◌, ◌-◌, ◌^◌, ◌<◌, ◌≤◌, ◌==◌, if◌then◌else◌, Contains}
use Rattle.hn_base.specs.Prefix.{PlainPrefix}
use Rattle.hn_data.specs.Delegations.{HasDelegation}
use Rattle.hn_data.specs.Said.{HasVersion}
use Rattle.hn_data.specs.declared.said.Delegation.{Delegation}
use Rattle.hn_data.specs.declared.view.Entry.{Entry}
use Rattle.hn_data.specs.View.{PlainView}

-- what remains, in ms, of a lifetime in seconds at this age of the data; one of 4294967295 s never ends
abbrev pub remaining : ℕ → ℕ → ℕ
remaining age seconds = if seconds == 4294967295 then 2 ^ 64 - 1 else 1000 * seconds - age

-- a reachable node with an HNCP-Version announces the delegated prefix, and its valid lifetime has not ended
pub record IsAnnounced (view : PlainView) (node : Entry) (d : Delegation) : Type 0 where
  pub reachable : Contains view.nodes node
  pub version : HasVersion node.body
  pub said : HasDelegation node.body d
  pub live : 0 < remaining node.age d.valid

-- a prefix of at most 64 bits that is announced
pub record IsAnnouncedPrefix (view : PlainView) (p : PlainPrefix) : Type 0 where
  pub short : p.len ≤ 64
  pub node : Entry
  pub delegation : Delegation
  pub announced : IsAnnounced view node delegation
  pub is_it : delegation.prefix ≡ p

-- the greatest of what its announcements leave of a lifetime
pub record IsLongestLeft (view : PlainView) (p : PlainPrefix) (lifetime : Delegation → ℕ) (ms : ℕ) : Type 0 where
  pub node : Entry
  pub delegation : Delegation
  pub announced : IsAnnounced view node delegation
  pub is_it : delegation.prefix ≡ p
  pub this : ms ≡ remaining node.age (lifetime delegation)
  pub none_greater : (other : Entry) (d : Delegation) → IsAnnounced view other d → d.prefix ≡ p → remaining other.age (lifetime d) ≤ ms
