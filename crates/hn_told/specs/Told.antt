-- What hosts are told on the links of a settled and quiet router, by the bytes of Router Advertisements (RFC 4861, section
-- 4.6.2; RFC 7788, section 7).
use Rattle.std.specs.Prelude.{◌≡◌, ◌≢◌, ℕ, List, Contains}
use Rattle.hn_base.specs.Prefix.{PlainPrefix, IsWithin, Overlaps}
use Rattle.hn_base.specs.declared.ids.EpId.{EpId}
use Rattle.hn_advert.specs.Advert.{IsAdvert}
use Rattle.hn_advert.specs.declared.advert.Advert.{Advert}
use Rattle.hn_advert.specs.declared.advert.Info.{Info}
use Rattle.hn_pair.specs.declared.assigned.Assigned.{Assigned}
use Rattle.hn_router.specs.Advertising.{IsAdvertBytes}
use Rattle.hn_world.specs.declared.member.Member.{Member}
use Rattle.hn_world.specs.declared.parts.Parts.{Parts}
use Rattle.hn_world.specs.Replay.{IsReplayed, Always}
use Rattle.hn_audit.specs.Reached.{IsRunning}
use Rattle.hn_audit.specs.Sound.{Joint, HasAssignment}
use Rattle.hn_plain.specs.Plain.{IsSettled, IsQuiet, IsThere, Uses}

-- the bytes are a Router Advertisement, and one of its prefixes is this
pub record SaysPrefix (bytes : List ℕ) (p : PlainPrefix) : Type 0 where
  pub advert : Advert
  pub is_read : IsAdvert bytes advert
  pub info : Info
  pub among : Contains advert.infos info
  pub prefix : info.prefix ≡ p

-- on a link of the set of r a host is told the prefix, by the bytes that a router of the set advertises there
pub record IsTold (w : Parts) (r : Member) (place : ℕ) (p : PlainPrefix) : Type 0 where
  pub router : Member
  pub endpoint : EpId
  pub there : IsThere w r (Joint place) router endpoint
  pub bytes : List ℕ
  pub advertised : IsAdvertBytes router.router endpoint bytes
  pub says : SaysPrefix bytes p

-- a prefix that is told is inside a used delegated prefix, for which each router on the link holds it
pub record IsToldHeld (w : Parts) (r : Member) (place : ℕ) (p : PlainPrefix) : Type 0 where
  pub delegated : PlainPrefix
  pub used : Uses r.router delegated
  pub inside : IsWithin p delegated
  pub held : (s : Member) (e : EpId) → IsThere w r (Joint place) s e → (c : Assigned) × HasAssignment s.router e delegated c × (c.prefix ≡ p)

pub record AreToldApart (w : Parts) (r : Member) : Type 0 where
  -- on different links no two prefixes overlap
  pub apart : (place other : ℕ) (p q : PlainPrefix) → IsTold w r place p → IsTold w r other q → place ≢ other → ¬ Overlaps p q
  -- on one link two prefixes that overlap are one
  pub alike : (place : ℕ) (p q : PlainPrefix) → IsTold w r place p → IsTold w r place q → Overlaps p q → p ≡ q
  -- and each router on the link holds it
  pub held : (place : ℕ) (p : PlainPrefix) → IsTold w r place p → IsToldHeld w r place p

-- so hosts are told on the links of each running router that is settled and quiet
abbrev pub HostsAreToldApart : Parts → Type 0
HostsAreToldApart w = (r : Member) → IsRunning w r → IsSettled w r → IsQuiet w r → AreToldApart w r

-- So it is at each moment of a replayed world's past.
abbrev pub AlwaysToldApart : Type 0
AlwaysToldApart = (w : Parts) → IsReplayed w → Always HostsAreToldApart w
