-- A calm home, and the first premise that is missing.
use Rattle.std.specs.Prelude.{◌≡◌, ◌↔◌, ℕ, ◌-◌, ◌<◌, suc, true, IsTrue, List, Option, None, Some, All, Contains}
use Rattle.std.specs.List.{slice_get}
use Rattle.hn_base.specs.declared.ids.NodeId.{NodeId}
use Rattle.hn_audit.specs.First.{IsFirstFound, OrElse}
use Rattle.hn_audit.specs.Heard.{IsCalmSince}
use Rattle.hn_audit.specs.Lasting.{IsLastingHome}
use Rattle.hn_audit.specs.Reached.{IsRunning, IsReached}
use Rattle.hn_rules.specs.Lasting.{IsLastingUntil}
use Rattle.hn_world.specs.declared.copies.MailCopy.{MailCopy}
use Rattle.hn_world.specs.declared.member.Member.{Member}
use Rattle.hn_world.specs.declared.parts.Parts.{Parts}
use Rattle.hn_world.specs.Waiting.{first_waiting}
use Rattle.hn_calm.specs.Peers.{FindsMissing}
use Rattle.hn_calm.specs.declared.uncalm.Uncalm.{Uncalm}
use Rattle.hn_calm.specs.declared.uncalm.Uncalm.TheVariants as missing

-- The home of r is calm: r is calm since less than 20 s ago, and no copy waits. Until each moment before `end`, its own among
-- them, and until no other, the home lasts: nothing ends that its routers keep or see, and all running routers are of its set.
pub record IsCalmBefore (end : ℕ) (w : Parts) (r : Member) : Type 0 where
  pub calm : IsCalmSince (w.moment - 19999) w r
  pub none_waits : (k : ℕ) (mail : MailCopy) → slice_get w.copies k ≡ Some mail → mail.waiting ≡ true → ⊥
  pub lasts : (until : ℕ) → (until < end) ↔ IsLastingHome until w r
  pub later : w.moment < end

-- ---- the first premise that is missing

-- each running router is of the set of r
abbrev pub AreReached : Parts → Member → Type 0
AreReached w r = (x : Member) → IsRunning w x → IsReached w r x

-- a router runs, and has none of these identifiers
abbrev pub FindsApart : List NodeId → Member → Option Uncalm → Type 0
FindsApart reach m None = IsTrue m.running → Contains reach m.router.id
FindsApart reach m (Some u) = IsTrue m.running × ¬ Contains reach m.router.id × (u ≡ missing.Apart m.name)

-- a copy waits, the first that does
abbrev pub FindsWaiting : List MailCopy → Option Uncalm → Type 0
FindsWaiting copies None = first_waiting copies ≡ None
FindsWaiting copies (Some u) = (place : ℕ) × (first_waiting copies ≡ Some place) × (u ≡ missing.Waits (suc place))

-- something has ended at a moment that a running router keeps or sees
abbrev pub FindsEnded : ℕ → Member → Option Uncalm → Type 0
FindsEnded now m None = IsTrue m.running → IsLastingUntil now m.router
FindsEnded now m (Some u) = IsTrue m.running × ¬ IsLastingUntil now m.router × (u ≡ missing.Ended m.name)

-- the first premise that is missing, in this order; none, where the home of r, which is settled and quiet, is calm
abbrev pub FindsUncalm : Parts → Member → Option Uncalm → Type 0
FindsUncalm w r =
    OrElse (IsFirstFound (FindsApart r.router.reach) w.members)
    (OrElse (FindsWaiting w.copies) (OrElse (FindsMissing w r) (IsFirstFound (FindsEnded w.moment) w.members)))

-- until each moment before `end`, and until no other, nothing ends that running routers keep or see, nor what r does
abbrev pub LastBefore : Member → List Member → ℕ → Type 0
LastBefore r members end = (until : ℕ) → (until < end) ↔ (IsLastingUntil until r.router × All (λ m. IsTrue m.running → IsLastingUntil until m.router) members)
