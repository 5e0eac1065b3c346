-- A world is the replay of its trace.
use Rattle.std.specs.Prelude.{◌≡◌, ◌≢◌, ◌<◌, ◌≤◌, ◌↔◌, ℕ, List, [], ◌∷◌, ◌++◌, map, All, Contains}
use Rattle.std.specs.List.{flat_map, AllPairs}
use Rattle.hn_base.specs.declared.ids.EpId.{EpId}
use Rattle.hn_rules.specs.declared.done.Note.{Note}
use Rattle.hn_own.specs.Ports.{endpoints_of}
use Rattle.hn_rules.specs.Router.{IsRouter}
use Rattle.hn_world.specs.declared.event.Traced.{Traced}
use Rattle.hn_world.specs.declared.event.WEvent.{WEvent}
use Rattle.hn_base.specs.declared.version.Version.{Version}
use Rattle.hn_world.specs.declared.member.Member.{Member}
use Rattle.hn_world.specs.declared.parts.Parts.{Parts}
use Rattle.hn_world.specs.Step.{Step}

-- a world of a version, before anything happens
abbrev pub empty_world : Version → Parts
empty_world version = record { version = version; moment = 0; links = []; members = []; copies = []; published = []; trace = [] }

-- events one after another, whatever was noted
abbrev pub Goes : Parts → List Traced → Parts → Type 0
Goes before [] after = after ≡ before
Goes before (t ∷ ts) after = (between : Parts) × ((notes : List Note) × Step t notes before between) × Goes between ts after

-- a trace leads from the empty world of a version to this one
unfoldable pub Replays : Version → List Traced → Parts → Type 0
Replays version ts w = Goes (empty_world version) ts w

-- it is the replay of its own trace
abbrev pub IsReplayed : Parts → Type 0
IsReplayed w = Replays w.version w.trace w

-- the words that a trace took
abbrev pub words_of_trace : List Traced → List ℕ
words_of_trace ts = flat_map (λ t. t.words) ts

-- each front of the trace leads to a world, and this held there
abbrev pub Always : (Parts → Type 0) → Parts → Type 0
Always P w = (past future : List Traced) → w.trace ≡ past ++ future → (then : Parts) × Replays w.version past then × P then

-- each event of the trace led from a world of the past to the next one, and this held of the event and the two
abbrev pub Throughout : (WEvent → Parts → Parts → Type 0) → Parts → Type 0
Throughout P w =
    (past future : List Traced) (t : Traced) → w.trace ≡ past ++ t ∷ future
    → (before : Parts) × (after : Parts) × Replays w.version past before × Replays w.version (past ++ t ∷ []) after × P t.event before after

-- it was a step
pub record Stepped (event : WEvent) (before after : Parts) : Type 0 where
  pub words : List ℕ
  pub notes : List Note
  pub step : Step (record { event = event; words = words }) notes before after

-- a router of a world is one, and its last event is not after the world's moment
pub record IsSoundMember (moment : ℕ) (m : Member) : Type 0 where
  pub router : IsRouter m.router
  pub past : m.router.moment ≤ moment

abbrev pub IsSoundWorld : Parts → Type 0
IsSoundWorld w = All (IsSoundMember w.moment) w.members

-- A router of a world has the endpoints of its attachments, and no two of its attachments are to one link. Endpoints are
-- numbered from 1.
pub record IsAttachedMember (m : Member) : Type 0 where
  pub endpoints : (e : EpId) → 0 < e.0 → Contains (endpoints_of m.router.ports) e ↔ Contains (map (λ a. a.endpoint) m.attachments) e
  pub apart : AllPairs (λ a b. a.link ≢ b.link) m.attachments

abbrev pub AreAttached : Parts → Type 0
AreAttached w = All IsAttachedMember w.members
