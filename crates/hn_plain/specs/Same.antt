-- The plain definitions say what those say on which the code stands: of bytes, of routers, of homes.
use Rattle.std.specs.Prelude.{◌↔◌, ℕ, List, Contains}
use Rattle.hn_base.specs.Prefix.{PlainPrefix}
use Rattle.hn_base.specs.declared.ids.EpId.{EpId}
use Rattle.hn_base.specs.declared.ids.NodeId.{NodeId}
use Rattle.hn_typed.specs.Item.{PlainItem}
use Rattle.hn_typed.specs.Table.{HasOtherKind}
use Rattle.hn_data.specs.Items.{HasItems}
use Rattle.hn_link.specs.CommonLink.{IsOnCommonLink}
use Rattle.hn_assign.specs.declared.advertised.Advertised.{Advertised}
use Rattle.hn_assign.specs.Gathered.{IsAdvertised}
use Rattle.hn_rules.specs.declared.state.State.{State}
use Rattle.hn_rules.specs.Router.{IsRouter}
use Rattle.hn_rules.specs.Seen.{seen_by}
use Rattle.hn_world.specs.declared.member.Member.{Member}
use Rattle.hn_world.specs.declared.parts.Parts.{Parts}
use Rattle.hn_world.specs.Replay.{IsReplayed, Always}
use Rattle.hn_audit.specs.Reached.{IsRunning}
use Rattle.hn_audit.specs.Settled.{IsSettledByRules}
use Rattle.hn_audit.specs.Quiet.{IsRouterAtRest, IsQuietByRules}
use Rattle.hn_audit.specs.Sound.{UsesByRules, DoesNotWantByRules, SeesNoFreeByRules, IsSoundByRules}
use Rattle.hn_plain.specs.Plain as plain

-- What node data say are their items, of each kind with a row of the table.
abbrev pub SaysItsItems : Type 0
SaysItsItems =
    (bytes : List ℕ) (item : PlainItem) → HasOtherKind item
    → plain.SaysItem bytes item ↔ HasItems bytes (λ items. Contains items item)

-- A router uses the same delegated prefixes, and wants the same of these.
abbrev pub UsesTheSame : Type 0
UsesTheSame = (s : State) (d : PlainPrefix) → plain.Uses s d ↔ UsesByRules s d

abbrev pub WantsTheSame : Type 0
WantsTheSame = (s : State) (d : PlainPrefix) → plain.DoesNotWant s d ↔ DoesNotWantByRules s d

-- The same prefixes are advertised, and nothing is free in the same ones.
abbrev pub AdvertisesTheSame : Type 0
AdvertisesTheSame = (s : State) (a : Advertised) → plain.SeesAdvertised s a ↔ IsAdvertised (seen_by s) s.held.assigned a

abbrev pub SeesTheSameFree : Type 0
SeesTheSameFree = (s : State) (e : EpId) (d : PlainPrefix) → IsRouter s → plain.SeesNoFree s e d ↔ SeesNoFreeByRules s e d

-- The same endpoints are on a Common Link of a router.
abbrev pub LinksTheSame : Type 0
LinksTheSame = (s : State) (e : EpId) (y : NodeId) (f : EpId) → IsRouter s → plain.IsOnCommon s e y f ↔ IsOnCommonLink (seen_by s) e.0 (y, f)

-- The same routers are at rest.
abbrev pub RestsAlike : Type 0
RestsAlike = (s : State) → IsRouter s → plain.Rests s ↔ IsRouterAtRest s

-- In a replayed world the same running routers are settled, and the same are quiet.
abbrev pub SettledAlike : Type 0
SettledAlike = (w : Parts) (r : Member) → IsReplayed w → IsRunning w r → plain.IsSettled w r ↔ IsSettledByRules w r

abbrev pub QuietAlike : Type 0
QuietAlike = (w : Parts) (r : Member) → IsReplayed w → plain.IsQuiet w r ↔ IsQuietByRules w r

-- A settled one is sound if and only if it is plainly so.
abbrev pub SoundAlike : Type 0
SoundAlike = (w : Parts) (r : Member) → IsReplayed w → IsRunning w r → IsSettledByRules w r → plain.IsSound w r ↔ IsSoundByRules w r

-- At each moment of a replayed world's past each running router that is plainly settled and quiet is plainly sound.
abbrev pub AlwaysPlainlySound : Type 0
AlwaysPlainlySound = (w : Parts) → IsReplayed w → Always plain.SettledAreSound w
