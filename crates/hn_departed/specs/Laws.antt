-- Laws of departed prefixes.
use Rattle.std.specs.Prelude.{◌≡◌, ◌≢◌, ◌⊎◌, ℕ, ◌+◌, ◌*◌, ◌<◌, ◌≤◌, ◌&&◌, nat_lt, false, List, [], ◌∷◌, length, is_some, is_none, IsTrue, All, Contains}
use Rattle.std.specs.List.{filter}
use Rattle.hn_base.specs.Prefix.{PlainPrefix}
use Rattle.hn_base.specs.declared.ids.EpId.{EpId}
use Rattle.hn_advert.specs.declared.advert.Info.{Info}
use Rattle.hn_departed.specs.declared.departures.Told.{Told}
use Rattle.hn_departed.specs.Departed.{since, is_prefix_among, is_departed, departed, kept, with_departed, told_after, told_at, with_told}

-- ---- turns

-- at a moment an advertisement is sent that is to have these prefixes, and has room for so many departed ones
pub record Turn : Type 0 where
  pub now : ℕ
  pub infos : List Info
  pub room : ℕ

-- the prefixes of each of these advertisements
abbrev pub sent_in : List Turn → List Told → List (List Info)
sent_in [] told = []
sent_in (turn ∷ turns) told = with_departed turn.now turn.infos turn.room told ∷ sent_in turns (told_after turn.now turn.infos turn.room told)

-- what was advertised last and departs at a turn
abbrev pub departing : ℕ → List Info → List Told → List Told
departing now infos told = filter (λ t. is_none t.departed && is_departed now infos t) told

-- nothing departs in these advertisements
abbrev pub NothingDeparts : List Turn → List Told → Type 0
NothingDeparts [] told = Unit {0}
NothingDeparts (turn ∷ turns) told = (departing turn.now turn.infos told ≡ []) × NothingDeparts turns (told_after turn.now turn.infos turn.room told)

-- a prefix is told, without being preferred
pub record IsDeprecatedIn (prefix : PlainPrefix) (sent : List Info) : Type 0 where
  pub told : Info
  pub there : Contains sent told
  pub prefix_is : told.prefix ≡ prefix
  pub preferred : told.preferred ≡ 0

-- An advertisement is sent, and leaves a departed prefix to be told. If nothing departs in the next 11 advertisements, and each
-- of them has room for 6 departed prefixes, then one of them tells it, without being preferred. This holds where its
-- valid lifetime does not end before, and none of them is to have it.
abbrev pub DepartedAreTold : Type 0
DepartedAreTold =
    (now : ℕ) (infos : List Info) (room : ℕ) (earlier : List Told) (told : Told) (turns : List Turn)
    → Contains (told_after now infos room earlier) told → IsTrue (is_some told.departed)
    → length turns ≡ 11 → All (λ turn. 6 ≤ turn.room) turns → NothingDeparts turns (told_after now infos room earlier)
    → All (λ turn. (turn.now < told.until) × (is_prefix_among told.prefix turn.infos ≡ false)) turns
    → (sent : List Info) × Contains (sent_in turns (told_after now infos room earlier)) sent × IsDeprecatedIn told.prefix sent

-- ---- how many, and how long

-- An advertisement has no more departed prefixes than there is room for, and at most 64 are kept.
pub record FewAreKept : Type 0 where
  pub told : (now : ℕ) (infos : List Info) (room : ℕ) (told : List Told) → length (with_departed now infos room told) ≤ length infos + room
  pub kept : (now : ℕ) (infos : List Info) (room : ℕ) (told : List Told) → length (told_after now infos room told) ≤ length infos + 64

-- What goes has departed before all that is kept, or with it.
abbrev pub FirstGo : Type 0
FirstGo = (now : ℕ) (infos : List Info) (told : List Told) (gone stays : Told)
    → Contains (departed now infos told) gone → Contains (kept (departed now infos told)) stays
    → Contains (kept (departed now infos told)) gone ⊎ (since gone ≤ since stays)

-- what has departed is told for at most 7,200 s from then on
abbrev pub EndsSoon : Told → Type 0
EndsSoon told = IsTrue (is_some told.departed) → told.until ≤ since told + 7200 * 1000

-- An advertisement keeps that so.
abbrev pub DepartedEndSoon : Type 0
DepartedEndSoon = (now : ℕ) (infos : List Info) (room : ℕ) (told : List Told) → All EndsSoon told → All EndsSoon (told_after now infos room told)

-- ---- endpoints

-- What is told on an endpoint is what was told there last. On the others it stays until it ends.
abbrev pub EndpointsKeepTheirs : Type 0
EndpointsKeepTheirs =
    (now : ℕ) (at : EpId) (here : List Told) (told : List (EpId × Told))
    → (told_at at (with_told now at here told) ≡ here)
    × ((other : EpId) → other ≢ at → told_at other (with_told now at here told) ≡ filter (λ t. nat_lt now t.until) (told_at other told))
