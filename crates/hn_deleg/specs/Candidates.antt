-- Usable prefixes by what is announced.
use Rattle.std.specs.Prelude.{◌≡◌, ◌↔◌, ◌<◌, List, Contains}
use Rattle.hn_base.specs.Prefix.{PlainPrefix}
use Rattle.hn_data.specs.Later.{IsLater}
use Rattle.hn_data.specs.View.{PlainView}
use Rattle.hn_data.specs.declared.said.Delegation.{Delegation}
use Rattle.hn_data.specs.declared.view.Entry.{Entry}
use Rattle.hn_deleg.specs.declared.delegated.Delegated.{Delegated}
use Rattle.hn_deleg.specs.Live.{remaining, IsAnnounced, IsAnnouncedPrefix}
use Rattle.hn_deleg.specs.Used.{AreUsable, prefixes_of}

-- an announcement of the prefix whose preferred lifetime has not ended
pub record IsPreferred (view : PlainView) (p : PlainPrefix) : Type 0 where
  pub node : Entry
  pub delegation : Delegation
  pub announced : IsAnnounced view node delegation
  pub is_it : delegation.prefix ≡ p
  pub left : 0 < remaining node.age delegation.preferred

-- Views with the same candidates have the same usable prefixes.
abbrev pub SameCandidatesSameUsed : Type 0
SameCandidatesSameUsed =
    (view other : PlainView) (a b : List Delegated) → ((p : PlainPrefix) → IsAnnouncedPrefix view p ↔ IsAnnouncedPrefix other p)
    → AreUsable view a → AreUsable other b → prefixes_of a ≡ prefixes_of b

-- The preferred lifetime of a usable prefix has not ended if and only if that of one of its announcements has not.
abbrev pub PreferredIsAnnounced : Type 0
PreferredIsAnnounced =
    (view : PlainView) (list : List Delegated) (u : Delegated) → AreUsable view list → Contains list u
    → (0 < u.preferred) ↔ IsPreferred view u.prefix

-- One that has not ended later has not ended before.
abbrev pub PreferredWasSo : Type 0
PreferredWasSo = (before after : PlainView) (p : PlainPrefix) → IsLater before after → IsPreferred after p → IsPreferred before p
