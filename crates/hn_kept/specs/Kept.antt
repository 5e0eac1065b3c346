-- A router with what its last event came to, what it advertised, its random words, and what is preferred.
use Rattle.std.specs.Prelude.{◌≡◌, ℕ, ◌-◌, ◌/◌, ◌≤◌, List, [], length}
use Rattle.rand_chacha.specs.ChaCha.{ChaCha, of_seed}
use Rattle.hn_base.specs.declared.ids.EpId.{EpId}
use Rattle.hn_base.specs.declared.ids.NodeId.{NodeId}
use Rattle.hn_advert.specs.declared.advert.Advert.{Advert}
use Rattle.hn_advert.specs.Advert.{advert_bytes}
use Rattle.hn_pair.specs.Pair.{IsAscending}
use Rattle.hn_departed.specs.declared.departures.Told.{Told}
use Rattle.hn_departed.specs.Departed.{with_departed, told_after, told_at, with_told}
use Rattle.hn_rules.specs.declared.state.State.{State}
use Rattle.hn_rules.specs.declared.done.Done.{Done}
use Rattle.hn_rules.specs.Done.{nothing}
use Rattle.hn_router.specs.Act.{PlainEvent, Tick, Happened}
use Rattle.hn_router.specs.New.{IsNew}
use Rattle.hn_router.specs.Advertising.{IsAdvertAt}
use Rattle.hn_kept.specs.declared.preferred.Preferred.{Preferred}
use Rattle.hn_kept.specs.Preferred.{preferred_pair}
use Rattle.hn_kept.specs.Words.{chacha_after, AreDrawn}
use Rattle.hn_kept.specs.Choosing.{PlainAsked, AreBest}

pub record Kept : Type 0 where
  pub router : State
  pub done : Done
  pub told : List (EpId × Told)
  pub words : ChaCha
  pub preferred : List Preferred

-- A router as it begins: it may hold 256 other nodes, nothing has happened to it, its random words are those of a seed, and
-- nothing is preferred.
pub record IsNewKept (id : NodeId) (now : ℕ) (seed : List ℕ) (k : Kept) : Type 0 where
  pub router : IsNew id 256 now k.router
  pub undone : k.done ≡ nothing
  pub untold : k.told ≡ []
  pub words : k.words ≡ of_seed seed
  pub unpreferred : k.preferred ≡ []

-- an event at a moment, as it is asked what words to take for it
abbrev pub asked_of : ℕ → PlainEvent → Kept → PlainAsked
asked_of now event k = record { moment = now; event = event; router = k.router; words = k.words; preferred = k.preferred }

-- An event happened at a moment, and what it came to is kept. It took the generator's next words, but that a word may be that
-- of the place of a preferred prefix. In a tick each is the best behind those before it. What was advertised and what is preferred
-- stay; that is in the order of pairs, one prefix for a pair.
pub record Acts (now : ℕ) (event : PlainEvent) (before after : Kept) : Type 0 where
  pub happened : Happened now event before.router after.router after.done
  pub drew : AreDrawn before.preferred before.words after.done.words
  pub words : after.words ≡ chacha_after (length after.done.words) before.words
  pub ascends : IsAscending preferred_pair before.preferred
  pub best : event ≡ Tick → AreBest (asked_of now event before) after.done.words
  pub told : after.told ≡ before.told
  pub preferred : after.preferred ≡ before.preferred

-- So many departed prefixes have room behind so many that are to be advertised, beside so many bytes of the caller's options. An
-- advertisement has at most 1,232 bytes: 1,280 (RFC 8200, section 5), less 40 of the IPv6 header, and 8 for an extension
-- header. It has 16 bytes before its options, and 32 for each prefix (RFC 4861, sections 4.2 and 4.6.2).
abbrev pub room_beside : ℕ → ℕ → ℕ
room_beside options count = (1232 - 16 - options) / 32 - count

-- The bytes of an advertisement that is to be sent on an endpoint at the router's moment, beside so many bytes of the caller's
-- options, and what was advertised once it is sent: the advertisement of the router, and after its prefixes, of which there are
-- at most 32, those that are departed there (RFC 9096, section 3.5) as far as there is room.
pub record IsNextAdvert (k : Kept) (at : EpId) (options : ℕ) (bytes : List ℕ) (told : List (EpId × Told)) : Type 0 where
  pub advert : Advert
  pub is_advert : IsAdvertAt k.router at advert
  pub few : length advert.infos ≤ 32
  pub bytes_are : bytes ≡ advert_bytes (record advert { infos = with_departed k.router.moment advert.infos (room_beside options (length advert.infos)) (told_at at k.told) })
  pub told_is : told ≡ with_told k.router.moment at (told_after k.router.moment advert.infos (room_beside options (length advert.infos)) (told_at at k.told)) k.told
