-- Laws of preferred prefixes.
use Rattle.std.specs.Prelude.{◌≡◌, ℕ, ◌≤◌, false, [], ◌∷◌, None, Some, Contains}
use Rattle.hn_base.specs.Ascending.{HasAt}
use Rattle.hn_base.specs.Words.{Took}
use Rattle.hn_base.specs.Prefix.{IsPrefix, IsWithin}
use Rattle.hn_rules.specs.Router.{IsRouter}
use Rattle.hn_router.specs.Act.{PlainEvent, Tick}
use Rattle.hn_pair.specs.declared.assigned.Assigned.{Assigned}
use Rattle.hn_assign.specs.declared.slot.Slot.{Slot}
use Rattle.hn_pair.specs.Pair.{assigned_pair}
use Rattle.hn_assign.specs.Scene.{PlainScene, IsFreeFor, new_assigned}
use Rattle.hn_assign.specs.Unassigned.{IsMade}
use Rattle.hn_kept.specs.declared.preferred.Preferred.{Preferred}
use Rattle.hn_kept.specs.Anew.{IsMadeAnew, scene_in}
use Rattle.hn_kept.specs.Preferred.{preferred_pair, word_of}
use Rattle.hn_kept.specs.Words.{chacha_word}
use Rattle.hn_kept.specs.Kept.{Kept, Acts}

-- With nothing preferred an event takes the generator's next words, and those after them come next.
abbrev pub NothingPreferred : Type 0
NothingPreferred =
    (now : ℕ) (event : PlainEvent) (before after : Kept) → Acts now event before after → before.preferred ≡ []
    → Took (Some (chacha_word before.words)) after.done.words (Some (chacha_word after.words))

-- a preferred prefix is one of the length that the pair of a scene gets, inside its delegated prefix; that has at least 32 bits
pub record IsOfScene (at : PlainScene) (f : Preferred) : Type 0 where
  pub delegated : at.wish.delegated ≡ f.delegated
  pub length : at.wish.length ≡ f.prefix.len
  pub prefix : IsPrefix f.prefix
  pub outer : IsPrefix f.delegated
  pub inside : IsWithin f.prefix f.delegated
  pub long : 32 ≤ f.delegated.len
  pub not_shorter : f.delegated.len ≤ f.prefix.len
  pub short : f.prefix.len ≤ 64

-- Where the rules publish a prefix for a pair anew, take the word of the place of a preferred one, and that is free, they publish
-- that one.
abbrev pub PlaceIsPublished : Type 0
PlaceIsPublished =
    (at : PlainScene) (f : Preferred) (before after : Slot) → IsOfScene at f → IsFreeFor at f.prefix
    → IsMade at before (word_of f ∷ []) after
    → after.assigned ≡ Some (new_assigned at f.prefix (Some 2))

-- ---- what is free is published

-- a tick of a router happens, with a preferred prefix
pub record IsTickOf (now : ℕ) (before after : Kept) (f : Preferred) : Type 0 where
  pub router : IsRouter before.router
  pub not_before : before.router.moment ≤ now
  pub acts : Acts now Tick before after
  pub preferred : Contains before.preferred f

-- from this moment on the pair has its preferred prefix, which is published with priority 2
abbrev pub published_at : ℕ → Preferred → Assigned
published_at now f =
    record {
      delegated = f.delegated;
      endpoint = f.endpoint;
      prefix = f.prefix;
      published = Some 2;
      since = now;
      applied = false;
    }

-- Where a tick makes the assignment of a preferred pair anew, and the preferred prefix is free in the turn of the pair, the pair
-- has it afterwards and publishes it.
abbrev pub FreeIsPublished : Type 0
FreeIsPublished =
    (now : ℕ) (before after : Kept) (f : Preferred) → IsTickOf now before after f
    → (anew : IsMadeAnew now before.router after.done.words f) → IsOfScene (scene_in anew) f → IsFreeFor (scene_in anew) f.prefix
    → Contains after.router.held.assigned (published_at now f)

-- Where a pair has no assignment before a tick, and publishes one after it, the tick made it anew; so it is the preferred prefix
-- if that was free in the turn of the pair.
abbrev pub NewIsPreferred : Type 0
NewIsPreferred =
    (now : ℕ) (before after : Kept) (f : Preferred) (c : Assigned) (priority : ℕ) → IsTickOf now before after f
    → HasAt assigned_pair (preferred_pair f) None before.router.held.assigned
    → Contains after.router.held.assigned c → assigned_pair c ≡ preferred_pair f → c.published ≡ Some priority
    → (anew : IsMadeAnew now before.router after.done.words f)
    × (IsOfScene (scene_in anew) f → IsFreeFor (scene_in anew) f.prefix → c ≡ published_at now f)
