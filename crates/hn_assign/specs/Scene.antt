-- What a pair is judged by.
use Rattle.std.specs.Prelude.{ℕ, List, map, Option, false}
use Rattle.hn_data.specs.View.{PlainView}
use Rattle.hn_base.specs.Prefix.{PlainPrefix}
use Rattle.hn_prefix.specs.Free.{IsFirstFree}
use Rattle.hn_assign.specs.declared.advertised.Advertised.{Advertised}
use Rattle.hn_pair.specs.declared.assigned.Assigned.{Assigned}
use Rattle.hn_pair.specs.declared.assigned.Wish.{Wish}
use Rattle.hn_assign.specs.declared.scene.Scene.{Scene}
use Rattle.hn_assign.specs.Best.{IsBestIfAny, IsValid, IsFreeIn, HasNoFree}

-- the router and the moment, the wish for the pair, and the advertised prefixes
pub record PlainScene : Type 0 where
  pub own : ℕ
  pub now : ℕ
  pub wish : Wish
  pub advertised : List Advertised

abbrev pub plain_scene : Scene → PlainScene
plain_scene scene = record { own = scene.own.0; now = scene.now; wish = scene.wish.now; advertised = scene.known.now }

abbrev pub scene_of : PlainView → Wish → List Advertised → PlainScene
scene_of view wish advertised = record { own = view.own; now = view.now; wish = wish; advertised = advertised }

-- the best prefix for the pair, if there is one
abbrev pub IsBestFor : PlainScene → Option Advertised → Type 0
IsBestFor at best = IsBestIfAny at.advertised at.own at.wish.common at.wish.delegated best

-- a valid assignment of the pair
abbrev pub IsValidFor : PlainScene → Assigned → Type 0
IsValidFor at c = IsValid at.advertised at.own at.wish.common c

-- a free prefix for the pair; nothing is free; the first free one in cyclic order from a place
abbrev pub IsFreeFor : PlainScene → PlainPrefix → Type 0
IsFreeFor at p = IsFreeIn at.advertised at.wish.delegated at.wish.length p

abbrev pub HasNoFreeFor : PlainScene → Type 0
HasNoFreeFor at = HasNoFree at.advertised at.wish.delegated at.wish.length

abbrev pub IsFirstFreeFor : PlainScene → ℕ → PlainPrefix → Type 0
IsFirstFreeFor at start p = IsFirstFree at.wish.delegated start (map (λ a. a.prefix) at.advertised) at.wish.length p

-- an assignment of the pair: with this prefix, from now on, and not applied yet
abbrev pub new_assigned : PlainScene → PlainPrefix → Option ℕ → Assigned
new_assigned at prefix published =
    record {
      delegated = at.wish.delegated;
      endpoint = at.wish.endpoint;
      prefix = prefix;
      published = published;
      since = at.now;
      applied = false;
    }
