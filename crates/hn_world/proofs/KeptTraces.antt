-- A world is the replay of its trace, and what it keeps for reading is this trace.
use Rattle.hn_base.proofs.Names.{◌≡◌, List, [], ◌∷◌, ◌++◌, sym, subst}
use Rattle.hn_world.proofs.Names.{Note, Traced, Version, Parts, Step, empty_world, IsReplayed}
use Rattle.hn_world.specs.declared.kept.KeptTrace.{KeptTrace}
use Rattle.hn_world.specs.SeenWorld.{KeepsTrace}
use Rattle.hn_world.proofs.OneMoreEvent.{replays_none, replays_more}

-- a world in which nothing happened so far
pub kept_none : (version : Version) (w : Parts) (kept : KeptTrace) → w ≡ empty_world version → KeepsTrace kept [] → IsReplayed w × KeepsTrace kept w.trace
kept_none version w kept is none = subst (λ (v : Parts). IsReplayed v × KeepsTrace kept v.trace) (sym is) (replays_none version, none)

-- one more event
pub kept_more : (t entry : Traced) (notes : List Note) (before after : Parts) (kept : KeptTrace) → IsReplayed before → Step t notes before after
    → after.trace ≡ before.trace ++ entry ∷ [] → KeepsTrace kept (before.trace ++ entry ∷ []) → IsReplayed after × KeepsTrace kept after.trace
kept_more t entry notes before after kept replays step entered more =
    (replays_more t notes before after replays step, subst (λ (ts : List Traced). KeepsTrace kept ts) (sym entered) more)
