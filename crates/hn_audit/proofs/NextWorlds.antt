-- A world to which an event leads from a replayed one is a replay too.
use Rattle.hn_base.proofs.Names.{List, [], ◌∷◌, ◌++◌, refl, subst}
use Rattle.hn_audit.proofs.Names.{Version, Note, Traced, Parts, WorldHasItsTrace, WorldHasItsVersion, Goes, IsReplayed, Step}
use Rattle.hn_world.specs.Replay.{Replays}
use Rattle.hn_audit.proofs.FrontWorlds.{replayed}

goes_more : (ts : List Traced) (a b c : Parts) (t : Traced) (notes : List Note) → Goes a ts b → Step t notes b c → Goes a (ts ++ t ∷ []) c
goes_more [] a b c t notes is step = (c, (notes, subst (λ (w : Parts). Step t notes w c) is step), refl)
goes_more (u ∷ ts) a b c t notes goes step = (goes.0, goes.1, goes_more ts goes.0 b c t notes goes.2 step)

leads_on : (version : Version) (ts : List Traced) (b c : Parts) (t : Traced) (notes : List Note) → Replays version ts b → Step t notes b c → Replays version (ts ++ t ∷ []) c
unfolding Replays
leads_on version ts b c t notes goes step = goes_more ts _ b c t notes goes step

-- the laws of worlds on which it rests
pub record NextLaws : Type 0 where
  pub traces : WorldHasItsTrace
  pub versions : WorldHasItsVersion

pub replays_more : NextLaws → (t : Traced) (notes : List Note) (before after : Parts) → IsReplayed before → Step t notes before after → IsReplayed after
replays_more laws t notes before after replays step =
    replayed laws.traces laws.versions before.version (before.trace ++ t ∷ []) after (leads_on before.version before.trace before after t notes replays step)
