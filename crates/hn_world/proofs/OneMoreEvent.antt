-- One more event of a world that is the replay of its trace.
use Rattle.hn_base.proofs.Names.{List, [], ◌∷◌, ◌++◌, refl, sym, subst}
use Rattle.hn_world.proofs.Names.{Note, Traced, Version, Parts, Step, empty_world, Goes, IsReplayed}
use Rattle.hn_world.specs.Replay.{Replays, Throughout, Stepped}
use Rattle.hn_world.proofs.OneStep.{Any, past_of_step}

goes_more : (before between after : Parts) (ts : List Traced) (t : Traced) → Goes before ts between → Any t between after → Goes before (ts ++ t ∷ []) after
goes_more before between after [] t is step = (after, subst (λ (w : Parts). Any t w after) is step, refl)
goes_more before between after (u ∷ ts) t h step = (h.0, h.1, goes_more h.0 between after ts t h.2 step)

pub replays_none : (version : Version) → Replays version [] (empty_world version)
unfolding Replays
replays_none version = refl

pub replays_more : (t : Traced) (notes : List Note) (before after : Parts) → Replays before.version before.trace before → Step t notes before after → Replays after.version after.trace after
unfolding Replays
replays_more t notes before after h step =
    subst (λ (past : Version × List Traced). Goes (empty_world past.0) past.1 after) (sym (past_of_step t before after (notes, step)))
    (goes_more (empty_world before.version) before after before.trace t h (notes, step))

-- ---- each event of a trace

-- the world between a front and the rest
goes_split : (before after : Parts) (past future : List Traced) → Goes before (past ++ future) after → (then : Parts) × Goes before past then × Goes then future after
goes_split before after [] future h = (before, refl, h)
goes_split before after (t ∷ past) future h =
    let rest = goes_split h.0 after past future h.2 in
    (rest.0, (h.0, h.1, rest.1), rest.2)

pub each_step : (w : Parts) → IsReplayed w → Throughout Stepped w
unfolding Replays
each_step w h past future t is =
    let split = goes_split (empty_world w.version) w past (t ∷ future) (subst (λ (ts : List Traced). Goes (empty_world w.version) ts w) is h) in
    let step = split.2.1 in
    (split.0, split.2.0, split.1, goes_more (empty_world w.version) split.0 split.2.0 past t split.1 step, record { words = t.words; notes = step.0; step = step.1 })
