-- The routers of a replayed world.
use Rattle.hn_base.proofs.Names.{◌≡◌, ◌≤◌, ◌⊎◌, ℕ, true, List, [], ◌∷◌, ◌++◌, Option, Some, None, slice_get, inl, inr, refl, sym, subst, arith, option_map_or, ltb-false, All-nil, All-push, All-set}
use Rattle.hn_base.proofs.Names.{All-weaker, All-contains, name_text}
use Rattle.hn_world.proofs.Names.{All, Name, Note, PlainEvent, Arrive, IsEventInRange, IsRouter, State, WEvent, Traced, Version, Member, Parts, table_limit, refusal, link_place, routed, ActsAt}
use Rattle.hn_world.proofs.Names.{DoesElse, DoesAt, FitsAt, IsWorldEventInRange, attached_to, beside, stopped, empty_world, Goes, IsReplayed, IsSoundMember, IsSoundWorld}
use Rattle.hn_base.proofs.PartsAtPlaces.{contains_at}
use Rattle.hn_router.specs.Laws.{NewIsRouter, RouterStays, MomentIsNow}
use Rattle.hn_world.specs.declared.event.WEvent.TheVariants as event
use Rattle.hn_base.specs.declared.version.Version.TheVariants.{One, Two}
use Rattle.hn_world.specs.Replay.{Replays, Always}
use Rattle.hn_world.proofs.Accepted.{accepts}
use Rattle.hn_world.proofs.OneStep.{Any}

-- ---- events one after another

-- a front
goes_front : (before after : Parts) (past future : List Traced) → Goes before (past ++ future) after → (then : Parts) × Goes before past then
goes_front before after [] future h = (before, refl)
goes_front before after (t ∷ past) future h =
    let rest = goes_front h.0 after past future h.2 in
    (rest.0, (h.0, h.1, rest.1))

-- what each event keeps
goes_keeps : (P : Parts → Type 0) → ((t : Traced) (before after : Parts) → Any t before after → P before → P after)
    → (before after : Parts) (ts : List Traced) → Goes before ts after → P before → P after
goes_keeps P keeps before after [] is p = subst P (sym is) p
goes_keeps P keeps before after (t ∷ ts) h p = goes_keeps P keeps h.0 after ts h.2 (keeps t before h.0 h.1 p)

pub replay_keeps : (P : Parts → Type 0) → ((t : Traced) (before after : Parts) → Any t before after → P before → P after)
    → (version : Version) → P (empty_world version) → (ts : List Traced) (w : Parts) → Replays version ts w → P w
unfolding Replays
replay_keeps P keeps version start ts w h = goes_keeps P keeps (empty_world version) w ts h start

replays_front : (version : Version) (past future : List Traced) (w : Parts) → Replays version (past ++ future) w → (then : Parts) × Replays version past then
unfolding Replays
replays_front version past future w h = goes_front (empty_world version) w past future h

-- what holds of each replayed world held at each moment of its past
pub always : (P : Parts → Type 0) → ((version : Version) (ts : List Traced) (w : Parts) → Replays version ts w → P w) → (w : Parts) → IsReplayed w → Always P w
always P holds w h past future parts =
    let then = replays_front w.version past future w (subst (λ (ts : List Traced). Replays w.version ts w) parts h) in
    (then.0, then.1, holds w.version past then.0 then.1)

-- ---- the router at a place

pub all_at : {A : Type 0} (P : A → Type 0) (xs : List A) (i : ℕ) (x : A) → slice_get xs i ≡ Some x → All P xs → P x
all_at P xs i x at all = All-contains P xs x all (contains_at xs i x at)

-- the laws of the router on which it rests
pub record StayLaws : Type 0 where
  pub new : NewIsRouter
  pub stays : RouterStays
  pub moment : MomentIsNow

-- a change that leaves the router
abbrev pub KeepsRouters : (Member → Member) → Type 0
KeepsRouters change = (m : Member) → (change m).router ≡ m.router

sound_changed : (moment : ℕ) (change : Member → Member) → KeepsRouters change → (m : Member) → IsSoundMember moment m → IsSoundMember moment (change m)
sound_changed moment change keeps m is = record {
  router = subst IsRouter (sym (keeps m)) is.router;
  past = subst (λ (s : State). s.moment ≤ moment) (sym (keeps m)) is.past;
}

sound_acts_at : StayLaws → (change : Member → Member) → KeepsRouters change → (place : ℕ) (event : PlainEvent) (words : List ℕ) (notes : List Note) (before after : Parts)
    → IsEventInRange event → ActsAt change place event words notes before after → IsSoundWorld before → IsSoundWorld after
sound_acts_at laws change keeps place event words notes before after ranged h all =
    let here : IsSoundMember before.moment h.member = all_at (IsSoundMember before.moment) before.members place h.member h.is_member all in
    let router : IsRouter h.next = laws.stays before.moment event h.member.router h.next h.done here.router here.past ranged h.happened in
    let moment : h.next.moment ≡ before.moment = laws.moment before.moment event h.member.router h.next h.done h.happened in
    let next : Member = record h.member { router = h.next } in
    subst IsSoundWorld (sym h.gives) (All-set (IsSoundMember before.moment) before.members place (change next)
    (sound_changed before.moment change keeps next (record { router = router; past = omega arith })) all)

-- what an event changes beside a router leaves the router
pub beside_keeps : (event : WEvent) (w : Parts) → KeepsRouters (beside event w)
beside_keeps (event.Attach name endpoint link) w m = by_link (link_place (name_text link) w)
  where
    by_link : (at : Option ℕ) → (option_map_or (λ at. attached_to at endpoint m) at m).router ≡ m.router
    by_link None = refl
    by_link (Some at) = refl
beside_keeps _ w m = refl

-- ---- an event

sound_later : (before : Parts) (moment : ℕ) → before.moment ≤ moment → IsSoundWorld before → All (IsSoundMember moment) before.members
sound_later before moment rises all = All-weaker (IsSoundMember before.moment) (IsSoundMember moment) (λ m is. record { router = is.router; past = omega (arith, is.past) }) before.members all

limit_is_size : (version : Version) → (table_limit version ≡ 256) ⊎ (table_limit version ≡ 1024)
limit_is_size One = inl refl
limit_is_size Two = inr refl

sound_else : StayLaws → (event : WEvent) (words : List ℕ) (notes : List Note) (before after : Parts) → refusal before event ≡ None → IsWorldEventInRange event
    → DoesElse event words notes before after → IsSoundWorld before → IsSoundWorld after
sound_else laws (event.Router name id) words notes before after accepted fits h all =
    let moment : h.router.moment ≡ before.moment = h.is_new.moment_is in
    subst IsSoundWorld (sym h.quietly.gives) (All-push (IsSoundMember before.moment) before.members (record { name = name; running = true; router = h.router; attachments = [] }) all
    (record { router = laws.new id (table_limit before.version) before.moment h.router fits (limit_is_size before.version) h.is_new; past = omega arith }))
sound_else laws (event.Link name) words notes before after accepted fits h all = subst IsSoundWorld (sym h.gives) all
sound_else laws (event.Stop name) words notes before after accepted fits h all =
    let here = all_at (IsSoundMember before.moment) before.members h.place h.member h.is_member all in
    subst IsSoundWorld (sym h.quietly.gives) (All-set (IsSoundMember before.moment) before.members h.place (stopped h.member) (sound_changed before.moment stopped (λ m. refl) h.member here) all)
sound_else laws (event.Time moment) words notes before after accepted fits h all =
    subst IsSoundWorld (sym h.gives) (sound_later before moment (ltb-false moment before.moment (accepts before (event.Time moment) accepted).forward) all)
sound_else laws (event.Deliver copy) words notes before after accepted fits h all =
    let arrival : PlainEvent = Arrive (record { endpoint = h.mail.to.endpoint; from = h.mail.from; multicast = h.mail.multicast }) h.mail.bytes in
    subst IsSoundWorld (sym h.gives) (sound_acts_at laws (λ m. m) (λ m. refl) h.mail.to.place arrival words notes before h.between tt h.acts all)
sound_else laws (event.Drop copy) words notes before after accepted fits h all = subst IsSoundWorld (sym h.quietly.gives) all
sound_else laws _ words notes before after accepted fits h all = absurd h

sound_at : StayLaws → (event : WEvent) (own : Option (Name × PlainEvent)) (words : List ℕ) (notes : List Note) (before after : Parts)
    → refusal before event ≡ None → IsWorldEventInRange event → FitsAt own → DoesAt event own words notes before after → IsSoundWorld before → IsSoundWorld after
sound_at laws event (Some own) words notes before after accepted fits ranged h all =
    sound_acts_at laws (beside event before) (beside_keeps event before) h.place own.1 words notes before after ranged h.acts all
sound_at laws event None words notes before after accepted fits ranged h all = sound_else laws event words notes before after accepted fits h all

pub sound_step : StayLaws → (t : Traced) (before after : Parts) → Any t before after → IsSoundWorld before → IsSoundWorld after
sound_step laws t before after h all = subst IsSoundWorld (sym h.1.gives) (sound_at laws t.event (routed t.event) t.words h.0 before h.1.between h.1.accepted h.1.in_range h.1.fits h.1.does all)

pub sound_replay : StayLaws → (version : Version) (ts : List Traced) (w : Parts) → Replays version ts w → IsSoundWorld w
sound_replay laws version ts w h = replay_keeps IsSoundWorld (sound_step laws) version (All-nil (IsSoundMember 0)) ts w h
