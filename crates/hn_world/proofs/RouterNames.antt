-- The routers of a replayed world have names of their own, and each is found by its name.
use Rattle.hn_base.proofs.Names.{◌≡◌, ◌≢◌, ◌∙◌, ◌<◌, ℕ, zero, suc, true, false, cond, List, [], ◌∷◌, ◌++◌, length, Option, Some, None, get_or, slice_get, slice_set, position, nat_lt, refl, sym, ap}
use Rattle.hn_base.proofs.Names.{subst, arith, position_or_len, option_map_or, bytes_eq, or_parts, not_from_Decides, length-set, all_pairs_push, position_or_len_is, same_Some, slice_get_within}
use Rattle.hn_base.proofs.Names.{get_or_from_slice_get, bytes_eq-Decides, name_text}
use Rattle.hn_world.proofs.Names.{is_some, none_passes, NodeId, Name, Version, Note, PlainEvent, WEvent, Traced, Member, Parts, is_named, router_place, link_place, refusal, Replays, routed, ActsAt}
use Rattle.hn_world.proofs.Names.{DoesElse, DoesAt, attached_to, beside, stopped}
use Rattle.hn_world.specs.declared.event.WEvent.TheVariants as event
use Rattle.hn_world.specs.Names.{NamesDiffer}
use Rattle.hn_world.proofs.Accepted.{accepts}
use Rattle.hn_world.proofs.DoneAsPlanned.{arrival_of}
use Rattle.hn_world.proofs.OneStep.{Any}
use Rattle.hn_world.proofs.SameNames.{not_same}
use Rattle.hn_world.proofs.SoundRouters.{replay_keeps}

-- ---- the place of a router, by its name

-- where names differ, a router of that name is the first one
pub place_is_first : (xs : List Member) (place : ℕ) (m : Member) (name : List ℕ) → NamesDiffer xs → slice_get xs place ≡ Some m → is_named name m ≡ true → Some place ≡ position (is_named name) xs
place_is_first xs place m name differ at named =
    let within : place < length xs = slice_get_within xs place m at in
    let here : get_or xs place m ≡ m = get_or_from_slice_get xs place m m at in
    let first : position_or_len (is_named name) xs ≡ place = position_or_len_is (is_named name) xs place m (omega (arith, within)) before (λ _. ap (is_named name) here ∙ named) in
    rw (first) (test within)
  where
    same : name_text m.name ≡ name
    same = (bytes_eq-Decides (name_text m.name) name).0 named

    before : (k : ℕ) → k < place → is_named name (get_or xs k m) ≡ false
    before k less =
        not_same (name_text (get_or xs k m).name) name
        (λ is. differ k place m less (slice_get_within xs place m at) (is ∙ sym same ∙ ap (λ (x : Member). name_text x.name) (sym (get_or_from_slice_get xs place m m at))))

    test : place < length xs → ◌≡◌ {A = Option ℕ} (Some place) (cond (nat_lt place (length xs)) (Some place) None)
    test within = grind arith

-- ---- what leaves names different

-- a change of a router that leaves its name
name_at : (xs : List Member) (place k : ℕ) (m n d : Member) → slice_get xs place ≡ Some m → n.name ≡ m.name → (get_or (slice_set xs place n) k d).name ≡ (get_or xs k d).name
name_at [] place k m n d at same = absurd cc
name_at (x ∷ xs) zero zero m n d at same = same ∙ ap (λ (y : Member). y.name) (sym (same_Some x m at))
name_at (x ∷ xs) zero (suc k) m n d at same = refl
name_at (x ∷ xs) (suc place) zero m n d at same = refl
name_at (x ∷ xs) (suc place) (suc k) m n d at same = name_at xs place k m n d at same

differ_set : (xs : List Member) (place : ℕ) (m n : Member) → slice_get xs place ≡ Some m → n.name ≡ m.name → NamesDiffer xs → NamesDiffer (slice_set xs place n)
differ_set xs place m n at same differ i j d less within is =
    differ i j d less (subst (λ (len : ℕ). j < len) (length-set xs place n) within)
    (ap name_text (sym (name_at xs place i m n d at same)) ∙ is ∙ ap name_text (name_at xs place j m n d at same))

-- a new router, whose name no other has
differ_push : (xs : List Member) (m : Member) → position (is_named (name_text m.name)) xs ≡ None → NamesDiffer xs → NamesDiffer (xs ++ m ∷ [])
differ_push xs m none differ =
    all_pairs_push (λ (a b : Member). name_text a.name ≢ name_text b.name) xs m differ
    (λ k d within.
    not_from_Decides (bytes_eq (name_text (get_or xs k d).name) (name_text m.name)) (bytes_eq-Decides (name_text (get_or xs k d).name) (name_text m.name))
    (none_passes (is_named (name_text m.name)) xs none k d within))

-- ---- an event

abbrev pub AreNamed : Parts → Type 0
AreNamed w = NamesDiffer w.members

nowhere : (o : Option ℕ) → is_some o ≡ false → o ≡ None
nowhere None fails = refl
nowhere (Some place) fails = absurd cc

-- the name of a new router is free
name_is_free : (w : Parts) (name : Name) (id : NodeId) → refusal w (event.Router name id) ≡ None → router_place (name_text name) w ≡ None
name_is_free w name id accepted =
    let place = router_place (name_text name) w in
    nowhere place (or_parts (is_some place) (is_some (link_place (name_text name) w)) (accepts w (event.Router name id) accepted).free).0

abbrev KeepsName : (Member → Member) → Type 0
KeepsName change = (m : Member) → (change m).name ≡ m.name

-- what an event changes beside a router leaves its name
beside_keeps : (event : WEvent) (w : Parts) → KeepsName (beside event w)
beside_keeps (event.Attach name endpoint link) w m = by_link (link_place (name_text link) w)
  where
    by_link : (at : Option ℕ) → (option_map_or (λ at. attached_to at endpoint m) at m).name ≡ m.name
    by_link None = refl
    by_link (Some at) = refl
beside_keeps _ w m = refl

named_acts_at : (change : Member → Member) → KeepsName change → (place : ℕ) (event : PlainEvent) (words : List ℕ) (notes : List Note) (before after : Parts)
    → ActsAt change place event words notes before after → AreNamed before → AreNamed after
named_acts_at change keeps place event words notes before after h named =
    let next : Member = record h.member { router = h.next } in
    subst AreNamed (sym h.gives) (differ_set before.members place h.member (change next) h.is_member (keeps next) named)

named_else : (event : WEvent) (words : List ℕ) (notes : List Note) (before after : Parts) → refusal before event ≡ None → DoesElse event words notes before after → AreNamed before → AreNamed after
named_else (event.Router name id) words notes before after accepted h named =
    subst AreNamed (sym h.quietly.gives)
    (differ_push before.members (record { name = name; running = true; router = h.router; attachments = [] }) (name_is_free before name id accepted) named)
named_else (event.Link name) words notes before after accepted h named = subst AreNamed (sym h.gives) named
named_else (event.Stop name) words notes before after accepted h named =
    subst AreNamed (sym h.quietly.gives) (differ_set before.members h.place h.member (stopped h.member) h.is_member refl named)
named_else (event.Time moment) words notes before after accepted h named = subst AreNamed (sym h.gives) named
named_else (event.Deliver copy) words notes before after accepted h named =
    subst AreNamed (sym h.gives) (named_acts_at (λ m. m) (λ m. refl) h.mail.to.place (arrival_of h.mail) words notes before h.between h.acts named)
named_else (event.Drop copy) words notes before after accepted h named = subst AreNamed (sym h.quietly.gives) named
named_else _ words notes before after accepted h named = absurd h

named_at : (event : WEvent) (own : Option (Name × PlainEvent)) → (words : List ℕ) (notes : List Note) (before after : Parts) → refusal before event ≡ None
    → DoesAt event own words notes before after → AreNamed before → AreNamed after
named_at event (Some own) words notes before after accepted h named = named_acts_at (beside event before) (beside_keeps event before) h.place own.1 words notes before after h.acts named
named_at event None words notes before after accepted h named = named_else event words notes before after accepted h named

named_step : (t : Traced) (before after : Parts) → Any t before after → AreNamed before → AreNamed after
named_step t before after h named = subst AreNamed (sym h.1.gives) (named_at t.event (routed t.event) t.words h.0 before h.1.between h.1.accepted h.1.does named)

pub named_replay : (version : Version) (ts : List Traced) (w : Parts) → Replays version ts w → AreNamed w
named_replay version ts w h = replay_keeps AreNamed named_step version (λ i j d less within is. absurd (omega (arith, within))) ts w h
