-- What the routers of a replayed world hold was published, where nothing was injected; or texts that were published collide.
use Rattle.hn_base.proofs.Names.{◌≡◌, ◌⊎◌, ◌-◌, ℕ, true, List, [], ◌∷◌, ◌++◌, Option, Some, None, Contains, inl, inr, refl, sym, ap, subst, All-nil, All-push, All-set, All-append, All-weaker}
use Rattle.hn_base.proofs.Names.{All-contains, All-contains_itself, Contains-append_left, Contains-push}
use Rattle.hn_world.proofs.Names.{All, NodeId, Name, Version, Nodes, HeldNode, Note, Publication, State, TextsCollide, BytesSayPublished, PlainEvent, Arrive, IsEventInRange, MailCopy, WEvent, Traced}
use Rattle.hn_world.proofs.Names.{Member, Parts, AuthenticUnlessInjected, copies_of, Replays, IsSoundMember, IsSoundWorld, routed, ActsAt, RouterBegins, Stops, DoesAt, DoesElse, FitsAt, acted, beside}
use Rattle.hn_world.proofs.Names.{stopped, taken}
use Rattle.hn_store.specs.Nodes.{held}
use Rattle.hn_store.specs.declared.stored.Stored.{Stored}
use Rattle.hn_rules.specs.Genuine.{IsGenuine}
use Rattle.hn_world.proofs.MorePublished.{Includes, includes_front, collide_more, was_more, holds_more, bytes_more}
use Rattle.hn_router.specs.Laws.{IsTrusted, GenuineStays}
use Rattle.hn_world.specs.declared.event.WEvent.TheVariants as event
use Rattle.hn_world.specs.Authentic.{IsFromWithin, IsAuthentic}
use Rattle.hn_world.specs.Step.{DeliversCopy, Drops}
use Rattle.hn_world.proofs.CopiesAsSent.{copied, still_copied}
use Rattle.hn_world.proofs.OneStep.{Any, trace_of_step}
use Rattle.hn_world.proofs.SoundRouters.{StayLaws, KeepsRouters, beside_keeps, sound_step, replay_keeps, all_at}

-- what each event keeps: own and held node data were published, and copies say what was published
pub record IsGenuineWorld (w : Parts) : Type 0 where
  pub routers : All (λ m. IsGenuine w.published m.router) w.members
  pub copies : All (λ c. BytesSayPublished w.published c.bytes) w.copies

-- or texts collide
abbrev IsGenuineOr : Parts → Type 0
IsGenuineOr w = IsGenuineWorld w ⊎ TextsCollide w.published

-- the laws on which it rests
pub record AuthenticLaws : Type 0 where
  pub stay : StayLaws
  pub genuine : GenuineStays

-- what happens at a router by its name is no datagram from outside
abbrev IsTrustedAt : List Publication → Option (Name × PlainEvent) → Type 0
IsTrustedAt published None = Unit {0}
IsTrustedAt published (Some own) = IsTrusted published own.1

trusted_within : (published : List Publication) (event : WEvent) → IsFromWithin event → IsTrustedAt published (routed event)
trusted_within published (event.Inject name endpoint from multicast bytes) within = absurd within
trusted_within published _ within = tt

-- ---- more is published

genuine_more : (some all : List Publication) → Includes some all → (s : State) → IsGenuine some s → IsGenuine all s
genuine_more some all includes s is = record { own = was_more some all includes s.id.0 s.number s.own.body is.own; others = holds_more some all includes s is.others }

routers_more : (some all : List Publication) → Includes some all → (members : List Member) → All (λ m. IsGenuine some m.router) members → All (λ m. IsGenuine all m.router) members
routers_more some all includes members =
    All-weaker (λ (m : Member). IsGenuine some m.router) (λ (m : Member). IsGenuine all m.router) (λ (m : Member). genuine_more some all includes m.router) members

copies_more : (some all : List Publication) → Includes some all → (copies : List MailCopy) → All (λ c. BytesSayPublished some c.bytes) copies → All (λ c. BytesSayPublished all c.bytes) copies
copies_more some all includes copies =
    All-weaker (λ (c : MailCopy). BytesSayPublished some c.bytes) (λ (c : MailCopy). BytesSayPublished all c.bytes) (λ (c : MailCopy). bytes_more some all includes c.bytes) copies

none_held : (id : ℕ) (stored : Stored) → ¬ (held [] id ≡ Some stored)
none_held id stored found = absurd cc

-- ---- an event

module _ (laws : AuthenticLaws) where
  genuine_at : (change : Member → Member) → KeepsRouters change → (place : ℕ) (event : PlainEvent) (words : List ℕ) (notes : List Note) (before after : Parts)
      → IsEventInRange event → IsTrusted before.published event → ActsAt change place event words notes before after → IsSoundWorld before → IsGenuineOr before → IsGenuineOr after
  genuine_at change keeps place event words notes before after ranged trusted h sound (inr collide) =
      subst IsGenuineOr (sym h.gives) (inr (collide_more before.published (before.published ++ h.done.published) (includes_front before.published h.done.published) collide))
  genuine_at change keeps place event words notes before after ranged trusted h sound (inl genuine) =
      subst IsGenuineOr (sym h.gives) (by_result (laws.genuine before.published before.moment event h.member.router h.next h.done here.router here.past ranged was trusted h.happened))
    where
      all : List Publication
      all = before.published ++ h.done.published

      includes : Includes before.published all
      includes = includes_front before.published h.done.published

      here : IsSoundMember before.moment h.member
      here = all_at (IsSoundMember before.moment) before.members place h.member h.is_member sound

      was : IsGenuine before.published h.member.router
      was = all_at (λ (m : Member). IsGenuine before.published m.router) before.members place h.member h.is_member genuine.routers

      next : Member
      next = record h.member { router = h.next }

      by_result : (IsGenuine all h.next × All (λ o. BytesSayPublished all o.bytes) h.done.sends) ⊎ TextsCollide all → IsGenuineOr (acted change place h.member h.next h.done before)
      by_result (inr collide) = inr collide
      by_result (inl (is, sends)) =
          inl (record {
            routers = All-set (λ (m : Member). IsGenuine all m.router) before.members place (change next)
                (subst (IsGenuine all) (sym (keeps next)) is) (routers_more before.published all includes before.members genuine.routers);
            copies = All-append (λ (c : MailCopy). BytesSayPublished all c.bytes) before.copies (copies_of before.members place h.member h.done.sends)
                (copies_more before.published all includes before.copies genuine.copies)
                (copied (BytesSayPublished all) before.members place h.member h.done.sends sends);
          })

  -- a new router holds nothing, and its own node data are published
  genuine_new : (name : Name) (id : NodeId) (words : List ℕ) (notes : List Note) (before after : Parts) → RouterBegins name id words notes before after → IsGenuineOr before → IsGenuineOr after
  genuine_new name id words notes before after h (inr collide) =
      let p : Publication = record { id = id; number = 1; body = h.router.own.body } in
      subst IsGenuineOr (sym h.quietly.gives) (inr (collide_more before.published (before.published ++ p ∷ []) (includes_front before.published (p ∷ [])) collide))
  genuine_new name id words notes before after h (inl genuine) = subst IsGenuineOr (sym h.quietly.gives) (inl (record { routers = routers; copies = copies }))
    where
      p : Publication
      p = record { id = id; number = 1; body = h.router.own.body }

      all : List Publication
      all = before.published ++ p ∷ []

      includes : Includes before.published all
      includes = includes_front before.published (p ∷ [])

      empty : h.router.table.entries ≡ []
      empty = ap (λ (nodes : Nodes). nodes.entries) h.is_new.table_is

      is : IsGenuine all h.router
      is = record {
        own = record { publication = p; there = Contains-push before.published p; of_node = ap (λ (x : NodeId). x.0) (sym h.is_new.id_is); of_number = sym h.is_new.number_is; of_body = refl };
        others = λ id stored found. absurd (none_held id stored (subst (λ (entries : List HeldNode). held entries id ≡ Some stored) empty found));
      }

      routers : All (λ m. IsGenuine all m.router) (before.members ++ record { name = name; running = true; router = h.router; attachments = [] } ∷ [])
      routers = All-push (λ (m : Member). IsGenuine all m.router) before.members
          (record { name = name; running = true; router = h.router; attachments = [] }) (routers_more before.published all includes before.members genuine.routers) is

      copies : All (λ c. BytesSayPublished all c.bytes) before.copies
      copies = copies_more before.published all includes before.copies genuine.copies

  -- texts that collide still do
  collide_at : (change : Member → Member) (place : ℕ) (event : PlainEvent) (words : List ℕ) (notes : List Note) (before after : Parts)
      → ActsAt change place event words notes before after → TextsCollide before.published → TextsCollide after.published
  collide_at change place event words notes before after h collide =
      subst (λ (w : Parts). TextsCollide w.published) (sym h.gives) (collide_more before.published (before.published ++ h.done.published) (includes_front before.published h.done.published) collide)

  -- a copy is taken
  genuine_taken : (copy : ℕ) (mail : MailCopy) (w : Parts) → BytesSayPublished w.published mail.bytes → IsGenuineOr w → IsGenuineOr (taken copy mail w)
  genuine_taken copy mail w one (inl genuine) = inl (record { routers = genuine.routers; copies = still_copied (BytesSayPublished w.published) copy mail w one genuine.copies })
  genuine_taken copy mail w one (inr collide) = inr collide

  genuine_delivered : (copy : ℕ) (words : List ℕ) (notes : List Note) (before after : Parts) → DeliversCopy copy words notes before after → IsSoundWorld before → IsGenuineOr before → IsGenuineOr after
  genuine_delivered copy words notes before after h sound (inr collide) =
      subst IsGenuineOr (sym h.gives) (inr (collide_at (λ m. m) h.mail.to.place _ words notes before h.between h.acts collide))
  genuine_delivered copy words notes before after h sound (inl genuine) =
      let says : BytesSayPublished before.published h.mail.bytes = all_at (λ (c : MailCopy). BytesSayPublished before.published c.bytes) before.copies (copy - 1) h.mail h.is_copy genuine.copies in
      let more = bytes_more before.published (before.published ++ h.acts.done.published) (includes_front before.published h.acts.done.published) h.mail.bytes says in
      let then : BytesSayPublished h.between.published h.mail.bytes = subst (λ (w : Parts). BytesSayPublished w.published h.mail.bytes) (sym h.acts.gives) more in
      subst IsGenuineOr (sym h.gives) (genuine_taken copy h.mail h.between then
      (genuine_at (λ m. m) (λ m. refl) h.mail.to.place (Arrive
      (record { endpoint = h.mail.to.endpoint; from = h.mail.from; multicast = h.mail.multicast }) h.mail.bytes) words notes before h.between tt says h.acts sound (inl genuine)))

  genuine_dropped : (copy : ℕ) (words : List ℕ) (notes : List Note) (before after : Parts) → Drops copy words notes before after → IsGenuineOr before → IsGenuineOr after
  genuine_dropped copy words notes before after h (inr collide) = subst IsGenuineOr (sym h.quietly.gives) (inr collide)
  genuine_dropped copy words notes before after h (inl genuine) =
      let says : BytesSayPublished before.published h.mail.bytes = all_at (λ (c : MailCopy). BytesSayPublished before.published c.bytes) before.copies (copy - 1) h.mail h.is_copy genuine.copies in
      subst IsGenuineOr (sym h.quietly.gives) (genuine_taken copy h.mail before says (inl genuine))

  genuine_stopped : (name : Name) (words : List ℕ) (notes : List Note) (before after : Parts) → Stops name words notes before after → IsGenuineOr before → IsGenuineOr after
  genuine_stopped name words notes before after h (inr collide) = subst IsGenuineOr (sym h.quietly.gives) (inr collide)
  genuine_stopped name words notes before after h (inl genuine) =
      let here : IsGenuine before.published h.member.router = all_at (λ (m : Member). IsGenuine before.published m.router) before.members h.place h.member h.is_member genuine.routers in
      subst IsGenuineOr (sym h.quietly.gives) (inl (record {
        routers = All-set (λ (m : Member). IsGenuine before.published m.router) before.members h.place (stopped h.member) here genuine.routers;
        copies = genuine.copies;
      }))

  plainly : (w : Parts) (links : List Name) (moment : ℕ) (trace : List Traced) → IsGenuineOr w → IsGenuineOr (record w { links = links; moment = moment; trace = trace })
  plainly w links moment trace (inl genuine) = inl (record { routers = genuine.routers; copies = genuine.copies })
  plainly w links moment trace (inr collide) = inr collide

  -- what an event at no router by its name leaves
  genuine_else : (event : WEvent) (words : List ℕ) (notes : List Note) (before after : Parts) → DoesElse event words notes before after → IsSoundWorld before → IsGenuineOr before → IsGenuineOr after
  genuine_else (event.Router name id) words notes before after h sound genuine = genuine_new name id words notes before after h genuine
  genuine_else (event.Link name) words notes before after h sound genuine = subst IsGenuineOr (sym h.gives) (plainly before (before.links ++ name ∷ []) before.moment before.trace genuine)
  genuine_else (event.Stop name) words notes before after h sound genuine = genuine_stopped name words notes before after h genuine
  genuine_else (event.Time moment) words notes before after h sound genuine = subst IsGenuineOr (sym h.gives) (plainly before before.links moment before.trace genuine)
  genuine_else (event.Deliver copy) words notes before after h sound genuine = genuine_delivered copy words notes before after h sound genuine
  genuine_else (event.Drop copy) words notes before after h sound genuine = genuine_dropped copy words notes before after h genuine
  genuine_else _ words notes before after h sound genuine = absurd h

  genuine_by : (event : WEvent) (own : Option (Name × PlainEvent)) (words : List ℕ) (notes : List Note) (before after : Parts) → IsTrustedAt before.published own → FitsAt own
      → DoesAt event own words notes before after → IsSoundWorld before → IsGenuineOr before → IsGenuineOr after
  genuine_by event (Some own) words notes before after trusted fits h sound genuine =
      genuine_at (beside event before) (beside_keeps event before) h.place own.1 words notes before after fits trusted h.acts sound genuine
  genuine_by event None words notes before after trusted fits h sound genuine = genuine_else event words notes before after h sound genuine

  -- ---- a replay

  abbrev Kept : Parts → Type 0
  Kept w = IsSoundWorld w × (All (λ t. IsFromWithin t.event) w.trace → IsGenuineOr w)

  genuine_step : (t : Traced) (before after : Parts) → Any t before after → Kept before → Kept after
  genuine_step t before after (notes, step) (sound, kept) = (sound_step laws.stay t before after (notes, step) sound, so)
    where
      so : All (λ t. IsFromWithin t.event) after.trace → IsGenuineOr after
      so all =
          let entered_all : All (λ t. IsFromWithin t.event) (before.trace ++ t ∷ []) = subst (All (λ (t : Traced). IsFromWithin t.event)) (trace_of_step t before after (notes, step)) all in
          let front : All (λ t. IsFromWithin t.event) before.trace =
          All-weaker (Contains before.trace) (λ (t : Traced). IsFromWithin t.event)
          (λ (u : Traced) there. All-contains (λ (t : Traced). IsFromWithin t.event) (before.trace ++ t ∷ []) u entered_all (Contains-append_left before.trace (t ∷ []) u there))
          before.trace (All-contains_itself before.trace) in
          let last : IsFromWithin t.event = All-contains (λ (t : Traced). IsFromWithin t.event) (before.trace ++ t ∷ []) t entered_all (Contains-push before.trace t) in
          subst IsGenuineOr (sym step.gives)
          (plainly step.between step.between.links step.between.moment (step.between.trace ++ t ∷ [])
          (genuine_by t.event (routed t.event) t.words notes before step.between (trusted_within before.published t.event last) step.fits step.does sound (kept front)))

  kept_replay : (version : Version) (ts : List Traced) (w : Parts) → Replays version ts w → Kept w
  kept_replay version ts w h =
      replay_keeps Kept genuine_step version
      (All-nil (IsSoundMember 0), λ all. inl (record { routers = All-nil (λ (m : Member). IsGenuine [] m.router); copies = All-nil (λ (c : MailCopy). BytesSayPublished [] c.bytes) })) ts w h

authentic_of : (w : Parts) → IsGenuineOr w → IsAuthentic w
authentic_of w (inr collide) = inr collide
authentic_of w (inl genuine) = inl (λ m there. (All-contains (λ (m : Member). IsGenuine w.published m.router) w.members m genuine.routers there).others)

pub authentic_replay : AuthenticLaws → (version : Version) (ts : List Traced) (w : Parts) → Replays version ts w → AuthenticUnlessInjected w
authentic_replay laws version ts w h all = authentic_of w ((kept_replay laws version ts w h).1 all)
