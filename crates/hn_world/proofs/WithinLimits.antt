-- The routers and the datagrams of a replayed world are within its limits.
use Rattle.hn_base.proofs.Names.{◌≡◌, ◌≤◌, ◌∙◌, ◌-◌, ℕ, true, List, [], Option, Some, None, length, refl, sym, ap, subst, arith, All-nil, All-push, All-set, All-append, All-weaker}
use Rattle.hn_world.proofs.Names.{All, Version, Port, Nodes, HeldNode, Note, State, PlainEvent, Arrive, IsEventInRange, Name, MailCopy, WEvent, Traced, Member, Parts, table_limit, copies_of, Replays}
use Rattle.hn_world.proofs.Names.{IsSoundMember, IsSoundWorld, routed, ActsAt, DoesAt, DoesElse, FitsAt, beside, stopped, AreWithinLimits}
use Rattle.hn_dncp.specs.Peers.{ArePeers}
use Rattle.hn_store.specs.Nodes.{IsIntact}
use Rattle.hn_rules.specs.Lengths.{most_datagram}
use Rattle.hn_router.specs.Laws.{SendsAreShort, LimitStays}
use Rattle.hn_world.specs.declared.event.WEvent.TheVariants as event
use Rattle.hn_world.specs.Within.{RouterIsWithinLimits}
use Rattle.hn_world.proofs.CopiesAsSent.{copied, still_copied}
use Rattle.hn_world.proofs.OneStep.{Any}
use Rattle.hn_world.proofs.SoundRouters.{StayLaws, KeepsRouters, beside_keeps, sound_step, replay_keeps, all_at}

-- what each event keeps: tables have the limit of the version, and copies are short
pub record IsLimited (w : Parts) : Type 0 where
  pub tables : All (λ m. m.router.table.limit ≡ table_limit w.version) w.members
  pub datagrams : All (λ c. length c.bytes ≤ most_datagram) w.copies

-- the laws on which it rests
pub record LimitLaws : Type 0 where
  pub stay : StayLaws
  pub sends : SendsAreShort
  pub limit : LimitStays

abbrev IsShort : List ℕ → Type 0
IsShort bytes = length bytes ≤ most_datagram

module _ (laws : LimitLaws) where
  limited_at : (change : Member → Member) → KeepsRouters change → (place : ℕ) (event : PlainEvent) (words : List ℕ) (notes : List Note) (before after : Parts)
      → IsEventInRange event → ActsAt change place event words notes before after → IsSoundWorld before → IsLimited before → IsLimited after
  limited_at change keeps place event words notes before after ranged h sound limited =
      let here : IsSoundMember before.moment h.member = all_at (IsSoundMember before.moment) before.members place h.member h.is_member sound in
      let next : Member = record h.member { router = h.next } in
      let was : h.member.router.table.limit ≡ table_limit before.version =
      all_at (λ (m : Member). m.router.table.limit ≡ table_limit before.version) before.members place h.member h.is_member limited.tables in
      let limit : h.next.table.limit ≡ table_limit before.version = laws.limit before.moment event h.member.router h.next h.done h.happened ∙ was in
      let sends = laws.sends before.moment event h.member.router h.next h.done here.router here.past ranged h.happened in
      subst IsLimited (sym h.gives) (record {
        tables = All-set (λ (m : Member). m.router.table.limit ≡ table_limit before.version) before.members place (change next)
            (subst (λ (s : State). s.table.limit ≡ table_limit before.version) (sym (keeps next)) limit) limited.tables;
        datagrams = All-append (λ (c : MailCopy). IsShort c.bytes) before.copies (copies_of before.members place h.member h.done.sends) limited.datagrams
            (copied IsShort before.members place h.member h.done.sends sends);
      })

  -- what an event at no router by its name leaves
  limited_else : (event : WEvent) (words : List ℕ) (notes : List Note) (before after : Parts) → DoesElse event words notes before after → IsSoundWorld before → IsLimited before → IsLimited after
  limited_else (event.Router name id) words notes before after h sound limited =
      let limit : h.router.table.limit ≡ table_limit before.version = ap (λ (nodes : Nodes). nodes.limit) h.is_new.table_is in
      subst IsLimited (sym h.quietly.gives) (record {
        tables = All-push (λ (m : Member). m.router.table.limit ≡ table_limit before.version) before.members
            (record { name = name; running = true; router = h.router; attachments = [] }) limited.tables limit;
        datagrams = limited.datagrams;
      })
  limited_else (event.Link name) words notes before after h sound limited = subst IsLimited (sym h.gives) (record { tables = limited.tables; datagrams = limited.datagrams })
  limited_else (event.Stop name) words notes before after h sound limited =
      let here : h.member.router.table.limit ≡ table_limit before.version =
      all_at (λ (m : Member). m.router.table.limit ≡ table_limit before.version) before.members h.place h.member h.is_member limited.tables in
      subst IsLimited (sym h.quietly.gives) (record {
        tables = All-set (λ (m : Member). m.router.table.limit ≡ table_limit before.version) before.members h.place (stopped h.member) here limited.tables;
        datagrams = limited.datagrams;
      })
  limited_else (event.Time moment) words notes before after h sound limited = subst IsLimited (sym h.gives) (record { tables = limited.tables; datagrams = limited.datagrams })
  limited_else (event.Deliver copy) words notes before after h sound limited =
      let one : IsShort h.mail.bytes = all_at (λ (c : MailCopy). IsShort c.bytes) before.copies (copy - 1) h.mail h.is_copy limited.datagrams in
      let between = limited_at (λ m. m) (λ m. refl) h.mail.to.place
      (Arrive (record { endpoint = h.mail.to.endpoint; from = h.mail.from; multicast = h.mail.multicast }) h.mail.bytes) words notes before h.between tt h.acts sound limited in
      subst IsLimited (sym h.gives) (record { tables = between.tables; datagrams = still_copied IsShort copy h.mail h.between one between.datagrams })
  limited_else (event.Drop copy) words notes before after h sound limited =
      let one : IsShort h.mail.bytes = all_at (λ (c : MailCopy). IsShort c.bytes) before.copies (copy - 1) h.mail h.is_copy limited.datagrams in
      subst IsLimited (sym h.quietly.gives) (record { tables = limited.tables; datagrams = still_copied IsShort copy h.mail before one limited.datagrams })
  limited_else _ words notes before after h sound limited = absurd h

  limited_by : (event : WEvent) (own : Option (Name × PlainEvent)) (words : List ℕ) (notes : List Note) (before after : Parts) → FitsAt own
      → DoesAt event own words notes before after → IsSoundWorld before → IsLimited before → IsLimited after
  limited_by event (Some own) words notes before after fits h sound limited =
      limited_at (beside event before) (beside_keeps event before) h.place own.1 words notes before after fits h.acts sound limited
  limited_by event None words notes before after fits h sound limited = limited_else event words notes before after h sound limited

  limited_step : (t : Traced) (before after : Parts) → Any t before after → IsSoundWorld before × IsLimited before → IsSoundWorld after × IsLimited after
  limited_step t before after (notes, step) (sound, limited) =
      let between = limited_by t.event (routed t.event) t.words notes before step.between step.fits step.does sound limited in
      (sound_step laws.stay t before after (notes, step) sound, subst IsLimited (sym step.gives) (record { tables = between.tables; datagrams = between.datagrams }))

  limited_replay : (version : Version) (ts : List Traced) (w : Parts) → Replays version ts w → IsSoundWorld w × IsLimited w
  limited_replay version ts w h =
      replay_keeps (λ (w : Parts). IsSoundWorld w × IsLimited w) limited_step version
      (All-nil (IsSoundMember 0), record { tables = All-nil (λ (m : Member). m.router.table.limit ≡ table_limit version); datagrams = All-nil (λ (c : MailCopy). IsShort c.bytes) }) ts w h

-- ---- all limits

pub router_within : RouterIsWithinLimits
router_within version s router limit = record {
  nodes = let within = router.well.table.within in omega arith;
  bodies = All-weaker (λ (node : HeldNode). IsIntact node.stored) (λ (node : HeldNode). length node.stored.body ≤ 60000) (λ (node : HeldNode) is. is.short) s.table.entries router.well.table.intact;
  endpoints = router.well.ports.few;
  peers = All-weaker (λ (port : Port). ArePeers port.peers) (λ (port : Port). length port.peers ≤ 64) (λ (port : Port) are. are.few) s.ports router.well.peers;
  prefixes = router.well.delegated.few;
  addresses = router.well.addresses.few;
  assigned = router.well.pairs.few;
  own = router.well.own.short;
}

pub within_replay : LimitLaws → (version : Version) (ts : List Traced) (w : Parts) → Replays version ts w → AreWithinLimits w
within_replay laws version ts w h =
    let kept = limited_replay laws version ts w h in
    record { routers = λ k d within. router_within w.version _ (kept.0 k d within).router (kept.1.tables k d within); datagrams = kept.1.datagrams }
