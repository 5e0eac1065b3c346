-- The copies of a replayed world are of bytes, so that a delivery has a result.
use Rattle.hn_base.proofs.Names.{◌-◌, ℕ, List, Option, None, Some, sym, subst, All-nil, All-append, IsByte}
use Rattle.hn_world.proofs.Names.{All, Name, Version, PlainEvent, Arrive, IsEventInRange, Note, Origin, Traced, WEvent, Member, Parts, StepExists, WorldIsSound, copies_of, IsReplayed, Replays}
use Rattle.hn_world.proofs.Names.{IsSoundMember, IsSoundWorld, routed, ActsAt, DoesAt, DoesElse, FitsAt, beside}
use Rattle.hn_router.specs.Laws.{SendsAreBytes}
use Rattle.hn_world.specs.declared.event.WEvent.TheVariants as event
use Rattle.hn_world.specs.Existing.{IsMailOfBytes, ReplayedStepExists}
use Rattle.hn_world.specs.Laws.{CopiesAreBytes}
use Rattle.hn_world.proofs.DoneAsPlanned.{copy_there}
use Rattle.hn_world.proofs.CopiesAsSent.{Copied, copied, still_copied}
use Rattle.hn_world.proofs.OneStep.{Any}
use Rattle.hn_world.proofs.SoundRouters.{StayLaws, sound_step, replay_keeps, all_at}

abbrev AreBytes : List ℕ → Type 0
AreBytes bytes = All IsByte bytes

abbrev HasBytes : Parts → Type 0
HasBytes w = All (Copied AreBytes) w.copies

-- the laws on which it rests
pub record BytesLaws : Type 0 where
  pub stay : StayLaws
  pub sends : SendsAreBytes

-- ---- what each event keeps

module _ (laws : BytesLaws) where
  bytes_at : (change : Member → Member) (place : ℕ) (event : PlainEvent) (words : List ℕ) (notes : List Note) (before after : Parts)
      → IsEventInRange event → ActsAt change place event words notes before after → IsSoundWorld before → HasBytes before → HasBytes after
  bytes_at change place event words notes before after ranged h sound all =
      let here : IsSoundMember before.moment h.member = all_at (IsSoundMember before.moment) before.members place h.member h.is_member sound in
      let sends = laws.sends before.moment event h.member.router h.next h.done here.router here.past ranged h.happened in
      subst HasBytes (sym h.gives)
      (All-append (Copied AreBytes) before.copies (copies_of before.members place h.member h.done.sends) all (copied AreBytes before.members place h.member h.done.sends sends))

  bytes_else : (event : WEvent) (words : List ℕ) (notes : List Note) (before after : Parts) → DoesElse event words notes before after → IsSoundWorld before → HasBytes before → HasBytes after
  bytes_else (event.Router name id) words notes before after h sound all = subst HasBytes (sym h.quietly.gives) all
  bytes_else (event.Link name) words notes before after h sound all = subst HasBytes (sym h.gives) all
  bytes_else (event.Stop name) words notes before after h sound all = subst HasBytes (sym h.quietly.gives) all
  bytes_else (event.Time moment) words notes before after h sound all = subst HasBytes (sym h.gives) all
  bytes_else (event.Deliver copy) words notes before after h sound all =
      let one : AreBytes h.mail.bytes = all_at (Copied AreBytes) before.copies (copy - 1) h.mail h.is_copy all in
      let origin : Origin = record { endpoint = h.mail.to.endpoint; from = h.mail.from; multicast = h.mail.multicast } in
      let between : HasBytes h.between = bytes_at (λ m. m) h.mail.to.place (Arrive origin h.mail.bytes) words notes before h.between tt h.acts sound all in
      subst HasBytes (sym h.gives) (still_copied AreBytes copy h.mail h.between one between)
  bytes_else (event.Drop copy) words notes before after h sound all =
      let one : AreBytes h.mail.bytes = all_at (Copied AreBytes) before.copies (copy - 1) h.mail h.is_copy all in
      subst HasBytes (sym h.quietly.gives) (still_copied AreBytes copy h.mail before one all)
  bytes_else _ words notes before after h sound all = absurd h

  bytes_by : (event : WEvent) (own : Option (Name × PlainEvent)) (words : List ℕ) (notes : List Note) (before after : Parts) → FitsAt own
      → DoesAt event own words notes before after → IsSoundWorld before → HasBytes before → HasBytes after
  bytes_by event (Some own) words notes before after fits h sound all = bytes_at (beside event before) h.place own.1 words notes before after fits h.acts sound all
  bytes_by event None words notes before after fits h sound all = bytes_else event words notes before after h sound all

  bytes_step : (t : Traced) (before after : Parts) → Any t before after → IsSoundWorld before × HasBytes before → IsSoundWorld after × HasBytes after
  bytes_step t before after (notes, step) (sound, all) = (
    sound_step laws.stay t before after (notes, step) sound,
    subst HasBytes (sym step.gives) (bytes_by t.event (routed t.event) t.words notes before step.between step.fits step.does sound all),
  )

  bytes_replay : (version : Version) (ts : List Traced) (w : Parts) → Replays version ts w → IsSoundWorld w × HasBytes w
  bytes_replay version ts w h =
      replay_keeps (λ (w : Parts). IsSoundWorld w × HasBytes w) bytes_step version (All-nil (IsSoundMember 0), All-nil (Copied AreBytes)) ts w h

  pub all_of_bytes : CopiesAreBytes
  all_of_bytes w h = (bytes_replay w.version w.trace w h).1

-- ---- a step of a replayed world

mail_of_bytes : CopiesAreBytes → (w : Parts) → IsReplayed w → (event : WEvent) → IsMailOfBytes event w
mail_of_bytes bytes w h (event.Deliver copy) = λ mail found. all_at (Copied AreBytes) w.copies (copy - 1) mail (copy_there copy w mail found).1 (bytes w h)
mail_of_bytes bytes w h _ = tt

pub replayed_step : StepExists → WorldIsSound → CopiesAreBytes → ReplayedStepExists
replayed_step exists sound bytes event w h accepted in_range fits injected =
    exists event w (sound w h) accepted (record { in_range = in_range; fits = fits; injected = injected; mail = mail_of_bytes bytes w h event })
