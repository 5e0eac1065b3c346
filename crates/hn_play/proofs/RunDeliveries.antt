-- Deliveries: by mail, and over a wire.
use Rattle.hn_base.proofs.Names.{◌≡◌, ◌∙◌, ◌≤◌, ◌-◌, Bool, true, false, cond, ℕ, List, [], ◌∷◌, length, Option, None, Some, Result, Ok, Err, inl, inr, refl, sym, ap, subst, ◌||◌, is_none, nat_le}
use Rattle.hn_base.proofs.Names.{IsErrAnd, option_map, option_and_then, same_Some, All-contains}
use Rattle.hn_play.proofs.Names.{NoMemory, MailCopy, WEvent, WorldFault, Member, Parts, copy_at, refusal, Carried, Stop, Refused, WireFailed, Cut, Carries, Breaks}
use Rattle.hn_play.proofs.Names.{EventNotes, EventEnds, injection_for, Replaces, IsReplaced, ComesTo, ComesToSome, Delivers, IsStopped, EndsWith, IsAnswered}
use Rattle.hn_play.proofs.Names.{IsAnsweredWith, stopping, Stage, Route}
use Rattle.std.specs.List.{slice_get}
use Rattle.hn_world.specs.declared.event.WEvent.TheVariants as event
use Rattle.hn_world.specs.Leaves.{info_of_copy}
use Rattle.hn_world.specs.Within.{AreWithinLimits}
use Rattle.hn_world.specs.Refusal.{acting, names_nothing, is_stopped, lacks_the_endpoint, lacks_a_copy, lacks_room, is_full_of_mail, first_code}
use Rattle.hn_play.specs.Carrying.{IsLeftAt, Starves}
use Rattle.hn_play.specs.declared.carrying.Carried.TheVariants.{Lost, Other, Same}
use Rattle.hn_play.proofs.RunAnswers.{answered_as, answer_on, ends_so}
use Rattle.hn_play.proofs.RunStops.{stopped_last, starved}
use Rattle.hn_base.proofs.PartsAtPlaces.{contains_at}
use Rattle.hn_play.specs.Delivery.{IsBroken, Conveys, DeliveryEnds}
use Rattle.hn_rules.specs.declared.done.Note.{Note}
use Rattle.hn_world.specs.declared.copies.CopyInfo.{CopyInfo}
use Rattle.std.proofs.Common.{◌==◌}

-- a delivery that is not refused is one of a copy
has_copy : (unknown stopped lacks no_copy full full_of_mail : Bool)
    → first_code ((7, unknown) ∷ (12, stopped) ∷ (11, lacks) ∷ (13, no_copy) ∷ (9, full) ∷ (16, full_of_mail) ∷ []) ≡ None → no_copy ≡ false
has_copy true stopped lacks no_copy full full_of_mail none = absurd cc
has_copy false true lacks no_copy full full_of_mail none = absurd cc
has_copy false false true no_copy full full_of_mail none = absurd cc
has_copy false false false true full full_of_mail none = absurd cc
has_copy false false false false full full_of_mail none = refl

pub delivered_copy : (w : Parts) (copy : ℕ) → refusal w (event.Deliver copy) ≡ None → (c : MailCopy) × (copy_at w copy ≡ Some c)
delivered_copy w copy accepted =
    let e = event.Deliver copy in
    let r = acting e w in
    is_there (copy_at w copy) (has_copy (names_nothing e w r) (is_stopped e r) (lacks_the_endpoint e w r) (lacks_a_copy e w)
    (lacks_room e w r || nat_le 1000000 (length w.trace)) (is_full_of_mail w) accepted)
  where
    is_there : (o : Option MailCopy) → is_none o ≡ false → (c : MailCopy) × (o ≡ Some c)
    is_there None there = absurd cc
    is_there (Some c) there = (c, refl)

-- its bytes, of which there are at most 65,507
pub bytes_of_copy : (bytes : List ℕ) (found : Option MailCopy) (c : MailCopy) → Some bytes ≡ option_map (λ k. k.bytes) found → found ≡ Some c → bytes ≡ c.bytes
bytes_of_copy bytes None c told is = absurd cc
bytes_of_copy bytes (Some k) c told is = same_Some bytes k.bytes told ∙ ap (λ (x : MailCopy). x.bytes) (same_Some k c is)

copy_in : (w : Parts) (copy : ℕ) (c : MailCopy) → copy_at w copy ≡ Some c → slice_get w.copies (copy - 1) ≡ Some c
copy_in w copy c found = by_test (copy == 0) found
  where
    by_test : (b : Bool) → cond b None (slice_get w.copies (copy - 1)) ≡ Some c → slice_get w.copies (copy - 1) ≡ Some c
    by_test true e = absurd cc
    by_test false e = e

pub short_copy : (w : Parts) (copy : ℕ) (bytes : List ℕ) → AreWithinLimits w → Some bytes ≡ option_map (λ k. k.bytes) (copy_at w copy) → refusal w (event.Deliver copy) ≡ None → length bytes ≤ 65507
short_copy w copy bytes within told accepted =
    let found = delivered_copy w copy accepted in
    let short : length found.0.bytes ≤ 65507 = All-contains (λ (c : MailCopy). length c.bytes ≤ 65507) w.copies found.0 within.datagrams
    (contains_at w.copies (copy - 1) found.0 (copy_in w copy found.0 found.1)) in
    subst (λ (b : List ℕ). length b ≤ 65507) (sym (bytes_of_copy bytes (copy_at w copy) found.0 told found.1)) short

-- what is injected in the place of a copy
injected_at : (bytes : List ℕ) (k : MailCopy) (info : CopyInfo) (found : Option Member) → Some info ≡ option_map (info_of_copy k) found
    → option_map (λ m. event.Inject m.name k.to.endpoint k.from k.multicast bytes) found ≡ Some (event.Inject info.to info.endpoint info.from info.multicast bytes)
injected_at bytes k info None told = absurd cc
injected_at bytes k info (Some m) told = ap (λ (i : CopyInfo). Some (event.Inject i.to i.endpoint i.from i.multicast bytes)) (sym (same_Some info (info_of_copy k m) told))

pub injected_for : (w : Parts) (c : MailCopy) (bytes : List ℕ) (info : CopyInfo) (found : Option MailCopy)
    → Some info ≡ option_and_then (λ (k : MailCopy). option_map (info_of_copy k) (slice_get w.members k.to.place)) found → found ≡ Some c
    → injection_for w c bytes ≡ Some (event.Inject info.to info.endpoint info.from info.multicast bytes)
injected_for w c bytes info None told is = absurd cc
injected_for w c bytes info (Some k) told is =
    subst (λ (x : MailCopy). injection_for w x bytes ≡ Some (event.Inject info.to info.endpoint info.from info.multicast bytes)) (same_Some k c is)
    (injected_at bytes k info (slice_get w.members k.to.place) told)

-- ---- other bytes in the place of a copy

module _ (copy : ℕ) (inject : WEvent) (other : Option WEvent) (is : other ≡ Some inject) (p b a : Stage) where
  -- the drop is refused, or the event after it
  undropped : (code : ℕ) → EventEnds (event.Drop copy) (Some (Refused code)) p a → IsReplaced copy other (Some (Refused code)) p a
  undropped code refused = subst (λ (o : Option WEvent). IsReplaced copy o (Some (Refused code)) p a) (sym is) ([], inl refused)

  pub not_dropped : (A : Type 0) (why : WorldFault) (r : Result (List Note) WorldFault) → IsErrAnd r (λ e. e ≡ why)
      → IsAnswered {A = A} (EventEnds (event.Drop copy)) (Err why) p a → IsAnsweredWith (λ notes. Replaces copy other notes None) (IsReplaced copy other) r p a
  not_dropped A why r handed =
      answer_on (EventEnds (event.Drop copy)) (IsReplaced copy other) p p a undropped (λ (_ : A). EventEnds (event.Drop copy) None) (λ notes. Replaces copy other notes None) why r handed

  pub replaced : (dropped : EventEnds (event.Drop copy) None p b) (r : Result (List Note) WorldFault)
      → IsAnsweredWith (λ notes. EventNotes inject notes None) (EventEnds inject) r b a → IsAnsweredWith (λ notes. Replaces copy other notes None) (IsReplaced copy other) r p a
  replaced dropped r =
      answered_as (EventEnds inject) (IsReplaced copy other) p b a
      (λ code h. subst (λ (o : Option WEvent). IsReplaced copy o (Some (Refused code)) p a) (sym is) (h.0, inr (b, dropped, h.1)))
      (λ notes. EventNotes inject notes None) (λ notes. Replaces copy other notes None) r
      (λ notes h. subst (λ (o : Option WEvent). Replaces copy o notes None p a) (sym is) (b, dropped, h))

-- ---- a copy is conveyed

conveyed : (copy : ℕ) (c : MailCopy) (carried : Carried) (route : Route) (p : Stage) → copy_at p.world copy ≡ Some c → Carries c.bytes carried p.route route
    → (notes : List Note) (stop : Option Stop) (at : Stage) → ComesTo copy c carried notes stop (record p { route = route }) at → Conveys copy notes stop p at
conveyed copy c carried route p is carries notes stop at comes = inr (record { mail = c; is_copy = is; carried = carried; route = route; carries = carries; comes = comes })

-- what a copy comes to, as a world answers it
abbrev pub IsComing : ℕ → MailCopy → Carried → Result (List Note) WorldFault → Stage → Stage → Type 0
IsComing copy c carried answer p a = IsAnsweredWith (λ notes. ComesTo copy c carried notes None) (ComesToSome copy c carried) answer p a

-- memory ended while a copy was carried
left_by : (copy : ℕ) (c : MailCopy) (p a : Stage) → copy_at p.world copy ≡ Some c → Starves c.bytes p.route a.route → IsLeftAt p a.route
left_by copy c p a is starves = inr (copy, c, is, starves)

-- what the conveying of a copy comes to: by notes, or by why it is stopped
pub conveyed_ends : (copy : ℕ) (c : MailCopy) (carried : Carried) (answer : Result (List Note) WorldFault) (r : Result (List Note) Stop) (p q a : Stage)
    → refusal p.world (event.Deliver copy) ≡ None → copy_at p.world copy ≡ Some c → Carries c.bytes carried p.route q.route → q ≡ record p { route = q.route }
    → r ≡ stopping answer → a.text ≡ p.text → a.route ≡ q.route → IsComing copy c carried answer q a
    → EndsWith (Conveys copy) (Delivers copy) r p a
conveyed_ends copy c carried answer r p q a accepted is carries beside same told stays =
    let so : (notes : List Note) (stop : Option Stop) → ComesTo copy c carried notes stop q a → Conveys copy notes stop p a = λ notes stop comes.
    conveyed copy c carried q.route p is carries notes stop a (subst (λ (s : Stage). ComesTo copy c carried notes stop s a) beside comes)
    in
    ends_so (ComesToSome copy c carried) (Delivers copy) p q a (λ code h. (h.0, inr (p, (accepted, refl), so h.0 (Some (Refused code)) h.1)))
    (λ notes. ComesTo copy c carried notes None) (Conveys copy) answer r same told ([], inl refl)
    (left_by copy c p a is (inr (inr (carried, subst (Carries c.bytes carried p.route) (sym stays) carries)))) (λ notes h. so notes None h)

-- the wire fails
pub broken : (copy : ℕ) (c : MailCopy) (route : Route) (p : Stage) → refusal p.world (event.Deliver copy) ≡ None → copy_at p.world copy ≡ Some c → Breaks c.bytes p.route route
    → IsStopped (Delivers copy) WireFailed p (record p { route = route })
broken copy c route p accepted found breaks =
    let is_broken : IsBroken copy (Some WireFailed) p (record p { route = route }) =
    record { stop_is = refl; mail = c; is_copy = found; route = route; breaks = breaks; stays = refl } in
    stopped_last (Delivers copy) WireFailed p (record p { route = route }) ([], inr (p, (accepted, refl), inl is_broken)) refl (λ e. absurd cc)

-- memory ends while its bytes are carried
pub delivery_starved : (copy : ℕ) (c : MailCopy) (p a : Stage) → copy_at p.world copy ≡ Some c → Starves c.bytes p.route a.route
    → IsStopped (Delivers copy) (Cut NoMemory) p a
delivery_starved copy c p a is starves = starved (Delivers copy) p a ([], inl refl) (left_by copy c p a is starves)

-- an event leaves how copies go
route_kept : (event : WEvent) (notes : List Note) (p a : Stage) → EventNotes event notes None p a → a.route ≡ p.route
route_kept event notes p a happens = happens.route

replaced_kept : (copy : ℕ) (other : Option WEvent) (notes : List Note) (p a : Stage) → Replaces copy other notes None p a → a.route ≡ p.route
replaced_kept copy None notes p a none = absurd none
replaced_kept copy (Some other) notes p a (m, (dropped, drops), happens) =
    route_kept other notes m a happens ∙ route_kept (event.Drop copy) dropped p m drops

comes_kept : (copy : ℕ) (c : MailCopy) (carried : Carried) (notes : List Note) (p a : Stage) → ComesTo copy c carried notes None p a → a.route ≡ p.route
comes_kept copy c Same notes p a comes = route_kept (event.Deliver copy) notes p a comes
comes_kept copy c Lost notes p a comes = route_kept (event.Drop copy) notes p a comes
comes_kept copy c (Other bytes) notes p a comes = replaced_kept copy (injection_for p.world c bytes) notes p a comes

-- and after a delivery, before its notes are told
conveyed_left : (copy : ℕ) (notes : List Note) (p a : Stage) → Conveys copy notes None p a → IsLeftAt p a.route
conveyed_left copy notes p a (inl breaks) = let none = breaks.stop_is in absurd cc
conveyed_left copy notes p a (inr k) =
    let same : a.route ≡ k.route = comes_kept copy k.mail k.carried notes (record p { route = k.route }) a k.comes in
    left_by copy k.mail p a k.is_copy (inr (inr (k.carried, subst (Carries k.mail.bytes k.carried p.route) (sym same) k.carries)))

pub delivered_left : (copy : ℕ) (notes : List Note) (p a : Stage) → DeliveryEnds copy notes None p a → IsLeftAt p a.route
delivered_left copy notes p a (m, (accepted, same), conveys) =
    conveyed_left copy notes p a (subst (λ (s : Stage). Conveys copy notes None s a) same conveys)

-- ---- a delivery

-- it is refused before anything is carried
pub undelivered : (copy code : ℕ) (p : Stage) → refusal p.world (event.Deliver copy) ≡ Some code → IsStopped (Delivers copy) (Refused code) p p
undelivered copy code p is = stopped_last (Delivers copy) (Refused code) p p ([], inl (is, refl)) refl (λ e. absurd cc)

-- or the copy is conveyed
pub not_refused : (copy : ℕ) (r : Result (List Note) Stop) (p a : Stage) → refusal p.world (event.Deliver copy) ≡ None
    → EndsWith (Conveys copy) (Delivers copy) r p a → EndsWith (DeliveryEnds copy) (Delivers copy) r p a
not_refused copy (Ok notes) p a accepted ends = (p, (accepted, refl), ends)
not_refused copy (Err stop) p a accepted ends = ends

-- the router that a copy goes to
pub receiver_is : (w : Parts) (found : Option MailCopy) → option_map (λ (i : CopyInfo). i.to)
    (option_and_then (λ (k : MailCopy). option_map (info_of_copy k) (slice_get w.members k.to.place)) found) ≡ option_map (λ m. m.name)
    (option_and_then (λ (k : MailCopy). slice_get w.members k.to.place) found)
receiver_is w None = refl
receiver_is w (Some k) = by_member (slice_get w.members k.to.place)
  where
    by_member : (o : Option _) → option_map (λ (i : CopyInfo). i.to) (option_map (info_of_copy k) o) ≡ option_map (λ m. m.name) o
    by_member None = refl
    by_member (Some m) = refl
