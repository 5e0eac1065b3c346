-- An event that a world accepts has a result: it cannot be that there is none.
use Rattle.hn_base.proofs.Names.{◌≡◌, ◌∙◌, ℕ, Bool, List, [], ◌∷◌, ◌++◌, Option, Some, None, true, cond, length, nat_lt, position, slice_get, refl, sym, ap, subst, arith, position_or_len, lt-ltb}
use Rattle.hn_base.proofs.Names.{find_at, name_text, slice_get_within}
use Rattle.hn_world.proofs.Names.{find, NodeId, Name, some_then, Done, Note, State, PlainEvent, Arrive, IsEventInRange, WEvent, Traced, Member, Parts, StepExists, table_limit, is_named, router_place}
use Rattle.hn_world.proofs.Names.{copy_at, refusal, IsSoundWorld, IsSoundMember, named_by, routed, ActsAt, DoesAt, FitsAt, Step, acted, beside, entered, stopped, taken, with_member}
use Rattle.hn_router.specs.Act.{IsOfBytes, HasResults}
use Rattle.hn_router.specs.Laws.{EventHasAResult, NewExists}
use Rattle.hn_world.specs.declared.event.WEvent.TheVariants as event
use Rattle.hn_world.specs.Existing.{HasAStep, IsGiven, IsOfBytesAt}
use Rattle.hn_world.proofs.Accepted.{accepts, is_there, receiver_found, router_found}
use Rattle.hn_world.proofs.DoneAsPlanned.{copy_there, named_routed}
use Rattle.hn_world.proofs.SoundRouters.{all_at}

-- the laws of routers on which it rests
pub record ExistenceLaws : Type 0 where
  pub event : EventHasAResult
  pub new : NewExists

-- ---- a router that is there

-- the first that passes has a place
pub place_of_found : {A : Type 0} (p : A → Bool) (xs : List A) (x : A) → find p xs ≡ Some x → (i : ℕ) × (position p xs ≡ Some i) × (slice_get xs i ≡ Some x)
place_of_found {A} p xs x found =
    let i = position_or_len p xs in
    let at : slice_get xs i ≡ Some x = sym (find_at p xs) ∙ found in
    let below : nat_lt i (length xs) ≡ true = lt-ltb i (length xs) (slice_get_within xs i x at) in
    (i, ap (λ (b : Bool). cond b (Some i) None) below, at)

-- a router of a name that an event names, where the event is accepted
record IsThere (w : Parts) (name : Name) : Type 0 where
  place : ℕ
  member : Member
  is_place : router_place (name_text name) w ≡ Some place
  is_member : slice_get w.members place ≡ Some member

named_there : (w : Parts) (event : WEvent) (name : Name) → named_by event ≡ Some name → refusal w event ≡ None → IsThere w name
named_there w event name named accepted =
    let (m, found) = router_found w event name named accepted in
    let (i, is_place, is_member) = place_of_found (is_named (name_text name)) w.members m found in
    record { place = i; member = m; is_place = is_place; is_member = is_member }

-- ---- without words

module _ (event : WEvent) (w : Parts) (accepted : refusal w event ≡ None) (given : IsGiven event w) where
  abbrev traced : List ℕ → Traced
  traced words = record { event = event; words = words }

  -- what an event does without a word
  quiet_step : (between : Parts) → DoesAt event (routed event) [] [] w between → HasAStep event w
  unfolding HasAStep
  quiet_step between does stream none =
      none (record { words = []; notes = []; world = entered (traced []) between }) (
        record { accepted = accepted; in_range = given.in_range; fits = given.fits; between = between; does = does; gives = refl },
        λ i within. absurd (omega (arith, within)),
      )

  -- ---- at a router

  module _ (laws : ExistenceLaws) (sound : IsSoundWorld w) where
    -- what an event does at the router of a place, as the world's event wants it
    at_place : (change : Member → Member) (place : ℕ) (m : Member) (own : PlainEvent) → slice_get w.members place ≡ Some m → IsEventInRange own → IsOfBytes own
        → ((words : List ℕ) (notes : List Note) (between : Parts) → ActsAt change place own words notes w between → (after : Parts) × Step (traced words) notes w after)
        → HasAStep event w
    unfolding HasAStep HasResults
    at_place change place m own is_member fits bytes steps stream =
        let member = all_at (IsSoundMember w.moment) w.members place m is_member sound in
        some_then (laws.event w.moment own m.router member.router member.past fits bytes stream) (λ result happened none.
        let next : State = result.0 in
        let done : Done = result.1 in
        let (after, step) = steps done.words done.notes (acted change place m next done w) (record {
          member = m;
          is_member = is_member;
          next = next;
          done = done;
          happened = happened.0;
          took = refl;
          noted = refl;
          gives = refl;
        }) in
        none (record { words = done.words; notes = done.notes; world = after }) (step, happened.1))

    -- an event at the router of its name
    at_name : (own : Name × PlainEvent) → routed event ≡ Some own → HasAStep event w
    at_name own is =
        let there = named_there w event own.0 (named_routed event own is) accepted in
        let fits : IsEventInRange own.1 = subst FitsAt is given.fits in
        let bytes : IsOfBytes own.1 = subst IsOfBytesAt is given.injected in
        at_place (beside event w) there.place there.member own.1 there.is_member fits bytes (λ words notes between acts. (
          entered (traced words) between,
          record {
            accepted = accepted;
            in_range = given.in_range;
            fits = given.fits;
            between = between;
            does = subst (λ (o : Option (Name × PlainEvent)). DoesAt event o words notes w between) (sym is) (record { place = there.place; is_place = there.is_place; acts = acts });
            gives = refl;
          },
        ))

-- ---- each event

module _ (laws : ExistenceLaws) (w : Parts) (sound : IsSoundWorld w) where
  some_new : (name : Name) (id : NodeId) → refusal w (event.Router name id) ≡ None → IsGiven (event.Router name id) w → HasAStep (event.Router name id) w
  some_new name id accepted given =
      let (router, is_new) = laws.new id (table_limit w.version) w.moment in
      quiet_step (event.Router name id) w accepted given
      (record w {
        members = w.members ++ record { name = name; running = true; router = router; attachments = [] } ∷ [];
        published = w.published ++ record { id = id; number = 1; body = router.own.body } ∷ [];
      })
      (record { router = router; is_new = is_new; quietly = record { took = refl; noted = refl; gives = refl } })

  some_stop : (name : Name) → refusal w (event.Stop name) ≡ None → IsGiven (event.Stop name) w → HasAStep (event.Stop name) w
  some_stop name accepted given =
      let there = named_there w (event.Stop name) name refl accepted in
      quiet_step (event.Stop name) w accepted given (with_member there.place (stopped there.member) w) (record {
        place = there.place;
        member = there.member;
        is_place = there.is_place;
        is_member = there.is_member;
        quietly = record { took = refl; noted = refl; gives = refl };
      })

  some_delivery : (copy : ℕ) → refusal w (event.Deliver copy) ≡ None → IsGiven (event.Deliver copy) w → HasAStep (event.Deliver copy) w
  some_delivery copy accepted given =
      let (mail, found) = is_there (copy_at w copy) (accepts w (event.Deliver copy) accepted).copy in
      let (m, is_member) = receiver_found w copy mail accepted found in
      at_place (event.Deliver copy) w accepted given laws sound (λ m. m) mail.to.place m
      (Arrive (record { endpoint = mail.to.endpoint; from = mail.from; multicast = mail.multicast }) mail.bytes) is_member tt (given.mail mail found)
      (λ words notes between acts. (
        entered (record { event = event.Deliver copy; words = words }) (taken copy mail between),
        record {
          accepted = accepted;
          in_range = given.in_range;
          fits = given.fits;
          between = taken copy mail between;
          does = record { mail = mail; is_copy = (copy_there copy w mail found).1; between = between; acts = acts; gives = refl };
          gives = refl;
        },
      ))

  some_drop : (copy : ℕ) → refusal w (event.Drop copy) ≡ None → IsGiven (event.Drop copy) w → HasAStep (event.Drop copy) w
  some_drop copy accepted given =
      let (mail, found) = is_there (copy_at w copy) (accepts w (event.Drop copy) accepted).copy in
      quiet_step (event.Drop copy) w accepted given (taken copy mail w)
      (record { mail = mail; is_copy = (copy_there copy w mail found).1; quietly = record { took = refl; noted = refl; gives = refl } })

  some_else : (event : WEvent) → routed event ≡ None → refusal w event ≡ None → IsGiven event w → HasAStep event w
  some_else (event.Router name id) none accepted given = some_new name id accepted given
  some_else (event.Link name) none accepted given =
      quiet_step (event.Link name) w accepted given (record w { links = w.links ++ name ∷ [] }) (record { took = refl; noted = refl; gives = refl })
  some_else (event.Stop name) none accepted given = some_stop name accepted given
  some_else (event.Time moment) none accepted given =
      quiet_step (event.Time moment) w accepted given (record w { moment = moment }) (record { took = refl; noted = refl; gives = refl })
  some_else (event.Deliver copy) none accepted given = some_delivery copy accepted given
  some_else (event.Drop copy) none accepted given = some_drop copy accepted given
  some_else _ none accepted given = absurd cc

  some_at : (event : WEvent) (own : Option (Name × PlainEvent)) → routed event ≡ own → refusal w event ≡ None → IsGiven event w → HasAStep event w
  some_at event None is accepted given = some_else event is accepted given
  some_at event (Some own) is accepted given = at_name event w accepted given laws sound own is

pub some_step : ExistenceLaws → StepExists
some_step laws event w sound accepted given = some_at laws w sound event (routed event) refl accepted given
