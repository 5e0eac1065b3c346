-- What an accepted event says.
use Rattle.hn_base.proofs.Names.{◌≡◌, ◌∙◌, ◌<◌, ℕ, Bool, true, false, [], ◌∷◌, Option, None, Some, length, slice_get, refl, sym, ap, subst, is_none, ◌&&◌, ◌||◌, option_and_then, leb-false, or_parts}
use Rattle.hn_base.proofs.Names.{name_text}
use Rattle.hn_world.proofs.Names.{is_some, Name, MailCopy, WEvent, Member, Parts, member_named, copy_at, refusal, named_by}
use Rattle.std.proofs.Common.{nat_le}
use Rattle.hn_world.specs.declared.event.WEvent.TheVariants as event
use Rattle.hn_world.specs.Refusal.{names_nothing, takes_a_name, is_stopped, lacks_the_endpoint, may_not_address, joins_twice, lacks_a_copy, goes_back, lacks_room, may_answer, is_full_of_mail}
use Rattle.hn_world.specs.Refusal.{acting, first_code}

-- where no code comes, no condition holds
none_holds : (unknown named stopped detached unlisted joined lost past full mail : Bool)
    → first_code ((7, unknown) ∷ (8, named) ∷ (12, stopped) ∷ (11, detached) ∷ (19, unlisted) ∷ (14, joined) ∷ (13, lost) ∷ (10, past) ∷ (9, full) ∷ (16, mail) ∷ []) ≡ None
    → (unknown ≡ false) × (named ≡ false) × (stopped ≡ false) × (detached ≡ false) × (unlisted ≡ false) × (joined ≡ false) × (lost ≡ false) × (past ≡ false) × (full ≡ false)
none_holds true named stopped detached unlisted joined lost past full mail none = absurd cc
none_holds false true stopped detached unlisted joined lost past full mail none = absurd cc
none_holds false false true detached unlisted joined lost past full mail none = absurd cc
none_holds false false false true unlisted joined lost past full mail none = absurd cc
none_holds false false false false true joined lost past full mail none = absurd cc
none_holds false false false false false true lost past full mail none = absurd cc
none_holds false false false false false false true past full mail none = absurd cc
none_holds false false false false false false false true full mail none = absurd cc
none_holds false false false false false false false false true mail none = absurd cc
none_holds false false false false false false false false false true none = absurd cc
none_holds false false false false false false false false false false none = (refl, refl, refl, refl, refl, refl, refl, refl, refl)

-- no condition holds of the event and its router
pub record Accepts (w : Parts) (event : WEvent) (router : Option Member) : Type 0 where
  pub known : names_nothing event w router ≡ false
  pub free : takes_a_name event w ≡ false
  pub runs : is_stopped event router ≡ false
  pub endpoint : lacks_the_endpoint event w router ≡ false
  pub listed : may_not_address event router ≡ false
  pub apart : joins_twice event w router ≡ false
  pub copy : lacks_a_copy event w ≡ false
  pub forward : goes_back event w ≡ false
  pub room : lacks_room event w router ≡ false
  pub few : nat_le 1000000 (length w.trace) ≡ false

pub accepts : (w : Parts) (event : WEvent) → refusal w event ≡ None → Accepts w event (acting event w)
accepts w event accepted =
    let r = acting event w in
    let room = lacks_room event w r in
    let few = nat_le 1000000 (length w.trace) in
    let (known, free, runs, endpoint, listed, apart, copy, forward, full) = none_holds
    (names_nothing event w r) (takes_a_name event w) (is_stopped event r) (lacks_the_endpoint event w r) (may_not_address event r) (joins_twice event w r) (lacks_a_copy event w)
    (goes_back event w) (room || few) (may_answer event && is_full_of_mail w) accepted in
    let parts = or_parts room few full in
    record {
      known = known;
      free = free;
      runs = runs;
      endpoint = endpoint;
      listed = listed;
      apart = apart;
      copy = copy;
      forward = forward;
      room = parts.0;
      few = parts.1;
    }

-- where the router is known
pub accepts_at : (w : Parts) (event : WEvent) (m : Member) → acting event w ≡ Some m → refusal w event ≡ None → Accepts w event (Some m)
accepts_at w event m found accepted = subst (λ (o : Option Member). Accepts w event o) found (accepts w event accepted)

-- there is room for one more event
pub fewer_events : (w : Parts) (event : WEvent) → refusal w event ≡ None → length w.trace < 1000000
fewer_events w event accepted = leb-false 1000000 (length w.trace) (accepts w event accepted).few

pub is_there : {A : Type 0} (o : Option A) → is_none o ≡ false → (x : A) × (o ≡ Some x)
is_there None there = absurd cc
is_there (Some x) there = (x, refl)

-- the router that an event names
acting_is : (w : Parts) (event : WEvent) (name : Name) → named_by event ≡ Some name → acting event w ≡ member_named (name_text name) w
acting_is w (event.Deliver copy) name named = absurd cc
acting_is w _ name named = ap (option_and_then (λ (n : Name). member_named (name_text n) w)) named

known_of : (w : Parts) (event : WEvent) (router : Option Member) (name : Name) → named_by event ≡ Some name → names_nothing event w router ≡ false → is_none router ≡ false
known_of w (event.Attach n endpoint link) router name named known = (or_parts (is_none router) _ known).0
known_of w (event.Router n id) router name named known = absurd cc
known_of w (event.Link n) router name named known = absurd cc
known_of w (event.Time moment) router name named known = absurd cc
known_of w (event.Deliver copy) router name named known = absurd cc
known_of w (event.Drop copy) router name named known = absurd cc
known_of w _ router name named known = known

pub router_found : (w : Parts) (event : WEvent) (name : Name) → named_by event ≡ Some name → refusal w event ≡ None
    → (m : Member) × (member_named (name_text name) w ≡ Some m)
router_found w event name named accepted =
    let (m, is) = is_there (acting event w) (known_of w event (acting event w) name named (accepts w event accepted).known) in
    (m, sym (acting_is w event name named) ∙ is)

-- the router to which a copy goes
pub receiver_found : (w : Parts) (copy : ℕ) (c : MailCopy) → refusal w (event.Deliver copy) ≡ None → copy_at w copy ≡ Some c
    → (m : Member) × (slice_get w.members c.to.place ≡ Some m)
receiver_found w copy c accepted found =
    let nowhere = λ (o : Option MailCopy). is_some o && is_none (option_and_then (λ (c : MailCopy). slice_get w.members c.to.place) o) in
    is_there (slice_get w.members c.to.place) (sym (ap nowhere found) ∙ (accepts w (event.Deliver copy) accepted).known)
