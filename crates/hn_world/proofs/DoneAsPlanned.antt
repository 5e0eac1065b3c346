-- What was planned, and then done, is the event.
use Rattle.hn_base.proofs.Names.{option_map, ◌≡◌, ◌∙◌, ℕ, ◌^◌, ◌<◌, ◌≤◌, ◌-◌, Bool, true, false, cond, List, [], ◌∷◌, ◌++◌, length, get_or, Option, Some, None, slice_get, slice_set, refl, sym, subst}
use Rattle.hn_base.proofs.Names.{ap, arith, append-nil, slice_get_within, slice_get-get_or, common_steps, name_text, Drew}
use Rattle.hn_world.proofs.Names.{◌==◌, none_passes, NodeId, Name, PlainEvent, Arrive, Tick, IsEventInRange, Happened, nothing, after_passing, at_moment, Note, Publication, State, MailCopy, WEvent}
use Rattle.hn_world.proofs.Names.{Traced, Member, Parts, table_limit, is_named, router_place, member_named, IsPlanned, refusal, copy_at, IsSoundWorld, IsSoundMember, routed, named_by, place_by}
use Rattle.hn_world.proofs.Names.{ActsAt, RouterActs, DoesAt, Step, IsStep, IsWorldEventInRange, FitsAt, acted, beside, entered, with_member, stopped, taken}
use Rattle.std.specs.Prelude.{IfSome}
use Rattle.hn_base.proofs.FrontOfList.{find-none}
use Rattle.hn_rules.specs.declared.arrival.passing.Passing.{Passing}
use Rattle.hn_router.specs.New.{IsNew}
use Rattle.hn_router.specs.Plan.{PlainPlan}
use Rattle.hn_world.specs.declared.event.WEvent.TheVariants as event
use Rattle.hn_world.specs.Planned.{LetsCopyPass}
use Rattle.hn_world.proofs.Accepted.{accepts, is_there, receiver_found}
use Rattle.hn_world.proofs.ElementAtPlace.{got_front, within, found_at}
use Rattle.hn_world.proofs.SoundRouters.{all_at}

-- the name in a route
abbrev name_in : Option (Name × PlainEvent) → Option Name
name_in own = option_map (λ o. o.0) own

-- ---- what an accepted event finds

-- an event at a router names that router
pub named_routed : (t : WEvent) (own : Name × PlainEvent) → routed t ≡ Some own → named_by t ≡ Some own.0
named_routed (event.Stop name) own is = absurd cc
named_routed _ own is = ap name_in is

-- the router of a name, where its place is known
pub named_at : (name : List ℕ) (w : Parts) (place : ℕ) (m : Member) → router_place name w ≡ Some place → slice_get w.members place ≡ Some m → member_named name w ≡ Some m
named_at name w place m found at = found_at (is_named name) w.members place m found at

pub named_nowhere : (name : List ℕ) (w : Parts) → router_place name w ≡ None → member_named name w ≡ None
named_nowhere name w none = find-none (is_named name) w.members (none_passes (is_named name) w.members none)

pub router_within : (name : List ℕ) (w : Parts) (place : ℕ) → router_place name w ≡ Some place → place < length w.members
router_within name w place found = within (is_named name) w.members place found

pub named_within : (name : Option Name) (w : Parts) (place : ℕ) → place_by name w ≡ Some place → place < length w.members
named_within None w place found = absurd cc
named_within (Some name) w place found = router_within (name_text name) w place found

-- and it is no later than the world
pub router_past : (w : Parts) (place : ℕ) → IsSoundWorld w → (m : Member) → slice_get w.members place ≡ Some m → m.router.moment ≤ w.moment
router_past w place sound m at = (all_at (IsSoundMember w.moment) w.members place m at sound).past

-- ---- an event at a router

-- what is finished, of what was planned
abbrev pub IsFinished : WEvent → (Member → Member) → ℕ → Parts → PlainPlan → Parts → Type 0
IsFinished event change place before plan after =
    (m : Member) → slice_get before.members place ≡ Some m
    → after ≡ entered (record { event = event; words = plan.done.words }) (acted change place m plan.state plan.done before)

module _ (change : Member → Member) (place : ℕ) (event : PlainEvent) (told told_after : Option (ℕ → ℕ)) (before : Parts) (plan : PlainPlan)
    (h : IsPlanned place event told told_after before plan) where
  -- the world after it
  abbrev did : Parts
  did = acted change place h.member plan.state plan.done before

  -- its next router
  abbrev next_member : Member
  next_member = record h.member { router = plan.state }

  finished : (t : WEvent) (after : Parts) → IsFinished t change place before plan after → after ≡ entered (record { event = t; words = plan.done.words }) did
  finished t after gives = gives h.member h.is_member

  -- what changes beside it may be said in another way
  acts_at : (to : Member → Member) (notes : List Note) → change next_member ≡ to next_member → notes ≡ plan.done.notes → ActsAt to place event plan.done.words notes before did
  acts_at to notes same noted = record {
    member = h.member;
    is_member = h.is_member;
    next = plan.state;
    done = plan.done;
    happened = h.happened;
    took = refl;
    noted = noted;
    gives = ap (λ (m : Member). record did { members = slice_set before.members place m }) same;
  }

  pub acted_step : (t : WEvent) (name : Name) (after : Parts) (notes : List Note) → refusal before t ≡ None → IsWorldEventInRange t → IsEventInRange event
      → routed t ≡ Some (name, event) → place_by (named_by t) before ≡ Some place
      → change next_member ≡ beside t before next_member → IsFinished t change place before plan after → notes ≡ plan.done.notes → IsStep t notes told told_after before after
  acted_step t name after notes accepted in_range fits is found same gives noted =
      let named : place_by (named_by t) before ≡ router_place (name_text name) before = ap (λ (o : Option Name). place_by o before) (named_routed t (name, event) is) in
      let acts : RouterActs (beside t before) name event plan.done.words notes before did = record { place = place; is_place = sym named ∙ found; acts = acts_at (beside t before) notes same noted } in
      record {
        words = plan.done.words;
        step = record {
          accepted = accepted;
          in_range = in_range;
          fits = subst FitsAt (sym is) fits;
          between = did;
          does = subst (λ (own : Option (Name × PlainEvent)). DoesAt t own plan.done.words notes before did) (sym is) acts;
          gives = finished t after gives;
        };
        drew = h.drew;
      }

-- ---- a copy

-- the copy of a number stands before it
pub copy_there : (copy : ℕ) (w : Parts) (c : MailCopy) → copy_at w copy ≡ Some c → (0 < copy) × (slice_get w.copies (copy - 1) ≡ Some c)
copy_there copy w c found = by_test (copy == 0) refl found
  where
    by_test : (b : Bool) → copy == 0 ≡ b → cond b None (slice_get w.copies (copy - 1)) ≡ Some c → (0 < copy) × (slice_get w.copies (copy - 1) ≡ Some c)
    by_test true is e = absurd cc
    by_test false is e = (grind (arith, common_steps), e)

-- and there is the router that it goes to
pub receiver_within : (copy : ℕ) (w : Parts) (c : MailCopy) → refusal w (event.Deliver copy) ≡ None → copy_at w copy ≡ Some c → c.to.place < length w.members
receiver_within copy w c accepted found = let m = receiver_found w copy c accepted found in slice_get_within w.members c.to.place m.0 m.1

abbrev pub arrival_of : MailCopy → PlainEvent
arrival_of c = Arrive (record { endpoint = c.to.endpoint; from = c.from; multicast = c.multicast }) c.bytes

module _ (copy : ℕ) (c : MailCopy) (told told_after : Option (ℕ → ℕ)) (before after : Parts) (plan : PlainPlan) (at : copy_at before copy ≡ Some c)
    (h : IsPlanned c.to.place (arrival_of c) told told_after before plan)
    (gives : IsFinished (event.Deliver copy) (λ m. m) c.to.place before plan after) where
  abbrev done : Parts
  done = did (λ m. m) c.to.place (arrival_of c) told told_after before plan h

  -- the copy stands where it stood
  stays_there : slice_get after.copies (copy - 1) ≡ Some c
  stays_there =
      let world = finished (λ m. m) c.to.place (arrival_of c) told told_after before plan h (event.Deliver copy) after gives in
      ap (λ (w : Parts). slice_get w.copies (copy - 1)) world ∙ got_front before.copies _ (copy - 1) c (copy_there copy before c at).1

  pub stays_within : copy - 1 < length after.copies
  stays_within = slice_get_within after.copies (copy - 1) c stays_there

  pub delivered_step : (copies : List MailCopy) (notes : List Note) → refusal before (event.Deliver copy) ≡ None → notes ≡ plan.done.notes
      → ((d : MailCopy) → slice_get after.copies (copy - 1) ≡ Some d → copies ≡ slice_set after.copies (copy - 1) (record d { waiting = false }))
      → IsStep (event.Deliver copy) notes told told_after before (record after { copies = copies })
  delivered_step copies notes accepted noted takes =
      let world = finished (λ m. m) c.to.place (arrival_of c) told told_after before plan h (event.Deliver copy) after gives in
      record {
        words = plan.done.words;
        step = record {
          accepted = accepted;
          in_range = tt;
          fits = tt;
          between = taken copy c done;
          does = record {
            mail = c;
            is_copy = (copy_there copy before c at).1;
            between = done;
            acts = acts_at (λ m. m) c.to.place (arrival_of c) told told_after before plan h (λ m. m) notes refl noted;
            gives = refl;
          };
          gives = ap (λ (cs : List MailCopy). record after { copies = cs }) (takes c stays_there)
              ∙ ap (λ (w : Parts). record w { copies = slice_set w.copies (copy - 1) (record c { waiting = false }) }) world;
        };
        drew = h.drew;
      }

-- ---- an event that takes no words

-- the router at a place
pub there : {A : Type 0} (xs : List A) (i : ℕ) → i < length xs → (x : A) × (slice_get xs i ≡ Some x)
there [] i lt = absurd (omega arith)
there (x ∷ xs) i lt = (get_or (x ∷ xs) i x, slice_get-get_or (x ∷ xs) i x lt)

pub quiet_step : (t : WEvent) (notes : List Note) (told : Option (ℕ → ℕ)) (before after : Parts)
    → Step (record { event = t; words = [] }) [] before after → notes ≡ [] → IsStep t notes told told before after
quiet_step t notes told before after step none = record {
  words = [];
  step = subst (λ (ns : List Note). Step (record { event = t; words = [] }) ns before after) (sym none) step;
  drew = λ words. subst (λ (after : List ℕ). Drew told words told after) (sym (append-nil words)) (λ stream at. at);
}

-- a new router, where the world before it was opened
pub begun_step : (name : Name) (id : NodeId) (opened before : Parts) (limit now : ℕ) (router : State) (m : Member) (p : Publication)
    (members : List Member) (published : List Publication) (trace : List Traced) (t : Traced) → opened ≡ before
    → refusal before (event.Router name id) ≡ None → id.0 < 2 ^ 32 → limit ≡ table_limit opened.version → now ≡ opened.moment → IsNew id limit now router
    → m ≡ record { name = name; running = true; router = router; attachments = [] } → p ≡ record { id = id; number = 1; body = router.own.body }
    → t ≡ record { event = event.Router name id; words = [] }
    → members ≡ opened.members ++ m ∷ [] → published ≡ opened.published ++ p ∷ [] → trace ≡ opened.trace ++ t ∷ []
    → Step (record { event = event.Router name id; words = [] }) [] before (record opened { members = members; published = published; trace = trace })
begun_step name id opened before limit now router m p members published trace t same accepted fits sized at new is_member is_publication is_event joined added is_entered =
    let sized_new = subst (λ (l : ℕ). IsNew id l now router) sized new in
    let new_now = subst (λ (n : ℕ). IsNew id (table_limit opened.version) n router) at sized_new in
    record {
      accepted = accepted;
      in_range = fits;
      fits = tt;
      between = record before {
        members = before.members ++ record { name = name; running = true; router = router; attachments = [] } ∷ [];
        published = before.published ++ record { id = id; number = 1; body = router.own.body } ∷ [];
      };
      does = record {
        router = router;
        is_new = subst (λ (w : Parts). IsNew id (table_limit w.version) w.moment router) same new_now;
        quietly = record { took = refl; noted = refl; gives = refl };
      };
      gives =
          rw (joined, added, is_entered, is_member, is_publication, is_event)
          (ap (λ (w : Parts). record w {
            members = w.members ++ record { name = name; running = true; router = router; attachments = [] } ∷ [];
            published = w.published ++ record { id = id; number = 1; body = router.own.body } ∷ [];
            trace = w.trace ++ record { event = event.Router name id; words = [] } ∷ [];
          }) same);
    }

pub dropped_step : (copy : ℕ) (before : Parts) (copies : List MailCopy) (trace : List Traced) (t : Traced) → refusal before (event.Drop copy) ≡ None
    → t ≡ record { event = event.Drop copy; words = [] } → trace ≡ before.trace ++ t ∷ []
    → ((d : MailCopy) → slice_get before.copies (copy - 1) ≡ Some d → copies ≡ slice_set before.copies (copy - 1) (record d { waiting = false }))
    → Step (record { event = event.Drop copy; words = [] }) [] before (record before { copies = copies; trace = trace })
dropped_step copy before copies trace t accepted is_event entered takes =
    let c = is_there (copy_at before copy) (accepts before (event.Drop copy) accepted).copy in
    let at = (copy_there copy before c.0 c.1).1 in
    record {
      accepted = accepted;
      in_range = tt;
      fits = tt;
      between = taken copy c.0 before;
      does = record { mail = c.0; is_copy = at; quietly = record { took = refl; noted = refl; gives = refl } };
      gives = rw (takes c.0 at, entered, is_event) refl;
    }

-- a tick before something is due
pub passed_step : (name : Name) (place : ℕ) (before : Parts) (m : Member) (members : List Member) (trace : List Traced) (t : Traced) (notes : List Note) (told : Option (ℕ → ℕ))
    → refusal before (event.Tick name) ≡ None
    → router_place (name_text name) before ≡ Some place → slice_get before.members place ≡ Some m → Happened before.moment Tick m.router (at_moment before.moment m.router) nothing
    → members ≡ slice_set before.members place (record m { router = at_moment before.moment m.router })
    → t ≡ record { event = event.Tick name; words = [] } → trace ≡ before.trace ++ t ∷ [] → notes ≡ []
    → IsStep (event.Tick name) notes told told before (record before { members = members; trace = trace })
passed_step name place before m members trace t notes told accepted found at happened moved is_event is_entered none =
    let entry : Traced = record { event = event.Tick name; words = [] } in
    let next : State = at_moment before.moment m.router in
    let between : Parts = acted (λ n. n) place m next nothing before in
    let quiet : Parts = record before { members = slice_set before.members place (record m { router = next }); trace = before.trace ++ entry ∷ [] } in
    let first : record before { members = members; trace = trace } ≡ quiet = rw (moved, is_entered, is_event) refl in
    let second : quiet ≡ entered entry between = λ i. record quiet { copies = sym (append-nil before.copies) i; published = sym (append-nil before.published) i } in
    let step : Step entry [] before (record before { members = members; trace = trace }) = record {
      accepted = accepted;
      in_range = tt;
      fits = tt;
      between = between;
      does = record {
        place = place;
        is_place = found;
        acts = record { member = m; is_member = at; next = next; done = nothing; happened = happened; took = refl; noted = refl; gives = refl };
      };
      gives = first ∙ second;
    } in
    quiet_step (event.Tick name) notes told before (record before { members = members; trace = trace }) step none

-- a copy that a router lets pass
pub let_pass_step : (copy : ℕ) (c : MailCopy) (m : Member) (next : State) (before : Parts) (members : List Member) (copies : List MailCopy) (trace : List Traced) (t : Traced)
    → refusal before (event.Deliver copy) ≡ None → copy_at before copy ≡ Some c → slice_get before.members c.to.place ≡ Some m → Happened before.moment (arrival_of c) m.router next nothing
    → members ≡ slice_set before.members c.to.place (record m { router = next })
    → t ≡ record { event = event.Deliver copy; words = [] } → trace ≡ before.trace ++ t ∷ []
    → ((d : MailCopy) → slice_get before.copies (copy - 1) ≡ Some d → copies ≡ slice_set before.copies (copy - 1) (record d { waiting = false }))
    → Step (record { event = event.Deliver copy; words = [] }) [] before (record before { members = members; copies = copies; trace = trace })
let_pass_step copy c m next before members copies trace t accepted at is_member happened moved is_event is_entered takes =
    let entry : Traced = record { event = event.Deliver copy; words = [] } in
    let there = (copy_there copy before c at).1 in
    let gone : MailCopy = record c { waiting = false } in
    let between : Parts = acted (λ n. n) c.to.place m next nothing before in
    let quiet : Parts = record before {
      members = slice_set before.members c.to.place (record m { router = next });
      copies = slice_set before.copies (copy - 1) gone;
      trace = before.trace ++ entry ∷ [];
    } in
    let first : record before { members = members; copies = copies; trace = trace } ≡ quiet = rw (moved, takes c there, is_entered, is_event) refl in
    let second : quiet ≡ entered entry (taken copy c between) =
    λ i. record quiet { copies = slice_set (sym (append-nil before.copies) i) (copy - 1) gone; published = sym (append-nil before.published) i } in
    record {
      accepted = accepted;
      in_range = tt;
      fits = tt;
      between = taken copy c between;
      does = record {
        mail = c;
        is_copy = there;
        between = between;
        acts = record { member = m; is_member = is_member; next = next; done = nothing; happened = happened; took = refl; noted = refl; gives = refl };
        gives = refl;
      };
      gives = first ∙ second;
    }

-- so it is where the world before it was opened
pub let_copy_pass_step : (copy place : ℕ) (passing : Passing) (opened before : Parts) (now : ℕ) (members : List Member) (copies : List MailCopy) (trace : List Traced) (t : Traced)
    → opened ≡ before → refusal before (event.Deliver copy) ≡ None → LetsCopyPass copy place before passing → now ≡ opened.moment
    → ((m : Member) → slice_get opened.members place ≡ Some m → members ≡ slice_set opened.members place (record m { router = after_passing passing now m.router }))
    → t ≡ record { event = event.Deliver copy; words = [] } → trace ≡ opened.trace ++ t ∷ []
    → ((d : MailCopy) → slice_get opened.copies (copy - 1) ≡ Some d → copies ≡ slice_set opened.copies (copy - 1) (record d { waiting = false }))
    → Step (record { event = event.Deliver copy; words = [] }) [] before (record opened { members = members; copies = copies; trace = trace })
let_copy_pass_step copy place passing opened before now members copies trace t same accepted passes is_now moves is_event is_entered takes =
    let here : LetsCopyPass copy place opened passing = subst (λ (w : Parts). LetsCopyPass copy place w passing) (sym same) passes in
    let c = here.mail in
    let m = here.passes.member in
    let next : State = after_passing passing opened.moment m.router in
    let is_member : slice_get opened.members c.to.place ≡ Some m = subst (λ (p : ℕ). slice_get opened.members p ≡ Some m) (sym here.is_place) here.passes.is_member in
    let moved_now : members ≡ slice_set opened.members place (record m { router = next }) =
    subst (λ (n : ℕ). members ≡ slice_set opened.members place (record m { router = after_passing passing n m.router })) is_now (moves m here.passes.is_member) in
    let moved : members ≡ slice_set opened.members c.to.place (record m { router = next }) =
    subst (λ (p : ℕ). members ≡ slice_set opened.members p (record m { router = next })) (sym here.is_place) moved_now in
    let accepted_here = subst (λ (w : Parts). refusal w (event.Deliver copy) ≡ None) (sym same) accepted in
    subst (λ (w : Parts). Step (record { event = event.Deliver copy; words = [] }) [] w (record opened { members = members; copies = copies; trace = trace })) same
    (let_pass_step copy c m next opened members copies trace t accepted_here here.is_copy is_member here.passes.happened moved is_event is_entered takes)

-- what is known of one value twice
pub some_both : {X : Type 0} {P Q R : X → Type 0} (o : Option X) → ((x : X) → P x → Q x → R x) → IfSome o P → IfSome o Q → IfSome o R
some_both None both p q = tt
some_both (Some x) both p q = both x p q

pub stopped_step : (name : Name) (place : ℕ) (before : Parts) (members : List Member) (trace : List Traced) (t : Traced)
    → refusal before (event.Stop name) ≡ None → router_place (name_text name) before ≡ Some place
    → t ≡ record { event = event.Stop name; words = [] } → trace ≡ before.trace ++ t ∷ []
    → ((m : Member) → slice_get before.members place ≡ Some m → members ≡ slice_set before.members place (stopped m))
    → Step (record { event = event.Stop name; words = [] }) [] before (record before { members = members; trace = trace })
stopped_step name place before members trace t accepted found event entered stops =
    let m = there before.members place (router_within (name_text name) before place found) in
    record {
      accepted = accepted;
      in_range = tt;
      fits = tt;
      between = with_member place (stopped m.0) before;
      does = record {
        place = place;
        member = m.0;
        is_place = found;
        is_member = m.1;
        quietly = record { took = refl; noted = refl; gives = refl };
      };
      gives = rw (stops m.0 m.1, entered, event) refl;
    }
