-- An event that a world accepts happens at a router that runs.
use Rattle.hn_base.proofs.Names.{◌≡◌, ◌∙◌, ◌-◌, ◌≤◌, ℕ, zero, suc, Bool, true, false, cond, not, nat_lt, List, [], ◌∷◌, length, position, Option, Some, None, slice_get, refl, sym, ap, subst, ◌==◌}
use Rattle.hn_base.proofs.Names.{◌||◌, ◌&&◌, nat_le, is_none, position_or_len, option_and_then, ltb-false, find_at, same_Some, name_text}
use Rattle.hn_audit.proofs.Names.{find, IsTrue, Name, MailCopy, WEvent, Member, Parts, is_named, first_code, refusal}
use Rattle.hn_world.specs.declared.event.WEvent.TheVariants as event
use Rattle.hn_world.specs.Names.{router_place}
use Rattle.hn_world.specs.Refusal.{acting, copy_at, goes_back, is_full_of_mail, is_stopped, joins_twice, lacks_a_copy}
use Rattle.hn_world.specs.Refusal.{lacks_room, lacks_the_endpoint, may_answer, may_not_address, names_nothing, so_of, takes_a_name}

position_is : {A : Type 0} (p : A → Bool) (xs : List A) (i : ℕ) → position p xs ≡ Some i → position_or_len p xs ≡ i
position_is p xs i found = by_test (nat_lt (position_or_len p xs) (length xs)) found
  where
    by_test : (b : Bool) → ◌≡◌ {A = Option ℕ} (cond b (Some (position_or_len p xs)) None) (Some i) → position_or_len p xs ≡ i
    by_test true e = cc
    by_test false e = absurd cc

found_at : {A : Type 0} (p : A → Bool) (xs : List A) (i : ℕ) (x : A) → position p xs ≡ Some i → slice_get xs i ≡ Some x → find p xs ≡ Some x
found_at p xs i x found at = find_at p xs ∙ ap (slice_get xs) (position_is p xs i found) ∙ at

-- where there is no code, the condition of each code fails
abbrev conditions : WEvent → Parts → Option Member → List (ℕ × Bool)
conditions event w router =
    (7, names_nothing event w router) ∷
    (8, takes_a_name event w) ∷
    (12, is_stopped event router) ∷
    (11, lacks_the_endpoint event w router) ∷
    (19, may_not_address event router) ∷
    (14, joins_twice event w router) ∷
    (13, lacks_a_copy event w) ∷
    (10, goes_back event w) ∷
    (9, lacks_room event w router || nat_le 1000000 (length w.trace)) ∷
    (16, may_answer event && is_full_of_mail w) ∷ []

each_fails : (cs : List (ℕ × Bool)) → first_code cs ≡ None → (k : ℕ) (c : ℕ × Bool) → slice_get cs k ≡ Some c → c.1 ≡ false
each_fails [] none k c at = absurd cc
each_fails ((n, true) ∷ cs) none k c at = absurd cc
each_fails ((n, false) ∷ cs) none zero c at = ap (λ (x : ℕ × Bool). x.1) (sym (same_Some (n, false) c at))
each_fails ((n, false) ∷ cs) none (suc k) c at = each_fails cs none k c at

it_runs : (m : Member) → so_of (λ m. not m.running) (Some m) ≡ false → IsTrue m.running
it_runs m is = by m.running is
  where
    by : (b : Bool) → not b ≡ false → b ≡ true
    by true e = refl
    by false e = absurd cc

-- where it is accepted, its router is not stopped
not_stopped : (event : WEvent) (w : Parts) → refusal w event ≡ None → is_stopped event (acting event w) ≡ false
not_stopped event w accepted = each_fails (conditions event w (acting event w)) accepted 2 (12, is_stopped event (acting event w)) refl

-- a router that ticks runs
pub ticks_running : (name : Name) (w : Parts) (place : ℕ) (m : Member) → refusal w (event.Tick name) ≡ None → router_place (name_text name) w ≡ Some place
    → slice_get w.members place ≡ Some m → IsTrue m.running
ticks_running name w place m accepted found at =
    let here : acting (event.Tick name) w ≡ Some m = found_at (is_named (name_text name)) w.members place m found at in
    it_runs m (subst (λ (o : Option Member). is_stopped (event.Tick name) o ≡ false) here (not_stopped (event.Tick name) w accepted))

-- and so does one to which a copy is delivered
pub receives_running : (copy : ℕ) (w : Parts) (mail : MailCopy) (m : Member) → refusal w (event.Deliver copy) ≡ None → slice_get w.copies (copy - 1) ≡ Some mail
    → slice_get w.members mail.to.place ≡ Some m → IsTrue m.running
receives_running copy w mail m accepted found at =
    let is_some : is_none (copy_at w copy) ≡ false = each_fails (conditions (event.Deliver copy) w (acting (event.Deliver copy) w)) accepted 6 (13, lacks_a_copy (event.Deliver copy) w) refl in
    let there : copy_at w copy ≡ Some mail = by_zero (copy == 0) is_some in
    let here : acting (event.Deliver copy) w ≡ Some m = ap (option_and_then (λ (c : MailCopy). slice_get w.members c.to.place)) there ∙ at in
    it_runs m (subst (λ (o : Option Member). is_stopped (event.Deliver copy) o ≡ false) here (not_stopped (event.Deliver copy) w accepted))
  where
    by_zero : (b : Bool) → is_none (cond b None (slice_get w.copies (copy - 1))) ≡ false → cond b None (slice_get w.copies (copy - 1)) ≡ Some mail
    by_zero true e = absurd cc
    by_zero false e = found

-- time does not go back
pub time_goes_on : (moment : ℕ) (w : Parts) → refusal w (event.Time moment) ≡ None → w.moment ≤ moment
time_goes_on moment w accepted =
    ltb-false moment w.moment (each_fails (conditions (event.Time moment) w (acting (event.Time moment) w)) accepted 7 (10, goes_back (event.Time moment) w) refl)
