-- The set of a router in a world: who is in it.
use Rattle.hn_base.proofs.Names.{◌≡◌, ◌≤◌, ◌<◌, ◌+◌, ℕ, true, false, Bool, IsTrue, Contains, List, length, take, get_or, Option, Some, refl, subst, sym, ◌∙◌, list_any, option_map_or, and_parts}
use Rattle.hn_base.proofs.Names.{eqb-true, eq-eqb, take_all, All-contains, All-more, Contains-get_or}
use Rattle.hn_lab.proofs.Names.{◌==◌, All, ◌↔◌, all_of, found_passes, same_node, NodeId, ViewIsNetwork, EntriesAreAsKnown, State, IsRouter, Member, Parts, is_named, member_named}
use Rattle.hn_lab.proofs.Names.{WorldIsSound, IsReplayed, IsSoundMember, SettledSeeEachOther, IsRunning, IsReached, is_in_set, IsSettledByRules}
use Rattle.std.proofs.Common.{◌&&◌}
use Rattle.std.specs.List.{filter}
use Rattle.hn_base.proofs.AscendingLists.{Contains-from_map}
use Rattle.hn_base.proofs.Elements.{any_from, any_of, from_filter_map}
use Rattle.hn_data.specs.declared.view.Entry.{Entry}
use Rattle.hn_rules.specs.Nodes.{entry_of, view_of}
use Rattle.hn_audit.specs.Laws.{SeesTheSet}
use Rattle.hn_audit.specs.Reached.{runs}

-- a router reaches itself
reaches_itself : ViewIsNetwork → EntriesAreAsKnown → (s : State) → IsRouter s → Contains s.reach s.id
reaches_itself network entries s router =
    let there = Contains-from_map (λ (n : Entry). n.id.0) (view_of s) s.id.0 (network s router).own_is_there in
    let from = from_filter_map (entry_of s) s.reach there.0 there.1 in
    let same : from.0 ≡ s.id = sym (entries.named s from.0 there.0 from.2) ∙ same_node there.0.id s.id there.2 in
    subst (Contains s.reach) same from.1

-- what is known of a settled router of a replayed world
pub record IsKnown (w : Parts) (r : Member) : Type 0 where
  pub sound : WorldIsSound
  pub see : SettledSeeEachOther
  pub replayed : IsReplayed w
  pub runs : IsRunning w r
  pub settled : IsSettledByRules w r

-- each of its set is a router, and sees the others as they are
pub router_of : (w : Parts) (r : Member) → IsKnown w r → (s : Member) → IsReached w r s → IsRouter s.router
router_of w r known s s_in = (All-contains (IsSoundMember w.moment) w.members s (known.sound w known.replayed) s_in.runs.there).router

pub seen_of : (w : Parts) (r : Member) → IsKnown w r → (s : Member) → IsReached w r s → SeesTheSet w r s
seen_of w r known s s_in = known.see w r s known.replayed known.runs known.settled s_in

-- a running router is of its set
pub itself : ViewIsNetwork → EntriesAreAsKnown → (w : Parts) (r : Member) → IsKnown w r → IsReached w r r
itself network entries w r known =
    let router : IsRouter r.router = (All-contains (IsSoundMember w.moment) w.members r (known.sound w known.replayed) known.runs.there).router in
    record { runs = known.runs; reached = reaches_itself network entries r.router router }

and_true : (a b : Bool) → a ≡ true → b ≡ true → (a && b) ≡ true
and_true a b e f = rw (e, f) refl

-- a router is in the set if and only if it runs and is reached
pub in_set : (reach : List NodeId) (m : Member) → IsTrue (is_in_set reach m) ↔ (IsTrue m.running × Contains reach m.router.id)
in_set reach m = (
  λ h.
      let parts = and_parts m.running (list_any (λ id. id.0 == m.router.id.0) reach) h in
      let found = any_of (λ (id : NodeId). id.0 == m.router.id.0) reach parts.1 in
      (parts.0, subst (Contains reach) (same_node found.0 m.router.id (eqb-true found.0.0 m.router.id.0 found.2)) found.1),
  λ h. and_true m.running (list_any (λ id. id.0 == m.router.id.0) reach) h.0 (any_from (λ (id : NodeId). id.0 == m.router.id.0) reach m.router.id h.1 (eq-eqb m.router.id.0 m.router.id.0 refl)),
)

pub reached_of : (w : Parts) (r m : Member) → Contains w.members m → IsTrue (is_in_set r.router.reach m) → IsReached w r m
reached_of w r m there h =
    let parts = (in_set r.router.reach m).0 h in
    record { runs = record { there = there; running = parts.0 }; reached = parts.1 }

-- what holds of each in the set, asked one after another, holds of each that is reached
pub of_each_reached : (P : Member → Type 0) (w : Parts) (r : Member) → All (λ m. IsTrue (is_in_set r.router.reach m) → P m) w.members ↔ ((s : Member) → IsReached w r s → P s)
of_each_reached P w r = (
  λ all s s_in. All-contains (λ m. IsTrue (is_in_set r.router.reach m) → P m) w.members s all s_in.runs.there ((in_set r.router.reach s).1 (s_in.runs.running, s_in.reached)),
  λ each. all_of (λ m. IsTrue (is_in_set r.router.reach m) → P m) w.members (λ m there h. each m (reached_of w r m there h)),
)

-- the answer to that question
pub answers_of : (P : Member → Type 0) (w : Parts) (r : Member) (answer : Bool) (reach : List NodeId) (members : List Member) → reach ≡ r.router.reach → members ≡ w.members
    → IsTrue answer ↔ All (λ s. IsTrue (is_in_set reach s) → P s) members → IsTrue answer ↔ ((s : Member) → IsReached w r s → P s)
answers_of P w r answer reach members reach_is members_are is =
    let by_reach = subst (λ (ids : List NodeId). IsTrue answer ↔ All (λ s. IsTrue (is_in_set ids s) → P s) members) reach_is is in
    let by_members = subst (λ (ms : List Member). IsTrue answer ↔ All (λ s. IsTrue (is_in_set r.router.reach s) → P s) ms) members_are by_reach in
    let law = of_each_reached P w r in
    (λ yes. law.0 (by_members.0 yes), λ each. by_members.1 (law.1 each))

-- the list of its set
pub list_of : (P : List Member → Type 0) (w : Parts) (r : Member) (reach : List NodeId) (members : List Member) → reach ≡ r.router.reach → members ≡ w.members
    → P (filter (is_in_set reach) members) → P (filter (is_in_set r.router.reach) w.members)
list_of P w r reach members reach_is members_are h =
    subst (λ (ms : List Member). P (filter (is_in_set r.router.reach) ms)) members_are (subst (λ (ids : List NodeId). P (filter (is_in_set ids) members)) reach_is h)

pub named_runs : (name : List ℕ) (w : Parts) (m : Member) → IsTrue (runs name w) → member_named name w ≡ Some m → IsRunning w m
named_runs name w m is at = record {
  there = (found_passes (is_named name) w.members m at).0;
  running = subst (λ (o : Option Member). IsTrue (option_map_or (λ n. n.running) o false)) at is;
}

-- ---- members that are asked one after another

module _ (P : Member → Type 0) (members : List Member) (index : ℕ) where
  -- not all are so where one is not
  pub one_is_not : (m : Member) (answer : Bool) → m ≡ get_or members index m → index < length members → answer ≡ false → IsTrue answer ↔ P m → IsTrue false ↔ All P members
  one_is_not m answer at within refused is =
      let there = subst (Contains members) (sym at) (Contains-get_or members index m within) in
      (λ yes. absurd cc, λ all. sym refused ∙ is.1 (All-contains P members m all there))

  -- so far all are, and the next one is
  pub one_more : (m : Member) (answer : Bool) → m ≡ get_or members index m → index < length members → IsTrue answer → IsTrue answer ↔ P m
      → All P (take index members) → All P (take (index + 1) members)
  one_more m answer at within answered is so_far = All-more P members index m within so_far (subst P at (is.0 answered))

  -- all are
  pub all_are : All P (take index members) → length members ≤ index → IsTrue true ↔ All P members
  all_are so_far end = (λ yes. subst (All P) (take_all index members end) so_far, λ all. refl)
