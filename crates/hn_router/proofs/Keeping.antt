-- The moment that a router keeps: no fact of a router looks at it, and where it is after the router's, each tick before it does
-- nothing.
use Rattle.hn_base.proofs.Names.{◌≡◌, ◌∙◌, ◌<◌, ◌≤◌, ℕ, List, inl, inr, refl, sym, ap, subst, slice_index, arith, Begins}
use Rattle.hn_router.proofs.Names.{Delegated, Done, Running, State, nothing, after_passing, IsNextDue, IsIdleTick, RouterStaysLater, IsRouter, IsSole}
use Rattle.hn_router.proofs.Names.{begun_at, at_moment, IsTick, PlainEvent, Tick, IsEvent}
use Rattle.hn_router.proofs.Names.{DidNothing, IsDueAfter, IsKeptRouter}
use Rattle.hn_pair.specs.declared.assigned.Wish.{Wish}
use Rattle.hn_rules.specs.Assigning.{AreAsked}
use Rattle.hn_rules.specs.declared.arrival.passing.Passing.{Passing}
use Rattle.hn_rules.specs.Due.{IsUndueUntil}
use Rattle.hn_rules.specs.Laws.{UndueIsIdle, IdleIsUndue, IdleUntilDue, IdleWhileUndue, NextDueIsOne, PassingKeepsUndue}
use Rattle.hn_rules.specs.Undue.{IsRouterUndue}
use Rattle.hn_router.specs.Act.{Happened}
use Rattle.hn_router.specs.Kept.{IsKeptUntil}

-- ---- no fact of a router looks at it

pub router_due : (due : ℕ) (s : State) → IsRouter s → IsRouter (record s { due = due })
router_due due s is =
    let well = is.well in
    let fresh = is.refreshed in
    record {
      well = record {
        ports = well.ports;
        peers = well.peers;
        table = well.table;
        own = well.own;
        delegated = well.delegated;
        other = well.other;
        pairs = well.pairs;
        addresses = well.addresses;
        posted = record { addressed = well.posted.addressed; of_length = well.posted.of_length; linked = well.posted.linked };
        numbered = record { own = well.numbered.own; held = well.numbered.held; own_id = well.numbered.own_id; held_ids = well.numbered.held_ids };
        past = record { born = well.past.born; ports = well.past.ports; nodes = well.past.nodes; assigned = well.past.assigned };
        ranged = well.ranged;
        private = well.private;
        near = well.near;
      };
      refreshed = record {
        published = fresh.published;
        reached = record {
          moment = fresh.reached.moment;
          past = fresh.reached.past;
          was = record { ascending = fresh.reached.was.ascending; exactly = fresh.reached.was.exactly };
        };
        lost = fresh.lost;
        hashed = fresh.hashed;
      };
    }

-- what it asks is the same
asked_due : (moment due : ℕ) (s : State) (usable : List Delegated) (wishes : List Wish) → AreAsked (at_moment moment s) usable wishes → AreAsked (record s { moment = moment; due = due }) usable wishes
asked_due moment due s usable wishes are = record {
  ascending = are.ascending;
  exact = λ wish. (
    λ there. let for = (are.exact wish).0 there in record { place = for.place; asked = for.asked; post = for.post },
    λ for. (are.exact wish).1 (record { place = for.place; asked = for.asked; post = for.post }),
  );
}

still_due : (now moment due : ℕ) (s : State) → IsRouterUndue now s → IsRouterUndue now (record s { moment = moment; due = due })
still_due now moment due s is = record {
  heard = is.heard;
  lasting = is.lasting;
  young = is.young;
  reached = record { ascending = is.reached.ascending; exactly = is.reached.exactly };
  kept = is.kept;
  rests = record {
    usable = is.rests.usable;
    are_usable = is.rests.are_usable;
    wishes = is.rests.wishes;
    are_asked = asked_due now due s is.rests.usable is.rests.wishes is.rests.are_asked;
    is_subroutine = is.rests.is_subroutine;
  };
  ports = is.ports;
}

-- ---- a tick that does nothing

pub tick_ran : (r a : Running) → IsEvent Tick r a → IsTick r a
tick_ran r a (inl (refused, is)) = absurd cc
tick_ran r a (inr (accepted, holds)) = holds

-- the laws of the rules on which it rests
pub record KeptLaws : Type 0 where
  pub later : RouterStaysLater
  pub idle_is_undue : IdleIsUndue
  pub undue_is_idle : UndueIsIdle

-- at the moment of the tick the router is one for which a tick does nothing, whatever moment it keeps
idle_there : KeptLaws → (now due : ℕ) (s : State) → IsRouter s → s.moment ≤ now → IsIdleTick now s → IsIdleTick now (record s { moment = now; due = due })
idle_there laws now due s router rises idle =
    let still = still_due now now due s (laws.idle_is_undue s now router rises idle) in
    let there : IsRouter (record s { moment = now; due = due }) = router_due due (at_moment now s) (laws.later now s router rises) in
    laws.undue_is_idle (record s { moment = now; due = due }) now there (omega arith) still

kept_after : KeptLaws → (now : ℕ) (event : PlainEvent) (s : State) (after : Running) (due : ℕ) → IsRouter s → s.moment ≤ now → IsEvent event (begun_at now s) after
    → IsDueAfter event (begun_at now s) after due → IsRouter (record after.state { due = due }) → IsKeptRouter (record after.state { due = due })
kept_after laws now event s after due router rises ran (inl ((is_tick, same, none), next)) stays = record {
  router = stays;
  due = λ later.
      let ticked : IsTick (begun_at now s) after = tick_ran (begun_at now s) after (subst (λ (e : PlainEvent). IsEvent e (begun_at now s) after) is_tick ran) in
      let idle : IsIdleTick now s = (after, ticked, same, none) in
      (subst (λ (x : State). IsIdleTick x.moment (record x { due = due })) (sym same) (idle_there laws now due s router rises idle), next);
}
kept_after laws now event s after due router rises ran (inr (busy, is_none)) stays = record { router = stays; due = λ later. absurd (omega arith) }

-- so it is of what an event comes to
pub kept_happened : KeptLaws → (now : ℕ) (event : PlainEvent) (s next : State) (done : Done) → IsRouter s → s.moment ≤ now → Happened now event s next done
    → IsRouter next → IsKeptRouter next
unfolding Happened
kept_happened laws now event s next done router rises (after, ran, (due, is_due, is_next), is_done) stays =
    subst IsKeptRouter (sym is_next) (kept_after laws now event s after due router rises ran is_due (subst IsRouter is_next stays))

-- ---- a tick before something is due

-- until what is next due nothing is
pub kept_until : (s : State) → IsKeptRouter s → IsKeptUntil s.due s
kept_until s kept = record { kept = kept; undue = λ later. let (idle, next) = kept.due later in (idle, next.least) }

pub kept_later : KeptLaws → IdleUntilDue → IdleWhileUndue → (now until : ℕ) (s : State) → IsKeptUntil until s → s.moment ≤ now → now < s.due
    → IsKeptUntil until (at_moment now s)
kept_later laws until_due while now until s is rises undue =
    let was = is.kept.due (omega arith) in
    let next = until_due s now s.due is.kept.router rises undue was.0 was.1 in
    record {
      kept = record { router = laws.later now s is.kept.router rises; due = λ later. (idle_there laws now s.due s is.kept.router rises next.0, next.1) };
      undue = λ later.
          let before = is.undue (omega arith) in
          let stays = while s now until is.kept.router rises later before.0 before.1 in
          (idle_there laws now s.due s is.kept.router rises stays.0, stays.1);
    }

pub idle_later : IdleUntilDue → (now : ℕ) (s : State) → IsKeptRouter s → s.moment ≤ now → now < s.due → IsIdleTick now s × IsNextDue (at_moment now s) s.due
idle_later until now s kept rises undue =
    let was = kept.due (omega arith) in
    until s now s.due kept.router rises undue was.0 was.1

-- such a tick is the event, and the router keeps then what is next due
pub rested : (now due : ℕ) (s : State) → IsIdleTick now s → IsNextDue (at_moment now s) due → Happened now Tick s (record s { moment = now; due = due }) nothing
unfolding Happened
rested now due s (after, ran, same, none) next = (
  after,
  inr (refl, ran),
  (due, inl ((refl, same, none), subst (λ (x : State). IsNextDue x due) (sym same) next), ap (λ (x : State). record x { due = due }) (sym same)),
  sym none,
)

pub undue_later : IdleWhileUndue → (now until : ℕ) (s : State) → IsRouter s → (s.moment < until → IsIdleTick s.moment s × IsUndueUntil until s) → s.moment ≤ now → now < until
    → IsIdleTick now s × IsUndueUntil until (at_moment now s)
undue_later while now until s router is rises undue =
    let was = is (omega arith) in
    while s now until router rises undue was.0 was.1

-- ---- an arrival that is let pass

pub kept_passed : PassingKeepsUndue → (p : Passing) (now until next : ℕ) (s : State) → IsKeptUntil until s → IsRouter (after_passing p now s)
    → (0 < next → (s.moment ≤ now) × (next ≡ until)) → IsKeptUntil next (after_passing p now s)
kept_passed keeps p now until next s is router still = record {
  kept = record { router = router; due = λ later. absurd (omega arith) };
  undue = λ later.
      let (rises, same) = still (omega arith) in
      let before : now < until = omega (arith, later, same) in
      let was = is.undue (omega (arith, rises, before)) in
      let after = keeps s p now until is.kept.router router rises before was.0 was.1 in
      subst (λ (n : ℕ). IsIdleTick now (after_passing p now s) × IsUndueUntil n (after_passing p now s)) (sym same) after;
}

-- ---- after a tick that does nothing

pub next_known : IsSole IsTick → (now : ℕ) (s next : State) (done : Done) → Happened now Tick s next done → IsIdleTick now s → IsNextDue next next.due
unfolding Happened
next_known sole now s next done (after, ran, (due, is_due, is_next), is_done) (idle, ticked, same, none) =
    let own : ℕ → ℕ = slice_index after.done.words in
    let begins : Begins after.done.words own = λ i within. refl in
    let empty : Begins idle.done.words own = subst (λ (d : Done). Begins d.words own) (sym none) (λ i within. absurd (omega arith)) in
    let one : after ≡ idle = sole.one own (begun_at now s) after idle (tick_ran (begun_at now s) after ran) ticked begins empty in
    let did : DidNothing Tick (begun_at now s) after = (refl, ap (λ (r : Running). r.state) one ∙ same, ap (λ (r : Running). r.done) one ∙ none) in
    subst (λ (x : State). IsNextDue x x.due) (sym is_next) (known is_due did)
  where
    known : IsDueAfter Tick (begun_at now s) after due → DidNothing Tick (begun_at now s) after → IsNextDue after.state due
    known (inl (did, is)) so = is
    known (inr (busy, is)) so = absurd (busy so)

-- ---- it is one

pub one_due : NextDueIsOne → (event : PlainEvent) (begun a b : Running) (m n : ℕ) → a ≡ b → IsDueAfter event begun a m → IsDueAfter event begun b n → m ≡ n
one_due once event begun a b m n same h k = by_cases h (subst (λ (r : Running). IsDueAfter event begun r n) (sym same) k)
  where
    by_cases : IsDueAfter event begun a m → IsDueAfter event begun a n → m ≡ n
    by_cases (inl (did, x)) (inl (too, y)) = once a.state m n x y
    by_cases (inl (did, x)) (inr (busy, y)) = absurd (busy did)
    by_cases (inr (busy, x)) (inl (too, y)) = absurd (busy too)
    by_cases (inr (busy, x)) (inr (also, y)) = x ∙ sym y
