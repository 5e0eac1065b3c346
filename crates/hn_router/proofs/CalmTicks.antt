-- A tick that nothing disturbs.
use Rattle.hn_base.proofs.Names.{◌≤◌, ℕ, inl, inr, sym, subst}
use Rattle.hn_router.proofs.Names.{IsRouter, begun_at, at_moment, IsTick, Done, Running, State, Tick, IsEvent}
use Rattle.hn_assign.specs.Fixed.{AreAssignmentsUnchanged}
use Rattle.hn_assign.specs.declared.ran.Ran.{Ran}
use Rattle.hn_rules.specs.Assigning.{IsRunAssigned}
use Rattle.hn_rules.specs.KeptAtRest.{IsKeptAtRest, CalmTick}
use Rattle.hn_rules.specs.Undue.{IsKeptUndue}
use Rattle.hn_router.specs.Act.{Happened}

ticks : (now : ℕ) (s : State) (after : Running) → IsEvent Tick (begun_at now s) after → IsTick (begun_at now s) after
ticks now s after (inl refused) = absurd cc
ticks now s after (inr rule) = rule.1

-- the moment that it keeps is not among what stays
but_due : (s then : State) (due : ℕ) → IsKeptAtRest s then → IsKeptAtRest s (record then { due = due })
but_due s then due r = record {
  id = r.id;
  number = r.number;
  own = r.own;
  private = r.private;
  endpoints = r.endpoints;
  reach = r.reach;
  known = r.known;
  assigned = r.assigned;
}

pub restful : CalmTick → (now : ℕ) (s next : State) (done : Done) → IsRouter s → s.moment ≤ now → IsKeptUndue now s
    → ((ran : Ran) → IsRunAssigned (at_moment now s) ran → AreAssignmentsUnchanged s.held.assigned ran.held.assigned) → Happened now Tick s next done → IsKeptAtRest s next
unfolding Happened
restful law now s next done router past calm same (after, ran, (due, is_due, gives), is) =
    subst (IsKeptAtRest s) (sym gives) (but_due s after.state due (law now s after router past calm same (ticks now s after ran)))
