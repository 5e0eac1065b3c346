-- An arrival that is let pass is the event.
use Rattle.hn_base.proofs.Names.{◌≡◌, ℕ, List, inr, refl, sym, ap}
use Rattle.hn_router.proofs.Names.{Origin, State, nothing, after_passing, Arrive, Tick}
use Rattle.std.specs.Prelude.{not}
use Rattle.hn_rules.specs.declared.arrival.passing.Passing.{Passing}
use Rattle.hn_rules.specs.Passing.{IsLetPass}
use Rattle.hn_router.specs.Act.{Happened}

no_tick : (from : Origin) (bytes : List ℕ) → Arrive from bytes ≡ Tick → ⊥
no_tick from bytes is = cc

pub arrival_happened : (now : ℕ) (from : Origin) (bytes : List ℕ) (s : State) (p : Passing) → IsLetPass from bytes now s p → Happened now (Arrive from bytes) s (after_passing p now s) nothing
unfolding Happened
arrival_happened now from bytes s p passes = (
  passes.after,
  inr (ap not passes.attached, inr (inr (record { near = passes.near; tlvs = passes.tlvs; list = passes.list; arrives = passes.arrives }))),
  (0, inr (λ nothing_done. no_tick from bytes nothing_done.0, refl), ap (λ (x : State). let a : State = record x { due = 0 } in a) (sym passes.state)),
  sym passes.done,
)
