-- A turn, and one turn more.
use Rattle.hn_base.proofs.Names.{◌≡◌, ◌+◌, ◌<◌, inl, inr, ℕ, suc, List, [], ◌∷◌, ◌++◌, Option, Some, refl, subst, arith}
use Rattle.hn_node.proofs.Names.{append-nil, Datagram, Logged, NodeEvent, Node, PlainSite, Serving, serving, handed_of, handed_in, TakesTurn, Steps, CutSteps, Arrives, IsLoggedTurn, CutTurn, AreTurns, AddsEntry}
use Rattle.hn_node.proofs.Names.{Grows}
use Rattle.hn_wire.specs.Clocks.{ReadsClock}
use Rattle.hn_node.specs.declared.logged.NodeEvent.TheVariants as node
use Rattle.hn_node.proofs.Names.{State}
use Rattle.hn_node.specs.Turns.{FailsToTake, CutTurns, StarvesSteps, StarvesTurn}
use Rattle.hn_node.proofs.Grown.{none_grown, one_grown, both_grown, both_handed}

-- what arrives, of what was taken
pub arrived : (at : PlainSite) (now : ℕ) (event : NodeEvent) (told told_after : Option (ℕ → ℕ)) (before after : Serving) (a b : Node)
    → (l : Logged) × Steps at now event l before after × AddsEntry l (handed_of at l.sends) told told_after a b
    → (entries : List Logged) × Arrives at now (Some event) entries before after × Grows entries (handed_in at entries) told told_after a b
arrived at now event told told_after before after a b h =
    (h.0 ∷ [], (h.0, h.1, refl), one_grown h.0 (handed_of at h.0.sends) (handed_in at (h.0 ∷ [])) told told_after a b (append-nil (handed_of at h.0.sends)) h.2)

module _ (at : PlainSite) (now : ℕ) (taken : Option NodeEvent) (waiting left : Option (List Datagram)) (takes : TakesTurn at taken waiting left) (told : Option (ℕ → ℕ)) (a : Node) where
  -- the answers to what arrives were not all sent
  pub cut_arrival : (after : Option (List Datagram)) (told_after : Option (ℕ → ℕ)) (b : Node)
      → (event : NodeEvent) × (taken ≡ Some event) × ((l : Logged) × (front : List Datagram)
      × CutSteps at now event l front (serving a.router left) (serving b.router after) × AddsEntry l front told told_after a b)
      → (entries : List Logged) × (handed : List Datagram) × CutTurn at now entries handed (serving a.router waiting) (serving b.router after) × Grows entries handed told told_after a b
  cut_arrival after told_after b h =
      let cut = h.2 in (
        cut.0 ∷ [],
        cut.1,
        inr (inl (record {
          taken = h.0;
          begun = serving a.router left;
          begins = record { takes = subst (λ (t : Option NodeEvent). TakesTurn at t waiting left) h.1 takes; router = refl };
          last = cut.0;
          cut = cut.2;
          entries_are = refl;
        })),
        one_grown cut.0 cut.1 cut.1 told told_after a b refl cut.3,
      )

  module _ (between : Option (List Datagram)) (told_between : Option (ℕ → ℕ)) (b : Node)
      (first : (entries : List Logged) × Arrives at now taken entries (serving a.router left) (serving b.router between) × Grows entries (handed_in at entries) told told_between a b)
      (after : Option (List Datagram)) (told_after : Option (ℕ → ℕ)) (c : Node) where
    pub turned : (l : Logged) × Steps at now node.Tick l (serving b.router between) (serving c.router after) × AddsEntry l (handed_of at l.sends) told_between told_after b c
        → (entries : List Logged) × IsLoggedTurn at now entries (serving a.router waiting) (serving c.router after) × Grows entries (handed_in at entries) told told_after a c
    turned h =
        let one = one_grown h.0 (handed_of at h.0.sends) (handed_in at (h.0 ∷ [])) told_between told_after b c (append-nil (handed_of at h.0.sends)) h.2 in (
          first.0 ++ h.0 ∷ [],
          record {
            taken = taken;
            begun = serving a.router left;
            begins = record { takes = takes; router = refl };
            first = first.0;
            between = serving b.router between;
            arrives = first.1;
            tick = h.0;
            ticks = h.1;
            entries_are = refl;
          },
          both_handed at first.0 (h.0 ∷ []) told told_between told_after a b c first.2 one,
        )

    -- what the tick gave was not all sent
    pub cut_tick : (l : Logged) × (front : List Datagram) × CutSteps at now node.Tick l front (serving b.router between) (serving c.router after) × AddsEntry l front told_between told_after b c
        → (entries : List Logged) × (handed : List Datagram) × CutTurn at now entries handed (serving a.router waiting) (serving c.router after) × Grows entries handed told told_after a c
    cut_tick h =
        let one = one_grown h.0 h.1 h.1 told_between told_after b c refl h.3 in (
          first.0 ++ h.0 ∷ [],
          handed_in at first.0 ++ h.1,
          inr (inr (record {
            taken = taken;
            begun = serving a.router left;
            begins = record { takes = takes; router = refl };
            first = first.0;
            between = serving b.router between;
            arrives = first.1;
            last = h.0;
            front = h.1;
            cut = h.2;
            entries_are = refl;
            handed_is = refl;
          })),
          both_grown first.0 (h.0 ∷ []) (handed_in at first.0) h.1 told told_between told_after a b c first.2 one,
        )

-- memory ended while what was taken arrived
pub starves_arriving : (at : PlainSite) (now : ℕ) (taken : Option NodeEvent) (router : State) (waiting left after : Option (List Datagram)) → TakesTurn at taken waiting left
    → (event : NodeEvent) × (taken ≡ Some event) × StarvesSteps at now event (serving router left) after → StarvesTurn at now (serving router waiting) after
starves_arriving at now taken router waiting left after takes (event, is, starves) = inr (inl (record {
  taken = event;
  begun = serving router left;
  begins = record { takes = subst (λ (t : Option NodeEvent). TakesTurn at t waiting left) is takes; router = refl };
  starves = starves;
}))

-- or while the router ticked
pub starves_ticking : (at : PlainSite) (now : ℕ) (taken : Option NodeEvent) (router next : State) (waiting left between after : Option (List Datagram)) (first : List Logged)
    → TakesTurn at taken waiting left → Arrives at now taken first (serving router left) (serving next between)
    → StarvesSteps at now node.Tick (serving next between) after → StarvesTurn at now (serving router waiting) after
starves_ticking at now taken router next waiting left between after first takes arrives starves = inr (inr (record {
  taken = taken;
  begun = serving router left;
  begins = record { takes = takes; router = refl };
  first = first;
  between = serving next between;
  arrives = arrives;
  starves = starves;
}))

-- nothing was taken, since the wire failed
pub cut_taking : (at : PlainSite) (now : ℕ) (waiting after : Option (List Datagram)) (told : Option (ℕ → ℕ)) (a : Node) → FailsToTake at waiting after
    → (entries : List Logged) × (handed : List Datagram) × CutTurn at now entries handed (serving a.router waiting) (serving a.router after) × Grows entries handed told told a a
cut_taking at now waiting after told a fails =
    ([], [], inl (record { router = refl; waiting = fails; entries_are = refl; handed_is = refl }), none_grown told a)

-- ---- one turn more

module _ (at : PlainSite) (n : ℕ) (readings left rest : Option (List ℕ)) (now : ℕ) (before between : Serving) (told told_between told_after : Option (ℕ → ℕ)) (a b c : Node)
    (past : (log : List Logged) × AreTurns at n log before between readings left × Grows log (handed_in at log) told told_between a b) (reads : ReadsClock left now rest) (after : Serving) where
  pub turn_more : (entries : List Logged) × IsLoggedTurn at now entries between after × Grows entries (handed_in at entries) told_between told_after b c
      → (log : List Logged) × AreTurns at (n + 1) log before after readings rest × Grows log (handed_in at log) told told_after a c
  turn_more h =
      let one : AreTurns at (suc n) (past.0 ++ h.0) before after readings rest = (between, past.0, h.0, now, left, past.1, reads, h.1, refl) in
      let same : suc n ≡ n + 1 = omega arith in
      (past.0 ++ h.0, subst (λ (k : ℕ). AreTurns at k (past.0 ++ h.0) before after readings rest) same one, both_handed at past.0 h.0 told told_between told_after a b c past.2 h.2)

  pub cut_after : (turns : ℕ) → n < turns
      → (entries : List Logged) × (handed : List Datagram) × CutTurn at now entries handed between after × Grows entries handed told_between told_after b c
      → (log : List Logged) × (handed : List Datagram) × CutTurns at turns log handed before after readings rest × Grows log handed told told_after a c
  cut_after turns fewer h = (
    past.0 ++ h.0,
    handed_in at past.0 ++ h.1,
    record { made = n; fewer = fewer; past = past.0; between = between; left = left; whole = past.1; now = now; reads = reads; entries = h.0; last = h.1; cut = h.2; log_is = refl; handed_is = refl },
    both_grown past.0 h.0 (handed_in at past.0) h.1 told told_between told_after a b c past.2 h.3,
  )

-- ---- no turn

pub no_turn : (at : PlainSite) (before : Serving) (readings : Option (List ℕ)) (told : Option (ℕ → ℕ)) (a : Node)
    → (log : List Logged) × AreTurns at 0 log before before readings readings × Grows log (handed_in at log) told told a a
no_turn at before readings told a = ([], (refl, refl, refl), none_grown told a)
