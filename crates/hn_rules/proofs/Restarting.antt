-- A restart, and the words that it takes.
use Rattle.hn_base.proofs.Names.{◌≡◌, ◌∙◌, ℕ, true, List, [], ◌∷◌, Option, Some, None, is_some, ap, refl, sym, subst, Drew, Then, Each}
use Rattle.hn_rules.proofs.Names.{EpId, Port, attached_port, Running, port_at, endpoints_of, AtPort, Ran, with_words, with_port, Publishes, IsPortRestart, emptied, IsRestarting}
use Rattle.hn_rules.proofs.AtPorts.{at_port, found_id}

-- an endpoint that is attached begins anew
pub restart_one : (at : EpId) (ports : List Port) (port : Port) (now word : ℕ) (told told_after : Option (ℕ → ℕ)) (before between after : Running)
    → is_some (port_at at ports) ≡ true → ports ≡ before.state.ports → now ≡ between.state.moment → port ≡ attached_port at now word
    → between ≡ with_words (word ∷ []) before → Drew told before.done.words told_after between.done.words → after ≡ with_port port between
    → Ran (AtPort at IsPortRestart) told told_after before after
restart_one at ports port now word told told_after before between after attached same present is began drew gives = record {
  holds = by_port (port_at at ports) refl attached;
  drew = subst (λ (ws : List ℕ). Drew told before.done.words told_after ws) (ap (λ (r : Running). r.done.words) (sym gives)) drew;
}
  where
    whole : after ≡ with_words (word ∷ []) (with_port (attached_port at before.state.moment word) before)
    whole = gives ∙ ap (with_port port) began ∙ ap (λ (p : Port). with_port p (with_words (word ∷ []) before))
        (is ∙ ap (λ (n : ℕ). attached_port at n word) (present ∙ ap (λ (r : Running). r.state.moment) began))

    by_port : (found : Option Port) → found ≡ port_at at ports → is_some found ≡ true → AtPort at IsPortRestart before after
    by_port None here some = cc
    by_port (Some old) here some =
        at_port at old ports IsPortRestart before after here same
        (record { word = word; gives = whole ∙ ap (λ (e : EpId). with_words (word ∷ []) (with_port (attached_port e before.state.moment word) before)) (sym (found_id at old ports here)) })

-- a restart in three steps
pub ran_restart : (told told_after : Option (ℕ → ℕ)) (before cleared restarted after : Running)
    → cleared ≡ emptied before → Ran (λ b a. Each (λ at. AtPort at IsPortRestart) (endpoints_of b.state.ports) b a) told told_after cleared restarted
    → Publishes 1 restarted after → Ran IsRestarting told told_after before after
ran_restart told told_after before cleared restarted after clears ports publishes = record {
  holds = subst (λ (r : Running). Then (Each (λ at. AtPort at IsPortRestart) (endpoints_of r.state.ports)) (Publishes 1) r after) clears (restarted, ports.holds, publishes);
  drew = subst (λ (ws : List ℕ). Drew told ws told_after after.done.words) (ap (λ (r : Running). r.done.words) clears)
      (subst (λ (ws : List ℕ). Drew told cleared.done.words told_after ws) (ap (λ (r : Running). r.done.words) (sym publishes.gives)) ports.drew);
}
