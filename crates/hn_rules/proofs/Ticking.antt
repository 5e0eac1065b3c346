-- A tick of an endpoint, and the words that it takes.
use Rattle.hn_base.proofs.Names.{◌≡◌, ◌∙◌, ℕ, false, List, ◌++◌, ◌⊎◌, Option, Some, length, IsTrue, ap, sym, subst, inl, inr, Drew, Took}
use Rattle.hn_rules.proofs.Names.{EpId, Port, ticked, tick_words, tick_sends, Running, port_at, AtPort, Ran, with_words, with_port, IsPortMoving, IsPortSending, IsPortTick, IsStateSending}
use Rattle.hn_rules.proofs.AtPorts.{at_port, found_id}

-- Trickle of an endpoint moves on
pub port_moves : (now : ℕ) (port moved : Port) (words taken : List ℕ) (told told_after : Option (ℕ → ℕ)) (before between after : Running)
    → now ≡ before.state.moment → moved ≡ ticked now words port → length words ≡ tick_words now port → Took told words told_after → taken ≡ words
    → between ≡ with_words taken before → after ≡ with_port moved between
    → Ran (IsPortMoving port) told told_after before after
port_moves now port moved words taken told told_after before between after present is count took same began gives =
    let all : after.done.words ≡ before.done.words ++ words =
    ap (λ (r : Running). r.done.words) gives ∙ ap (λ (r : Running). r.done.words) began ∙ ap (λ (ws : List ℕ). before.done.words ++ ws) same in
    record {
      holds = record {
        words = words;
        as_many = subst (λ (n : ℕ). length words ≡ tick_words n port) present count;
        gives = gives ∙ ap (with_port moved) began ∙ ap (λ (ws : List ℕ). with_port moved (with_words ws before)) same
            ∙ ap (λ (p : Port). with_port p (with_words words before)) is ∙ ap (λ (n : ℕ). with_port (ticked n words port) (with_words words before)) present;
      };
      drew = subst (λ (ws : List ℕ). Drew told before.done.words told_after ws) (sym all) (took before.done.words);
    }

-- what is due at an endpoint, after its Trickle has moved on
pub port_ticks : (at : EpId) (port copy : Port) (ports : List Port) (told told_after : Option (ℕ → ℕ)) (before moved after : Running)
    → Some port ≡ port_at at ports → ports ≡ before.state.ports → copy ≡ port
    → Ran (IsPortMoving copy) told told_after before moved
    → (IsStateSending at moved after × IsTrue (tick_sends moved.state.moment copy)) ⊎ ((after ≡ moved) × (tick_sends moved.state.moment copy ≡ false))
    → Ran (AtPort at IsPortTick) told told_after before after
port_ticks at port copy ports told told_after before moved after here same_ports same ran sends =
    let moving : Ran (IsPortMoving port) told told_after before moved = subst (λ (p : Port). Ran (IsPortMoving p) told told_after before moved) same ran in
    record {
      holds = at_port at port ports IsPortTick before after here same_ports (moved, moving.holds, sending sends);
      drew = subst (λ (ws : List ℕ). Drew told before.done.words told_after ws) (sym (words sends)) moving.drew;
    }
  where
    sending : (IsStateSending at moved after × IsTrue (tick_sends moved.state.moment copy)) ⊎ ((after ≡ moved) × (tick_sends moved.state.moment copy ≡ false)) → IsPortSending port moved after
    sending (inl (sent, due)) = inl (
      subst (λ (p : Port). IsTrue (tick_sends moved.state.moment p)) same due,
      subst (λ (e : EpId). IsStateSending e moved after) (sym (found_id at port ports here)) sent,
    )
    sending (inr (gives, not_due)) = inr (subst (λ (p : Port). tick_sends moved.state.moment p ≡ false) same not_due, gives)

    words : (IsStateSending at moved after × IsTrue (tick_sends moved.state.moment copy)) ⊎ ((after ≡ moved) × (tick_sends moved.state.moment copy ≡ false)) → after.done.words ≡ moved.done.words
    words (inl (sent, _)) = ap (λ (r : Running). r.done.words) sent.gives
    words (inr (gives, _)) = ap (λ (r : Running). r.done.words) gives
