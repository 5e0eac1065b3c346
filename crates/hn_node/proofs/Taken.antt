-- What waits where memory ends while a datagram is taken.
use Rattle.hn_base.proofs.Names.{◌≡◌, ◌∙◌, ◌⊎◌, ◌+◌, inl, inr, ℕ, List, Option, None, Some, refl, sym, subst, take, option_map, true, false}
use Rattle.hn_node.proofs.Names.{Datagram, NodeEvent, PlainSite}
use Rattle.hn_wire.specs.Wires.{Arrived, TakesAt, arrived}
use Rattle.hn_node.specs.Turns.{StarvesTaking, arrival}

-- what was taken, by its number of bytes and its port
pub some_taken : (at : ℕ) (o : Option (ℕ × ℕ)) (x : ℕ × ℕ) (buf : List ℕ) (before after : Option (List Datagram)) → o ≡ Some x → TakesAt at (arrived o buf) before after
    → (got : Arrived) × TakesAt at (Some got) before after
some_taken at o x buf before after is takes =
    (record { from = x.1; bytes = take x.0 buf }, subst (λ (p : Option (ℕ × ℕ)). TakesAt at (arrived p buf) before after) is takes)

-- at the port
pub first_starves : (at : PlainSite) (before after : Option (List Datagram)) → (after ≡ before) ⊎ ((got : Arrived) × TakesAt at.port (Some got) before after)
    → StarvesTaking at before after
first_starves at before after (inl same) = inl (inl same)
first_starves at before after (inr (got, takes)) = inr (Some (arrival false got), inl (got, refl, takes))

-- at the next port
pub second_starves : (at : PlainSite) (before middle after : Option (List Datagram)) (taken : Option NodeEvent)
    → (got : Option Arrived) × TakesAt at.port got before middle × (taken ≡ option_map (arrival false) got) → taken ≡ None
    → (after ≡ middle) ⊎ ((got : Arrived) × TakesAt (at.port + 1) (Some got) middle after) → StarvesTaking at before after
second_starves at before middle after taken (None, takes, is) none (inl same) = inl (inr (subst (TakesAt at.port None before) (sym same) takes))
second_starves at before middle after taken (None, takes, is) none (inr (got, more)) = inr (Some (arrival true got), inr (got, refl, (middle, takes, more)))
second_starves at before middle after taken (Some x, takes, is) none starves = let never = sym is ∙ none in absurd cc
