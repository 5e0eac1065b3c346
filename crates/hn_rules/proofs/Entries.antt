-- What a router sees of an identifier.
use Rattle.hn_base.proofs.Names.{◌≡◌, ◌∙◌, Option, Some, None, inl, inr, sym, ap, option_map, eq-eqb, ne_eqb, cases_eq, cond-true, cond-false, same_Some}
use Rattle.hn_rules.proofs.Names.{same_node, NodeId, Entry, held, Stored, State, held_entry, own_entry, entry_of}
use Rattle.std.proofs.Common.{◌==◌}

pub entry_own : (s : State) (id : NodeId) → id.0 ≡ s.id.0 → entry_of s id ≡ Some (own_entry s)
entry_own s id is = cond-true (id.0 == s.id.0) _ _ (eq-eqb id.0 s.id.0 is)

pub entry_other : (s : State) (id : NodeId) → (id.0 ≡ s.id.0 → ⊥)
    → entry_of s id ≡ option_map (λ (stored : Stored). held_entry s.moment (record { id = id; stored = stored })) (held s.table.entries id.0)
entry_other s id differs = cond-false (id.0 == s.id.0) _ _ (ne_eqb id.0 s.id.0 differs)

pub entry_held : (s : State) (id : NodeId) (stored : Stored) → (id.0 ≡ s.id.0 → ⊥) → held s.table.entries id.0 ≡ Some stored
    → entry_of s id ≡ Some (held_entry s.moment (record { id = id; stored = stored }))
entry_held s id stored differs is =
    entry_other s id differs ∙ ap (option_map (λ (kept : Stored). held_entry s.moment (record { id = id; stored = kept }))) is

-- an entry is of the identifier that it was looked up by
pub entry_named : (s : State) (id : NodeId) (n : Entry) → entry_of s id ≡ Some n → n.id ≡ id
entry_named s id n is =
    elim (cases_eq id.0 s.id.0) [
      | inl own ↦
          let same : own_entry s ≡ n = same_Some (own_entry s) n (sym (entry_own s id own) ∙ is) in
          sym (ap (λ (e : Entry). e.id) same) ∙ sym (same_node id s.id own)
      | inr differs ↦ by_held (held s.table.entries id.0) (sym (entry_other s id differs) ∙ is)
    ]
  where
    by_held : (o : Option Stored) → option_map (λ (stored : Stored). held_entry s.moment (record { id = id; stored = stored })) o ≡ Some n → n.id ≡ id
    by_held None e = absurd cc
    by_held (Some stored) e =
        let same : held_entry s.moment (record { id = id; stored = stored }) ≡ n = same_Some _ n e in
        sym (ap (λ (x : Entry). x.id) same)
