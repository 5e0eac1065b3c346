-- What a router holds, one part after another.
use Rattle.hn_base.proofs.Names.{◌≡◌, ◌∙◌, ℕ, List, ◌++◌, Result, Ok, Err, append_assoc, OnOk, flat_map}
use Rattle.hn_table.proofs.Names.{Assigned, HeldNode, Member, table_line, peers_lines, held_line, assigned_line, backoff_line}
use Rattle.hn_pair.specs.declared.backoff.Backoff.{Backoff}
use Rattle.hn_dncp.specs.declared.port.Port.{Port}
use Rattle.hn_table.specs.Table.{held_lines}

five_parts : (old a b c d e : List ℕ) → ((((old ++ a) ++ b) ++ c) ++ d) ++ e ≡ old ++ ((((a ++ b) ++ c) ++ d) ++ e)
five_parts old a b c d e = simp append_assoc

module _ (name : List ℕ) (m : Member) (ports : List Port) (nodes : List HeldNode) (assigned : List Assigned) (backoffs : List Backoff) where
  pub held_told : {T E : Type 0} (r : Result T E) (old a b c d now : List ℕ) → ports ≡ m.router.ports → nodes ≡ m.router.table.entries → assigned ≡ m.router.held.assigned
      → backoffs ≡ m.router.held.backoffs → a ≡ old ++ table_line name m → b ≡ a ++ flat_map peers_lines ports → c ≡ b ++ flat_map held_line nodes
      → d ≡ c ++ flat_map assigned_line assigned → OnOk r (now ≡ d ++ flat_map backoff_line backoffs) → OnOk r (now ≡ old ++ held_lines name m)
  held_told (Err e) old a b c d now ports_are nodes_are assigned_are backoffs_are a_is b_is c_is d_is now_is = tt
  held_told (Ok x) old a b c d now ports_are nodes_are assigned_are backoffs_are a_is b_is c_is d_is now_is =
      let line = table_line name m in
      let peers = flat_map peers_lines m.router.ports in
      let others = flat_map held_line m.router.table.entries in
      let assignments = flat_map assigned_line m.router.held.assigned in
      let waits = flat_map backoff_line m.router.held.backoffs in
      let two : b ≡ (old ++ line) ++ peers = b_is ∙ (λ i. a_is i ++ flat_map peers_lines (ports_are i)) in
      let three : c ≡ ((old ++ line) ++ peers) ++ others = c_is ∙ (λ i. two i ++ flat_map held_line (nodes_are i)) in
      let four : d ≡ (((old ++ line) ++ peers) ++ others) ++ assignments = d_is ∙ (λ i. three i ++ flat_map assigned_line (assigned_are i)) in
      let five : now ≡ ((((old ++ line) ++ peers) ++ others) ++ assignments) ++ waits = now_is ∙ (λ i. four i ++ flat_map backoff_line (backoffs_are i)) in
      five ∙ five_parts old line peers others assignments waits
