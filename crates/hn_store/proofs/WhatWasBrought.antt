-- What is held was held before, or a node state brought it; and which node states are held.
use Rattle.hn_base.proofs.Names.{◌≡◌, ◌≢◌, ◌⊎◌, ◌∙◌, ℕ, inl, inr, Bool, true, false, cond, not, List, [], ◌∷◌, map, filter, Option, Some, None, refl, sym, ap, subst, find, ◌==◌, option_map, nat_cmp}
use Rattle.hn_base.proofs.Names.{eqb-true, eq-eqb, nat_cmp_total}
use Rattle.hn_store.proofs.Names.{Contains, NodeId, texts_cases, from_filter, hash_of, Part, Stored, HeldNode, OwnLeaf, Took, Kept, Renumbered, Ask, Stale, BadHash, BadBody, TooLong, Full, Own, Nodes}
use Rattle.hn_store.proofs.Names.{held, put, stored_part, IsTable, PlainState, held_part, known_of, CarriesData, HasWrongHash, IsStale, IsNews, stored_from, stored_renumbered, entries_changed}
use Rattle.hn_store.proofs.Names.{entries_after, marked_node, is_forgotten}
use Rattle.hn_base.proofs.Elements.{passing_found, found_passes}
use Rattle.hn_base.proofs.AscendingLists.{sorted_parts}
use Rattle.hn_base.proofs.PartsAtPlaces.{one_of_ascending}
use Rattle.hn_store.specs.Acceptance.{IsAnswer}
use Rattle.hn_store.specs.Brought.{WasHeld, BroughtData, BroughtNumber}
use Rattle.hn_store.specs.Laws.{HeldWasBrought, MarkedWasHeld, RememberedWasHeld, TrueDataAreKept}
use Rattle.hn_store.proofs.Answering.{of_data, known_of-other}
use Rattle.hn_store.proofs.Listed.{not_not}
use Rattle.hn_store.proofs.Tables.{held_of_entry}
use Rattle.hn_store.proofs.Uniqueness.{put_changes_one}

same_stored : (a b : Stored) → ◌≡◌ {A = Option Stored} (Some a) (Some b) → a ≡ b
same_stored a b same = cc

no_stored : (a : Stored) → ◌≡◌ {A = Option Stored} None (Some a) → ⊥
no_stored a same = absurd cc

-- ---- after an answer

-- what came of a state with an answer
abbrev Comes : Nodes → PlainState → List HeldNode → Type 0
Comes nodes s entries =
    (id : ℕ) (stored : Stored) → held entries id ≡ Some stored
    → WasHeld nodes id stored ⊎ ((id ≡ s.node) × (stored.number ≡ s.number) × (BroughtData s stored ⊎ BroughtNumber nodes s stored))

as_before : (nodes : Nodes) (s : PlainState) → Comes nodes s nodes.entries
as_before nodes s id stored is = inl (record { before = stored; was = is; number_is = refl; body_is = refl })

-- what was put for the state's node, and what is held of the others
put_comes : (nodes : Nodes) (s : PlainState) (new : Stored) → new.number ≡ s.number → (BroughtData s new ⊎ BroughtNumber nodes s new) → Comes nodes s (put s.node new nodes.entries)
put_comes nodes s new number brought id stored is = by_test (id == s.node) refl (sym (put_changes_one nodes.entries s.node id new) ∙ is)
  where
    by_test : (b : Bool) → (id == s.node) ≡ b → cond b (Some new) (held nodes.entries id) ≡ Some stored
        → WasHeld nodes id stored ⊎ ((id ≡ s.node) × (stored.number ≡ s.number) × (BroughtData s stored ⊎ BroughtNumber nodes s stored))
    by_test true here at =
        inr (subst (λ (x : Stored). (id ≡ s.node) × (x.number ≡ s.number) × (BroughtData s x ⊎ BroughtNumber nodes s x)) (same_stored new stored at) (eqb-true id s.node here, number, brought))
    by_test false there at = as_before nodes s id stored at

right_hash : (s : PlainState) → ¬ (HasWrongHash s) → CarriesData s → hash_of s.body ≡ s.hash
right_hash s right carries = not_not (hash_of s.body ≡ s.hash) (texts_cases (hash_of s.body) s.hash) (λ wrong. right (carries, wrong))

no_body : (s : PlainState) → ¬ (CarriesData s) → s.body ≡ []
no_body s none = not_not (s.body ≡ []) (texts_cases s.body []) (λ some. none (inl some))

-- a number alone has the hash of what is held
same_hash : (nodes : Nodes) (own : OwnLeaf) (s : PlainState) (before : Stored) → s.node ≢ own.id.0 → held nodes.entries s.node ≡ Some before
    → ¬ (IsNews (known_of nodes.entries own s.node) s) → before.hash ≡ s.hash
same_hash nodes own s before other is old =
    let known : known_of nodes.entries own s.node ≡ Some (stored_part before) = known_of-other nodes.entries own s.node other ∙ ap (option_map stored_part) is in
    not_not (before.hash ≡ s.hash) (texts_cases before.hash s.hash) (λ news. old (subst (λ (k : Option Part). IsNews k s) (sym known) news))

renumbered_comes : (nodes : Nodes) (own : OwnLeaf) (s : PlainState) (now : ℕ) → s.node ≢ own.id.0 → ¬ (CarriesData s) → ¬ (IsNews (known_of nodes.entries own s.node) s)
    → Comes nodes s (entries_after nodes.entries s now Renumbered)
renumbered_comes nodes own s now other none old = by_held (held nodes.entries s.node) refl
  where
    by_held : (h : Option Stored) → held nodes.entries s.node ≡ h → Comes nodes s (entries_changed s.node (stored_renumbered s now) h nodes.entries)
    by_held None is = as_before nodes s
    by_held (Some before) is =
        put_comes nodes s (stored_renumbered s now before) refl
        (inr (record { before = before; was = is; no_data = no_body s none; hash_is = same_hash nodes own s before other is old; body_is = refl }))

same_comes : (nodes : Nodes) (s : PlainState) (now : ℕ) (took line : Took) → took ≡ line → Comes nodes s (entries_after nodes.entries s now line)
    → Comes nodes s (entries_after nodes.entries s now took)
same_comes nodes s now took line is comes = subst (λ (t : Took). Comes nodes s (entries_after nodes.entries s now t)) (sym is) comes

comes_after : (nodes : Nodes) (own : OwnLeaf) (s : PlainState) (now : ℕ) (took : Took) → IsAnswer nodes own s took → Comes nodes s (entries_after nodes.entries s now took)
unfolding IsAnswer
comes_after nodes own s now took (inl x) = same_comes nodes s now took Stale x.1 (as_before nodes s)
comes_after nodes own s now took (inr (_, inl x)) = same_comes nodes s now took Full x.1 (as_before nodes s)
comes_after nodes own s now took (inr (_, inr (_, inl x))) = same_comes nodes s now took TooLong x.1 (as_before nodes s)
comes_after nodes own s now took (inr (_, inr (_, inr (_, inl x)))) = same_comes nodes s now took BadHash x.1 (as_before nodes s)
comes_after nodes own s now took (inr (_, inr (_, inr (_, inr (_, inl x))))) = same_comes nodes s now took Own x.1 (as_before nodes s)
comes_after nodes own s now took (inr (_, inr (_, inr (_, inr (_, inr (_, inl x)))))) = same_comes nodes s now took BadBody x.1 (as_before nodes s)
comes_after nodes own s now took (inr (_, inr (_, inr (_, inr (right, inr (_, inr (_, inl x))))))) =
    same_comes nodes s now took Kept x.1
    (put_comes nodes s (stored_from s now (held nodes.entries s.node)) refl (inl (record { carries = x.0; hash_is = right_hash s right x.0; body_is = refl })))
comes_after nodes own s now took (inr (_, inr (_, inr (_, inr (_, inr (_, inr (_, inr (_, inl x)))))))) = same_comes nodes s now took Ask x.1 (as_before nodes s)
comes_after nodes own s now took (inr (_, inr (_, inr (_, inr (_, inr (other, inr (_, inr (none, inr (old, x))))))))) =
    same_comes nodes s now took Renumbered x (renumbered_comes nodes own s now other none old)

pub was_brought : HeldWasBrought
was_brought nodes own s now next took id stored accepts is =
    comes_after nodes own s now took accepts.answer id stored (sym (ap (λ (n : Nodes). held n.entries id) accepts.after) ∙ is)

-- ---- after marks

abbrev is_of : ℕ → HeldNode → Bool
is_of id node = node.id.0 == id

abbrev stored_in : Option HeldNode → Option Stored
stored_in found = option_map (λ (node : HeldNode). node.stored) found

find_marked : (reach : List NodeId) (now : ℕ) (xs : List HeldNode) (id : ℕ) → find (is_of id) (map (marked_node reach now) xs) ≡ option_map (marked_node reach now) (find (is_of id) xs)
find_marked reach now [] id = refl
find_marked reach now (x ∷ xs) id = by_test (is_of id x) (find_marked reach now xs id)
  where
    by_test : (b : Bool) → find (is_of id) (map (marked_node reach now) xs) ≡ option_map (marked_node reach now) (find (is_of id) xs)
        → cond b (Some (marked_node reach now x)) (find (is_of id) (map (marked_node reach now) xs)) ≡ option_map (marked_node reach now) (cond b (Some x) (find (is_of id) xs))
    by_test true more = refl
    by_test false more = more

pub marked_was : MarkedWasHeld
marked_was reach now nodes id stored is = by_found (find (is_of id) nodes.entries) refl (sym (ap stored_in (find_marked reach now nodes.entries id)) ∙ is)
  where
    by_found : (o : Option HeldNode) → find (is_of id) nodes.entries ≡ o → stored_in (option_map (marked_node reach now) o) ≡ Some stored → WasHeld nodes id stored
    by_found None found at = absurd (no_stored stored at)
    by_found (Some x) found at =
        let same = same_stored (marked_node reach now x).stored stored at in record {
          before = x.stored;
          was = ap stored_in found;
          number_is = sym (ap (λ (st : Stored). st.number) same);
          body_is = sym (ap (λ (st : Stored). st.body) same);
        }

-- ---- after forgetting

-- an entry of a table is what is held of its node
held_entry : (nodes : Nodes) → IsTable nodes → (node : HeldNode) (id : ℕ) → Contains nodes.entries node → node.id.0 ≡ id → held nodes.entries id ≡ Some node.stored
held_entry nodes are node id there is =
    let found = passing_found (is_of id) nodes.entries node there (eq-eqb node.id.0 id is) in
    let passes = found_passes (is_of id) nodes.entries found.0 found.1 in
    let same : found.0 ≡ node =
    one_of_ascending (λ (n : HeldNode). n.id.0) nat_cmp nat_cmp_total nodes.entries ((sorted_parts (λ (n : HeldNode). n.id.0) nat_cmp nodes.entries).1 are.ascending) found.0 node passes.0 there
    (eqb-true found.0.id.0 id passes.1 ∙ sym is)
    in
    ap stored_in found.1 ∙ ap (λ (n : HeldNode). Some n.stored) same

pub remembered_was : RememberedWasHeld
remembered_was now nodes id stored are is =
    let found = held_of_entry (filter (λ node. not (is_forgotten now node)) nodes.entries) id stored is in
    let there = from_filter (λ (node : HeldNode). not (is_forgotten now node)) nodes.entries found.0 found.1 in
    record { before = stored; was = held_entry nodes are found.0 id there.0 found.2 ∙ ap Some found.3; number_is = refl; body_is = refl }

-- ---- true data

pub true_kept : TrueDataAreKept
true_kept nodes own s now is = record {
  answer = of_data nodes own s Kept
      (record {
        fresh = subst (λ (known : Option Part). ¬ (IsStale known s)) (sym known) is.fresh;
        room = λ full. is.room (unheld (held nodes.entries s.node) (sym known ∙ full.0)) full.1;
        short = is.short;
      })
      (λ carries. is.hash_is) is.other carries (inr (is.list, refl));
  after = refl;
}
  where
    known : known_of nodes.entries own s.node ≡ held_part nodes.entries s.node
    known = known_of-other nodes.entries own s.node is.other

    unheld : (h : Option Stored) → option_map stored_part h ≡ None → h ≡ None
    unheld None none = refl
    unheld (Some stored) none = absurd cc

    carries : CarriesData s
    carries = elim (texts_cases s.body []) [ inl empty ↦ inr (sym is.hash_is ∙ ap hash_of empty) | inr some ↦ inl some ]
