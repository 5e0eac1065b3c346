-- That a table is one after a node state arrived.
use Rattle.hn_base.proofs.Names.{◌≡◌, ◌≢◌, suc, ◌<◌, ◌≤◌, ◌⊎◌, ◌∙◌, ℕ, inl, inr, Bool, true, false, List, [], ◌∷◌, cond, length, Option, Some, None, refl, sym, ap, subst, arith, All, find, ◌==◌, ◌||◌}
use Rattle.hn_base.proofs.Names.{list_any, option_map, cases_lt, eqb-true, All-contains}
use Rattle.hn_store.proofs.Names.{Contains, HasTlvs, hash_of, Stored, HeldNode, OwnLeaf, Took, Kept, Renumbered, Ask, Stale, BadHash, BadBody, TooLong, Full, Own, Nodes, IsTable, IsIntact, held}
use Rattle.hn_store.proofs.Names.{entry, put, stored_part, PlainState, known_of, CarriesData, HasWrongHash, HasNoRoom, stored_from, stored_renumbered, entries_changed, entries_after, texts_cases}
use Rattle.hn_base.proofs.AscendingLists.{Contains-head, Contains-tail}
use Rattle.hn_store.specs.Acceptance.{IsAnswer}
use Rattle.hn_store.specs.Laws.{HeldIsOfAnEntry, AcceptanceKeepsTable}
use Rattle.hn_store.proofs.Answering.{known_of-other}
use Rattle.hn_base.proofs.AscendingNumbers.{around-few, around-fewer}
use Rattle.hn_store.proofs.TableStays.{are_put, IntactNode}
use Rattle.hn_store.proofs.Listed.{not_not}

-- ---- how many nodes there are after one was put

abbrev is_of : ℕ → HeldNode → Bool
is_of id node = node.id.0 == id

has_held : (id : ℕ) (xs : List HeldNode) (stored : Stored) → held xs id ≡ Some stored → list_any (is_of id) xs ≡ true
has_held id [] stored is = absurd cc
has_held id (x ∷ xs) stored is = by_test (is_of id x) (has_held id xs stored) is
  where
    by_test : (b : Bool) → (held xs id ≡ Some stored → list_any (is_of id) xs ≡ true)
        → option_map (λ (node : HeldNode). node.stored) (cond b (Some x) (find (is_of id) xs)) ≡ Some stored → (b || list_any (is_of id) xs) ≡ true
    by_test true more at = refl
    by_test false more at = more at

-- a node that is held keeps its place; another one takes one more, where there is room
put_within : (limit id : ℕ) (stored : Stored) (xs : List HeldNode) → length xs ≤ limit → (held xs id ≡ None → length xs ≢ limit) → length (put id stored xs) ≤ limit
put_within limit id stored xs within room = by_held (held xs id) refl
  where
    by_held : (h : Option Stored) → held xs id ≡ h → length (put id stored xs) ≤ limit
    by_held None is = let few : length (put id stored xs) ≤ suc (length xs) = around-few (λ node. node.id.0) (entry id stored) xs in let free = room is in omega arith
    by_held (Some other) is = let few : length (put id stored xs) ≤ length xs = around-fewer (λ node. node.id.0) (entry id stored) xs (has_held id xs other is) in omega arith

-- ---- what is held of a node

pub held_of_entry : HeldIsOfAnEntry
held_of_entry [] id stored is = absurd cc
held_of_entry (x ∷ xs) id stored is = by_test (is_of id x) refl (held_of_entry xs id stored) is
  where
    by_test : (b : Bool) → is_of id x ≡ b → (held xs id ≡ Some stored → (node : HeldNode) × Contains xs node × (node.id.0 ≡ id) × (node.stored ≡ stored))
        → option_map (λ (node : HeldNode). node.stored) (cond b (Some x) (find (is_of id) xs)) ≡ Some stored
        → (node : HeldNode) × Contains (x ∷ xs) node × (node.id.0 ≡ id) × (node.stored ≡ stored)
    by_test true here more at = (x, Contains-head x xs, eqb-true x.id.0 id here, cc)
    by_test false other more at = let found = more at in (found.0, Contains-tail x xs found.0 found.1, found.2, found.3)

held_intact : (xs : List HeldNode) (id : ℕ) (stored : Stored) → All IntactNode xs → held xs id ≡ Some stored → IsIntact stored
held_intact xs id stored all is = let found = held_of_entry xs id stored is in subst IsIntact found.3 (All-contains IntactNode xs found.0 all found.1)

-- ---- the table after each answer

abbrev After : Nodes → PlainState → ℕ → Took → Type 0
After nodes s now took = IsTable (record nodes { entries = entries_after nodes.entries s now took })

put_table : (nodes : Nodes) (id : ℕ) (stored : Stored) → IsTable nodes → IsIntact stored → (held nodes.entries id ≡ None → length nodes.entries ≢ nodes.limit)
    → IsTable (record nodes { entries = put id stored nodes.entries })
put_table nodes id stored are one room =
    are_put nodes.limit id stored nodes.entries (put id stored nodes.entries) are one refl (put_within nodes.limit id stored nodes.entries are.within room)

has_room : (nodes : Nodes) (own : OwnLeaf) (s : PlainState) → ¬ (HasNoRoom nodes (known_of nodes.entries own s.node)) → s.node ≢ own.id.0
    → held nodes.entries s.node ≡ None → length nodes.entries ≢ nodes.limit
has_room nodes own s room other none full =
    room (known_of-other nodes.entries own s.node other ∙ ap (option_map stored_part) none, full)

kept_table : (nodes : Nodes) (own : OwnLeaf) (s : PlainState) (now : ℕ) → (HasTlvs s.body ⊎ (¬ (HasTlvs s.body))) → IsTable nodes
    → ¬ (HasNoRoom nodes (known_of nodes.entries own s.node)) → ¬ (60000 < length s.body) → ¬ (HasWrongHash s) → s.node ≢ own.id.0
    → ¬ (CarriesData s × ¬ (HasTlvs s.body)) → CarriesData s → After nodes s now Kept
kept_table nodes own s now reading are room short right other listed carries =
    let hash_is : hash_of s.body ≡ s.hash = not_not (hash_of s.body ≡ s.hash) (texts_cases (hash_of s.body) s.hash) (λ wrong. right (carries, wrong)) in
    let list : HasTlvs s.body = not_not (HasTlvs s.body) reading (λ none. listed (carries, none)) in
    let few : length s.body ≤ 60000 = elim (cases_lt 60000 (length s.body)) [ inl long ↦ absurd (short long) | inr le ↦ le ] in
    let one : IsIntact (stored_from s now (held nodes.entries s.node)) = record { short = few; listed = list; hashed = sym hash_is } in
    put_table nodes s.node (stored_from s now (held nodes.entries s.node)) are one (has_room nodes own s room other)

renumbered_table : (nodes : Nodes) (s : PlainState) (now : ℕ) → IsTable nodes → After nodes s now Renumbered
renumbered_table nodes s now are = by_held (held nodes.entries s.node) refl
  where
    by_held : (h : Option Stored) → held nodes.entries s.node ≡ h → IsTable (record nodes { entries = entries_changed s.node (stored_renumbered s now) h nodes.entries })
    by_held None is = are
    by_held (Some stored) is =
        let one = held_intact nodes.entries s.node stored are.intact is in
        put_table nodes s.node (stored_renumbered s now stored) are (record { short = one.short; listed = one.listed; hashed = one.hashed }) (λ none. absurd (let clash = sym none ∙ is in cc))

same_table : (nodes : Nodes) (s : PlainState) (now : ℕ) (took line : Took) → After nodes s now line → took ≡ line → After nodes s now took
same_table nodes s now took line are is = subst (After nodes s now) (sym is) are

after_answer : (nodes : Nodes) (own : OwnLeaf) (s : PlainState) (now : ℕ) (took : Took) → (HasTlvs s.body ⊎ (¬ (HasTlvs s.body))) → IsTable nodes → IsAnswer nodes own s took → After nodes s now took
unfolding IsAnswer
after_answer nodes own s now took reading are (inl x) = same_table nodes s now took Stale are x.1
after_answer nodes own s now took reading are (inr (_, inl x)) = same_table nodes s now took Full are x.1
after_answer nodes own s now took reading are (inr (_, inr (_, inl x))) = same_table nodes s now took TooLong are x.1
after_answer nodes own s now took reading are (inr (_, inr (_, inr (_, inl x)))) = same_table nodes s now took BadHash are x.1
after_answer nodes own s now took reading are (inr (_, inr (_, inr (_, inr (_, inl x))))) = same_table nodes s now took Own are x.1
after_answer nodes own s now took reading are (inr (_, inr (_, inr (_, inr (_, inr (_, inl x)))))) = same_table nodes s now took BadBody are x.1
after_answer nodes own s now took reading are (inr (fresh, inr (room, inr (short, inr (right, inr (other, inr (listed, inl x))))))) =
    same_table nodes s now took Kept (kept_table nodes own s now reading are room short right other listed x.0) x.1
after_answer nodes own s now took reading are (inr (_, inr (_, inr (_, inr (_, inr (_, inr (_, inr (_, inl x)))))))) = same_table nodes s now took Ask are x.1
after_answer nodes own s now took reading are (inr (_, inr (_, inr (_, inr (_, inr (_, inr (_, inr (_, inr (_, x))))))))) =
    same_table nodes s now took Renumbered (renumbered_table nodes s now are) x

pub table_stays : ((bytes : List ℕ) → HasTlvs bytes ⊎ (¬ (HasTlvs bytes))) → AcceptanceKeepsTable
table_stays reads nodes own s now next took are accepts =
    subst IsTable (sym accepts.after) (after_answer nodes own s now took (reads s.body) are accepts.answer)
