-- What a write to the entry of a node makes of the map.
use Rattle.hn_base.proofs.Names.{◌≡◌, ◌≢◌, ◌≤◌, ◌∙◌, ℕ, inl, inr, List, length, get_or, set, Option, Some, None, refl, sym, ap, subst, insert, option_map}
use Rattle.hn_store.proofs.Names.{HasTlvs, hash_of, Part, Renumbered, Ask, Stored, HeldNode, IsTable, IsIntact, held, entry, put, IsPlaceOf, IsGapFor, PlainState, held_part, stored_from}
use Rattle.hn_store.proofs.Names.{stored_renumbered, entries_changed, entries_after, IsOfNumber}
use Rattle.hn_store.proofs.NodePlaces.{held-at, held-none, put-at, put-in}
use Rattle.hn_store.proofs.TableStays.{IsTable-set}

-- ---- an entry that was read from its place

pub held_there : (xs : List HeldNode) (id i : ℕ) (x : HeldNode) → IsPlaceOf xs id i → x ≡ get_or xs i x → held xs id ≡ Some x.stored
held_there xs id i x p is = held-at xs id i x p ∙ ap (λ (node : HeldNode). Some node.stored) (sym is)

entry_is : (xs : List HeldNode) (id i : ℕ) (x : HeldNode) (stored : Stored) → IsPlaceOf xs id i → x ≡ get_or xs i x
    → ◌≡◌ {A = HeldNode} (record { id = x.id; stored = stored }) (entry id stored)
entry_is xs id i x stored p is =
    ap (λ n. entry n stored) (ap (λ (node : HeldNode). node.id.0) is ∙ p.here x)

-- the entry with other contents
pub put_there : (xs : List HeldNode) (id i : ℕ) (x : HeldNode) (stored : Stored) → IsPlaceOf xs id i → x ≡ get_or xs i x
    → set xs i (record { id = x.id; stored = stored }) ≡ put id stored xs
put_there xs id i x stored p is = ap (set xs i) (entry_is xs id i x stored p is) ∙ put-at xs id i stored p

pub IsTable-there : (limit : ℕ) (xs : List HeldNode) (id i : ℕ) (x : HeldNode) (stored : Stored) → IsTable (record { limit = limit; entries = xs })
    → IsPlaceOf xs id i → x ≡ get_or xs i x → IsIntact stored
    → IsTable (record { limit = limit; entries = set xs i (record { id = x.id; stored = stored }) })
IsTable-there limit xs id i x stored are p is one =
    let P = λ (node : HeldNode). IsTable (record { limit = limit; entries = set xs i node }) in
    subst P (sym (entry_is xs id i x stored p is)) (IsTable-set limit id i stored xs are p one)

-- what is held of a node is intact
pub intact_there : (limit : ℕ) (xs : List HeldNode) (id i : ℕ) (x : HeldNode) → IsTable (record { limit = limit; entries = xs })
    → IsPlaceOf xs id i → x ≡ get_or xs i x → IsIntact x.stored
intact_there limit xs id i x are p is = subst (λ (node : HeldNode). IsIntact node.stored) (sym is) (are.intact i x p.within)

-- ---- a state without data

pub ask_unknown : (xs : List HeldNode) (id i : ℕ) (s : PlainState) → IsGapFor xs id i → IsOfNumber (held_part xs id) s Ask
ask_unknown xs id i s g =
    let none : held_part xs id ≡ None = ap (option_map (λ (stored : Stored). let part : Part = record { number = stored.number; hash = stored.hash } in part)) (held-none xs id i g) in
    subst (λ (known : Option Part). IsOfNumber known s Ask) (sym none) (inl (tt, refl))

part_there : (xs : List HeldNode) (id i : ℕ) (x : HeldNode) → IsPlaceOf xs id i → x ≡ get_or xs i x
    → held_part xs id ≡ Some (record { number = x.stored.number; hash = x.stored.hash })
part_there xs id i x p is =
    ap (option_map (λ (stored : Stored). let part : Part = record { number = stored.number; hash = stored.hash } in part)) (held_there xs id i x p is)

pub ask_other : (xs : List HeldNode) (id i : ℕ) (x : HeldNode) (s : PlainState) → IsPlaceOf xs id i → x ≡ get_or xs i x → x.stored.hash ≢ s.hash
    → IsOfNumber (held_part xs id) s Ask
ask_other xs id i x s p is other =
    subst (λ (known : Option Part). IsOfNumber known s Ask) (sym (part_there xs id i x p is)) (inl (other, refl))

pub renumber_same : (xs : List HeldNode) (id i : ℕ) (x : HeldNode) (s : PlainState) → IsPlaceOf xs id i → x ≡ get_or xs i x → x.stored.hash ≡ s.hash
    → IsOfNumber (held_part xs id) s Renumbered
renumber_same xs id i x s p is same =
    subst (λ (known : Option Part). IsOfNumber known s Renumbered) (sym (part_there xs id i x p is)) (inr (λ other. other same, refl))

pub after_renumbered : (xs : List HeldNode) (i : ℕ) (x : HeldNode) (s : PlainState) (now : ℕ) → IsPlaceOf xs s.node i → x ≡ get_or xs i x
    → set xs i (record { id = x.id; stored = stored_renumbered s now x.stored }) ≡ entries_after xs s now Renumbered
after_renumbered xs i x s now p is =
    put_there xs s.node i x (stored_renumbered s now x.stored) p is ∙ sym (ap (λ (before : Option Stored). entries_changed s.node (stored_renumbered s now) before xs) (held_there xs s.node i x p is))

pub intact_renumbered : (s : PlainState) (now : ℕ) (stored : Stored) → IsIntact stored → IsIntact (stored_renumbered s now stored)
intact_renumbered s now stored one = record { short = one.short; listed = one.listed; hashed = one.hashed }

-- ---- a state with data

pub intact_kept : (s : PlainState) (now : ℕ) (before : Option Stored) (body : List ℕ) → body ≡ s.body → length body ≤ 60000 → HasTlvs body → s.hash ≡ hash_of body
    → IsIntact (stored_from s now before)
intact_kept s now before body same short listed hashed = record {
  short = subst (λ (bytes : List ℕ). length bytes ≤ 60000) same short;
  listed = subst HasTlvs same listed;
  hashed = hashed ∙ ap hash_of same;
}

pub after_replaced : (xs : List HeldNode) (i : ℕ) (x : HeldNode) (s : PlainState) (now : ℕ) → IsPlaceOf xs s.node i → x ≡ get_or xs i x
    → set xs i (record { id = x.id; stored = stored_from s now (Some x.stored) }) ≡ put s.node (stored_from s now (held xs s.node)) xs
after_replaced xs i x s now p is =
    put_there xs s.node i x (stored_from s now (Some x.stored)) p is ∙ sym (ap (λ (before : Option Stored). put s.node (stored_from s now before) xs) (held_there xs s.node i x p is))

pub after_inserted : (xs : List HeldNode) (i : ℕ) (s : PlainState) (now : ℕ) → IsGapFor xs s.node i
    → insert xs i (entry s.node (stored_from s now None)) ≡ put s.node (stored_from s now (held xs s.node)) xs
after_inserted xs i s now g =
    put-in xs s.node i (stored_from s now None) g ∙ sym (ap (λ (before : Option Stored). put s.node (stored_from s now before) xs) (held-none xs s.node i g))
