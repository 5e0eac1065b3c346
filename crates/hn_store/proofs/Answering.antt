-- The answer to a node state, line by line.
use Rattle.hn_base.proofs.Names.{◌≡◌, ◌≢◌, ◌<◌, ℕ, inl, inr, List, length, Option, refl, sym, ap, subst, arith, IfOk, ne_eqb, LineElse}
use Rattle.hn_store.proofs.Names.{HasTlvs, Part, OwnLeaf, Took, Kept, Renumbered, Ask, Stale, BadHash, BadBody, TooLong, Full, Own, HeldNode, Nodes, PlainState, held_part, known_of, CarriesData}
use Rattle.hn_store.proofs.Names.{HasWrongHash, IsStale, HasNoRoom, IsNews, entries_after, Accepts, IsOfNumber}
use Rattle.std.specs.Prelude.{Result, Ok, Err}
use Rattle.hn_store.specs.Acceptance.{IsAnswer}
use Rattle.hn_store.specs.AcceptanceParts.{HasRightHash, IsPassed, IsOfData}

pub stale : (nodes : Nodes) (own : OwnLeaf) (s : PlainState) → IsStale (known_of nodes.entries own s.node) s → IsAnswer nodes own s Stale
unfolding IsAnswer
stale nodes own s is = inl (is, refl)

pub full : (nodes : Nodes) (own : OwnLeaf) (s : PlainState) → ¬ (IsStale (known_of nodes.entries own s.node) s)
    → HasNoRoom nodes (known_of nodes.entries own s.node) → IsAnswer nodes own s Full
unfolding IsAnswer
full nodes own s fresh is = inr (fresh, inl (is, refl))

pub too_long : (nodes : Nodes) (own : OwnLeaf) (s : PlainState) → ¬ (IsStale (known_of nodes.entries own s.node) s)
    → ¬ (HasNoRoom nodes (known_of nodes.entries own s.node)) → 60000 < length s.body → IsAnswer nodes own s TooLong
unfolding IsAnswer
too_long nodes own s fresh room is = inr (fresh, inr (room, inl (is, refl)))

-- a state that the first three lines let through
passed : (nodes : Nodes) (own : OwnLeaf) (s : PlainState) (took : Took) → IsPassed nodes own s
    → LineElse (HasWrongHash s) (took ≡ BadHash)
    (LineElse (s.node ≡ own.id.0) (took ≡ Own)
    (LineElse (CarriesData s × ¬ (HasTlvs s.body)) (took ≡ BadBody)
    (LineElse (CarriesData s) (took ≡ Kept)
    (LineElse (IsNews (known_of nodes.entries own s.node) s) (took ≡ Ask)
    (took ≡ Renumbered))))) → IsAnswer nodes own s took
unfolding IsAnswer
passed nodes own s took p later = inr (p.fresh, inr (p.room, inr ((λ long. let short = p.short in omega arith), later)))

pub bad_hash : (nodes : Nodes) (own : OwnLeaf) (s : PlainState) → IsPassed nodes own s → HasWrongHash s → IsAnswer nodes own s BadHash
bad_hash nodes own s p wrong = passed nodes own s BadHash p (inl (wrong, refl))

right : (s : PlainState) → HasRightHash s → ¬ (HasWrongHash s)
right s hash both = both.1 (hash both.0)

pub own_claimed : (nodes : Nodes) (own : OwnLeaf) (s : PlainState) → IsPassed nodes own s → HasRightHash s → s.node ≡ own.id.0 → IsAnswer nodes own s Own
own_claimed nodes own s p hash is = passed nodes own s Own p (inr (right s hash, inl (is, refl)))

pub of_data : (nodes : Nodes) (own : OwnLeaf) (s : PlainState) (took : Took) → IsPassed nodes own s → HasRightHash s → s.node ≢ own.id.0
    → CarriesData s → IsOfData s took → IsAnswer nodes own s took
of_data nodes own s took p hash other carries (inl (none, is)) = passed nodes own s took p (inr (right s hash, inr (other, inl ((carries, none), is))))
of_data nodes own s took p hash other carries (inr (list, is)) =
    passed nodes own s took p (inr (right s hash, inr (other, inr ((λ bad. bad.1 list), inl (carries, is)))))

-- what is known of another node is what is held
pub known_of-other : (entries : List HeldNode) (own : OwnLeaf) (id : ℕ) → id ≢ own.id.0 → known_of entries own id ≡ held_part entries id
known_of-other entries own id other = rw (ne_eqb id own.id.0 other) refl

pub of_number : (nodes : Nodes) (own : OwnLeaf) (s : PlainState) (took : Took) → IsPassed nodes own s → HasRightHash s → s.node ≢ own.id.0
    → ¬ (CarriesData s) → IsOfNumber (held_part nodes.entries s.node) s took → IsAnswer nodes own s took
of_number nodes own s took p hash other none line =
    passed nodes own s took p (inr (
      right s hash,
      inr (
        other,
        inr (
          (λ bad. none bad.0),
          inr (
            none,
            subst (λ (known : Option Part). IsOfNumber known s took) (sym (known_of-other nodes.entries own s.node other)) line,
          ),
        ),
      ),
    ))

-- ---- with the table after it

-- an answer that leaves the table as it is
pub unchanged : (nodes : Nodes) (own : OwnLeaf) (s : PlainState) (now : ℕ) (took : Took) → entries_after nodes.entries s now took ≡ nodes.entries
    → IsAnswer nodes own s took → Accepts nodes own s now nodes took
unchanged nodes own s now took same answer = record {
  answer = answer;
  after = ap (λ (es : List HeldNode). let n : Nodes = record nodes { entries = es } in n) (sym same);
}

-- what a call answers of data
pub of_data_ok : {E : Type 0} (nodes : Nodes) (own : OwnLeaf) (s : PlainState) (now : ℕ) (next : Nodes) (r : Result Took E) → IsPassed nodes own s → HasRightHash s
    → s.node ≢ own.id.0 → CarriesData s → IfOk r (IsOfData s) → IfOk r (λ took. next ≡ record nodes { entries = entries_after nodes.entries s now took })
    → IfOk r (Accepts nodes own s now next)
of_data_ok nodes own s now next (Ok took) p hash other carries comes after =
    record { answer = of_data nodes own s took p hash other carries comes; after = after }
of_data_ok nodes own s now next (Err e) p hash other carries comes after = tt
