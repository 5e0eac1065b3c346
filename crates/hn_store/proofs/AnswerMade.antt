-- An answer to each node state: the condition of each line holds, or it does not.
use Rattle.hn_base.proofs.Names.{◌≡◌, ◌<◌, ◌≤◌, ◌+◌, ◌-◌, ◌%◌, ◌^◌, ℕ, inl, inr, List, [], length, Option, Some, None, refl, arith, cases_lt, nat_cmp, nat_cmp_total, LineElse}
use Rattle.hn_store.proofs.Names.{texts_cases, HasTlvs, hash_of, Part, OwnLeaf, Took, Kept, Renumbered, Ask, Stale, BadHash, BadBody, TooLong, Full, Own, Nodes, PlainState, known_of, CarriesData}
use Rattle.hn_store.proofs.Names.{IsStale, HasNoRoom, IsNews, entries_after, Accepts}
use Rattle.hn_base.proofs.AscendingLists.{exact_nat}
use Rattle.hn_base.proofs.SoOrNot.{Decided, both_decided}
use Rattle.hn_base.proofs.DecidingTests.{cases_by}
use Rattle.hn_store.specs.Acceptance.{IsAnswer}

-- ---- conditions

not_decided : {A : Type 0} → Decided A → Decided (¬ A)
not_decided (inl is) = inr (λ none. none is)
not_decided (inr none) = inl none

above_or_not : (m n : ℕ) → Decided (m < n)
above_or_not m n = elim (cases_lt m n) [ inl less ↦ inl less | inr past ↦ inr (λ less. omega (arith, less, past)) ]

same_or_not : (m n : ℕ) → Decided (m ≡ n)
same_or_not = cases_by nat_cmp nat_cmp_total exact_nat

older_or_not : (d : ℕ) → Decided (2 ^ 31 ≤ d)
older_or_not d = elim (cases_lt d (2 ^ 31)) [ inl less ↦ inr (λ past. omega (arith, less, past)) | inr past ↦ inl past ]

stale_or_not : (known : Option Part) (s : PlainState) → Decided (IsStale known s)
stale_or_not None s = inr (λ none. none)
stale_or_not (Some known) s =
    both_decided (not_decided (older_or_not ((known.number + 2 ^ 32 - s.number) % 2 ^ 32)))
    (not_decided (both_decided (same_or_not known.number s.number) (not_decided (texts_cases known.hash s.hash))))

full_or_not : (nodes : Nodes) (known : Option Part) → Decided (HasNoRoom nodes known)
full_or_not nodes None = both_decided (inl refl) (same_or_not (length nodes.entries) nodes.limit)
full_or_not nodes (Some known) = inr (λ full. let none : Some known ≡ None = full.0 in absurd cc)

carried_or_not : (s : PlainState) → Decided (CarriesData s)
carried_or_not s = either (texts_cases s.body []) (texts_cases s.hash (hash_of []))
  where
    either : Decided (s.body ≡ []) → Decided (s.hash ≡ hash_of []) → Decided (CarriesData s)
    either (inr bytes) hash = inl (inl bytes)
    either (inl none) (inl is) = inl (inr is)
    either (inl none) (inr other) = inr (λ carries. elim carries [ inl bytes ↦ bytes none | inr is ↦ other is ])

news_or_not : (known : Option Part) (s : PlainState) → Decided (IsNews known s)
news_or_not None s = inl tt
news_or_not (Some known) s = not_decided (texts_cases known.hash s.hash)

-- ---- lines

-- there is an answer at this line, or at those after it
line : {condition : Type 0} {lines : Took → Type 0} (took : Took) → Decided condition → (other : Took) × lines other
    → (t : Took) × LineElse condition (t ≡ took) (lines t)
line took (inl holds) others = (took, inl (holds, refl))
line took (inr none) (other, is) = (other, inr (none, is))

answer_made : ((bytes : List ℕ) → Decided (HasTlvs bytes)) → (nodes : Nodes) (own : OwnLeaf) (s : PlainState) → (took : Took) × IsAnswer nodes own s took
unfolding IsAnswer
answer_made listed_or_not nodes own s =
    let known = known_of nodes.entries own s.node in
    let carried = carried_or_not s in
    line Stale (stale_or_not known s) (line Full (full_or_not nodes known) (line TooLong (above_or_not 60000 (length s.body))
    (line BadHash (both_decided carried (not_decided (texts_cases (hash_of s.body) s.hash))) (line Own (same_or_not s.node own.id.0)
    (line BadBody (both_decided carried (not_decided (listed_or_not s.body))) (line Kept carried (line Ask (news_or_not known s) (Renumbered, refl))))))))

-- and a table after it
pub acceptance_made : ((bytes : List ℕ) → Decided (HasTlvs bytes)) → (nodes : Nodes) (own : OwnLeaf) (s : PlainState) (now : ℕ)
    → (next : Nodes) × (took : Took) × Accepts nodes own s now next took
acceptance_made listed_or_not nodes own s now =
    let answer = answer_made listed_or_not nodes own s in
    let took = answer.0 in
    (record nodes { entries = entries_after nodes.entries s now took }, took, record { answer = answer.1; after = refl })
