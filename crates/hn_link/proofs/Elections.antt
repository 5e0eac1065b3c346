-- The order of ranks, and that at most one node is elected.
use Rattle.hn_base.proofs.Names.{◌≡◌, ℕ, List, Option, Some, None, Ordering, refl, ◌∙◌, ap, MatchOption, Less, Equal, Greater, IsTotalOrder, on, then_cmp, nat_cmp, ordering_reverse, on_total}
use Rattle.hn_base.proofs.Names.{then_total, nat_cmp_total, IsExact}
use Rattle.hn_link.proofs.Names.{NodeId, EpId, Letter, exact_nat, exact_then, PlainView, Rank, rank_of, rank_cmp, IsElected, HasNoCandidate}

pub rank_total : IsTotalOrder rank_cmp
rank_total = then_total (on_total (λ r. r.priority) nat_cmp_total) (then_total (on_total (λ r. r.combined) nat_cmp_total) (on_total (λ r. r.node.0) nat_cmp_total))

pub exact_rank : IsExact rank_cmp
exact_rank =
    exact_then (λ r. r.priority) (λ r. (r.combined, r.node.0)) nat_cmp (then_cmp (on (λ p. p.0) nat_cmp) (on (λ p. p.1) nat_cmp)) exact_nat
    (exact_then {K = ℕ × ℕ} (λ p. p.0) (λ p. p.1) nat_cmp nat_cmp exact_nat exact_nat (λ p q first second. λ i. (first i, second i)))
    (λ a b priority rest. λ i. record { priority = priority i; combined = (rest i).0; node = record { 0 = (rest i).1 } })

-- neither is below the other: they are one
pub neither_below : (a b : Rank) → ¬ (rank_cmp a b ≡ Less) → ¬ (rank_cmp b a ≡ Less) → a ≡ b
neither_below a b p q = by_case (rank_cmp a b) refl
  where
    by_case : (o : Ordering) → rank_cmp a b ≡ o → a ≡ b
    by_case Less e = absurd (p e)
    by_case Equal e = exact_rank a b e
    by_case Greater e = absurd (q (rank_total.antisymm b a ∙ ap ordering_reverse e))

-- ---- who is elected

pub one_elected : (view : PlainView) (common : List (NodeId × EpId)) (letter : Letter) (a b : NodeId) → IsElected view common letter a → IsElected view common letter b → a ≡ b
one_elected view common letter a b p q =
    let one = neither_below (rank_of letter p.caps a) (rank_of letter q.caps b) (p.greatest b q.caps q.candidate) (q.greatest a p.caps p.candidate) in
    ap (λ (r : Rank). r.node) one

-- who is elected, or that nobody stands for election, has one answer
pub one_who : (view : PlainView) (common : List (NodeId × EpId)) (letter : Letter) (who other : Option NodeId)
    → MatchOption who (HasNoCandidate view common letter) (IsElected view common letter) → MatchOption other (HasNoCandidate view common letter) (IsElected view common letter) → who ≡ other
one_who view common letter None None is k = refl
one_who view common letter None (Some b) is k = absurd (is b k.caps k.candidate)
one_who view common letter (Some a) None is k = absurd (k a is.caps is.candidate)
one_who view common letter (Some a) (Some b) is k = ap Some (one_elected view common letter a b is k)
