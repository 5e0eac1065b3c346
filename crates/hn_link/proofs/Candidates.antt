-- The ranks of the nodes on a link, endpoint by endpoint.
use Rattle.hn_base.proofs.Names.{◌≡◌, ◌⊎◌, ℕ, ◌+◌, ◌≤◌, List, Some, None, Option, Ordering, refl, sym, ◌∙◌, ap, subst, inl, inr, ⊎_elim, slice_get, length, cond, IfSome, Less, Equal, Greater}
use Rattle.hn_base.proofs.Names.{option_map, option_map_or, ord_max, ordering_reverse, is_lt, slice_get_read}
use Rattle.hn_link.proofs.Names.{IfNone, NodeId, EpId, Letter, IsOfFirst, first_further, first_last, first_cases, first_of_all, contains_at, PlainCaps, PlainView, Rank, IsServing, rank_of, rank_cmp}
use Rattle.hn_link.proofs.Names.{IsElected, HasNoCandidate, IsBestRank}
use Rattle.hn_base.proofs.AscendingLists.{not_below_itself}
use Rattle.hn_link.specs.Election.{IsElectionCandidate}
use Rattle.hn_link.specs.Standing.{HasRank, IsGreatestRank}
use Rattle.hn_link.proofs.Elections.{rank_total, exact_rank}

-- ---- the greatest of some ranks, and one more

not_below : (x r : Rank) → x ≡ r → ¬ (rank_cmp r x ≡ Less)
not_below x r is = not_below_itself rank_cmp rank_total r x (sym is)

-- the greater of the greatest and the next one, by how these compare
greater_of : (P P' : Rank → Type 0) (b r : Rank) (o : Ordering) → rank_cmp r b ≡ o → IsGreatestRank P b → ((x : Rank) → P x → P' x) → P' r → ((x : Rank) → P' x → P x ⊎ (x ≡ r))
    → IsGreatestRank P' (cond (is_lt o) b r)
greater_of P P' b r Less e g wider here only = record {
  among = wider b g.among;
  greatest = λ x p h. ⊎_elim (λ (old : P x). g.greatest x old h)
      (λ (is : x ≡ r). not_below x r is (rank_total.trans r b x e h))
      (only x p);
}
greater_of P P' b r Equal e g wider here only = record {
  among = here;
  greatest = λ x p h. ⊎_elim (λ (old : P x). g.greatest x old (subst (λ (z : Rank). rank_cmp z x ≡ Less) (exact_rank r b e) h))
      (λ (is : x ≡ r). not_below x r is h)
      (only x p);
}
greater_of P P' b r Greater e g wider here only = record {
  among = here;
  greatest = λ x p h. ⊎_elim (λ (old : P x). g.greatest x old (rank_total.trans b r x (rank_total.antisymm b r ∙ ap ordering_reverse e) h))
      (λ (is : x ≡ r). not_below x r is h)
      (only x p);
}

pub best_more : (P P' : Rank → Type 0) (best : Option Rank) (r : Rank) → IsBestRank P best → ((x : Rank) → P x → P' x) → P' r → ((x : Rank) → P' x → P x ⊎ (x ≡ r))
    → IsBestRank P' (Some (option_map_or (λ b. ord_max rank_cmp b r) best r))
best_more P P' None r were wider here only = record {
  among = here;
  greatest = λ x p. ⊎_elim (λ (old : P x). absurd (were x old)) (not_below x r) (only x p);
}
best_more P P' (Some b) r were wider here only = greater_of P P' b r (rank_cmp r b) refl were wider here only

-- the same ranks
pub best_same : (P P' : Rank → Type 0) (best : Option Rank) → IsBestRank P best → ((x : Rank) → P x → P' x) → ((x : Rank) → P' x → P x) → IsBestRank P' best
best_same P P' None were to from = λ x p. were x (from x p)
best_same P P' (Some b) were to from = record { among = to b were.among; greatest = λ x p. were.greatest x (from x p) }

-- ---- the ranks of the nodes of the first n endpoints

abbrev pub RanksBefore : PlainView → Letter → List (NodeId × EpId) → ℕ → Rank → Type 0
RanksBefore view letter common n rank = IsOfFirst (λ _ at. HasRank view letter at.0 rank) common n

-- the node of the next endpoint serves
pub candidate_more : (view : PlainView) (letter : Letter) (common : List (NodeId × EpId)) (n : ℕ) (at : NodeId × EpId) (best : Option Rank) (r : Rank)
    → IsBestRank (RanksBefore view letter common n) best → slice_get common n ≡ Some at → HasRank view letter at.0 r
    → ((caps : PlainCaps) → IsServing view letter at.0 caps → r ≡ rank_of letter caps at.0)
    → IsBestRank (RanksBefore view letter common (n + 1)) (Some (option_map_or (λ b. ord_max rank_cmp b r) best r))
candidate_more view letter common n at best r were stands has each =
    best_more (RanksBefore view letter common n) (RanksBefore view letter common (n + 1)) best r were (λ x. first_further (λ _ a. HasRank view letter a.0 x) common n)
    (first_last (λ _ a. HasRank view letter a.0 r) common n at stands has)
    (λ x h. ⊎_elim (λ (old : RanksBefore view letter common n x). inl old)
    (λ (new : HasRank view letter at.0 x). inr (new.is_it ∙ sym (each new.caps new.serves)))
    (first_cases (λ _ a. HasRank view letter a.0 x) common n at stands h))

-- the node of the next endpoint does not serve
pub candidate_same : (view : PlainView) (letter : Letter) (common : List (NodeId × EpId)) (n : ℕ) (at : NodeId × EpId) (best : Option Rank)
    → IsBestRank (RanksBefore view letter common n) best → slice_get common n ≡ Some at → ((caps : PlainCaps) → ¬ (IsServing view letter at.0 caps))
    → IsBestRank (RanksBefore view letter common (n + 1)) best
candidate_same view letter common n at best were stands none =
    best_same (RanksBefore view letter common n) (RanksBefore view letter common (n + 1)) best were (λ x. first_further (λ _ a. HasRank view letter a.0 x) common n)
    (λ x h. ⊎_elim (λ (old : RanksBefore view letter common n x). old)
    (λ (new : HasRank view letter at.0 x). absurd (none new.caps new.serves))
    (first_cases (λ _ a. HasRank view letter a.0 x) common n at stands h))

-- ---- all endpoints

-- a candidate has a rank among all
candidate_rank : (view : PlainView) (letter : Letter) (common : List (NodeId × EpId)) (n : ℕ) (id : NodeId) (caps : PlainCaps) → length common ≤ n
    → IsElectionCandidate view common letter id caps → RanksBefore view letter common n (rank_of letter caps id)
candidate_rank view letter common n id caps all candidate =
    let there = candidate.on_link in
    let stands = slice_get_read common (length common) there.0 (id, candidate.endpoint) refl there.1 (sym there.2) in
    first_of_all (λ _ a. HasRank view letter a.0 (rank_of letter caps id)) common n there.0 (id, candidate.endpoint) all stands (record { caps = caps; serves = candidate.serves; is_it = refl })

pub elected_from_best : (view : PlainView) (letter : Letter) (common : List (NodeId × EpId)) (n : ℕ) (best : Rank) → length common ≤ n
    → IsBestRank (RanksBefore view letter common n) (Some best) → IsElected view common letter best.node
elected_from_best view letter common n best all is =
    let among = is.among in
    let has = among.fact in
    let same : best.node ≡ among.x.0 = ap (λ r. r.node) has.is_it in
    subst (IsElected view common letter) (sym same) (record {
      caps = has.caps;
      candidate = record { endpoint = among.x.1; on_link = contains_at common among.k among.x among.at; serves = has.serves };
      greatest = λ other others candidate h. is.greatest (rank_of letter others other) (candidate_rank view letter common n other others all candidate)
          (subst (λ (r : Rank). rank_cmp r (rank_of letter others other) ≡ Less) (sym has.is_it) h);
    })

pub none_from_best : (view : PlainView) (letter : Letter) (common : List (NodeId × EpId)) (n : ℕ) → length common ≤ n
    → IsBestRank (RanksBefore view letter common n) None → HasNoCandidate view common letter
none_from_best view letter common n all is id caps candidate = is (rank_of letter caps id) (candidate_rank view letter common n id caps all candidate)

-- the node of the best rank is who is elected
pub outcome : (view : PlainView) (letter : Letter) (common : List (NodeId × EpId)) (n : ℕ) (best : Option Rank) (who : Option NodeId) → length common ≤ n
    → IsBestRank (RanksBefore view letter common n) best → who ≡ option_map (λ r. r.node) best
    → IfSome who (IsElected view common letter) × IfNone who (HasNoCandidate view common letter)
outcome view letter common n None who all is node = rw node (tt, none_from_best view letter common n all is)
outcome view letter common n (Some best) who all is node = rw node (elected_from_best view letter common n best all is, tt)
