-- Who is elected, or that nobody stands for election: it cannot be that there is no answer.
use Rattle.hn_base.proofs.Names.{◌≡◌, ◌↔◌, ◌<◌, ◌∙◌, List, [], ◌∷◌, Contains, Option, Some, None, Ordering, sym, ap, subst, inl, inr, MatchOption, IsTotalOrder, on, same_Some, on_total, then_total}
use Rattle.hn_base.proofs.Names.{nat_cmp_total, Some! }
use Rattle.hn_router.proofs.Names.{EpId, NodeId, Letter, nothing_in, some_by, some_is, some_then, PlainView, Entry, IsElected, HasNoCandidate, seen_by, ElectedExists}
use Rattle.hn_base.proofs.AscendingLists.{Contains-head, Contains-tail, Contains-cases}
use Rattle.hn_base.proofs.Greatest.{greatest_of}
use Rattle.hn_data.specs.Items.{HasItems}
use Rattle.hn_data.specs.Laws.{ItemsAreUnique}
use Rattle.hn_data.specs.Said.{version_of}
use Rattle.hn_link.specs.Election.{priority_of, rank_of, rank_cmp, IsElectionCandidate}
use Rattle.hn_link.specs.Laws.{CommonLinkExists}
use Rattle.hn_rules.specs.Laws.{ViewIsNetwork}
use Rattle.hn_typed.specs.Item.{PlainCaps}

module _ (unique : ItemsAreUnique) (common : List (NodeId × EpId)) (letter : Letter) where
  -- who stands for election, and with which capabilities
  abbrev Candidate : Type 0
  Candidate = NodeId × PlainCaps

  -- in order of their ranks
  abbrev candidate_cmp : Candidate → Candidate → Ordering
  candidate_cmp = on (λ (x : Candidate). rank_of letter x.1 x.0) rank_cmp

  candidates_total : IsTotalOrder candidate_cmp
  candidates_total = on_total (λ (x : Candidate). rank_of letter x.1 x.0)
      (then_total (on_total (λ r. r.priority) nat_cmp_total) (then_total (on_total (λ r. r.combined) nat_cmp_total) (on_total (λ r. r.node.0) nat_cmp_total)))

  -- a node stands for election
  record Stands (n : Entry) (x : Candidate) : Type 0 where
    pub is_it : n.id ≡ x.0
    pub endpoint : EpId
    pub on_link : Contains common (x.0, endpoint)
    pub version : HasItems n.body (λ items. version_of items ≡ Some x.1)
    pub offers : 0 < priority_of letter x.1

  -- with its capabilities, and no others
  one_version : (n : Entry) (c d : PlainCaps) → HasItems n.body (λ items. version_of items ≡ Some c) → HasItems n.body (λ items. version_of items ≡ Some d) → Some c ≡ Some d
  one_version n c d (items, are, is) (others, also, other) = sym is ∙ ap version_of (unique n.body items others are also) ∙ other

  one_candidate : (n : Entry) (x y : Candidate) → Stands n x → Stands n y → x ≡ y
  one_candidate n x y a b =
      let id : x.0 ≡ y.0 = sym a.is_it ∙ b.is_it in
      let caps : x.1 ≡ y.1 = same_Some x.1 y.1 (one_version n x.1 y.1 a.version b.version) in
      λ i. (id i, caps i)

  -- those that stand
  abbrev AreCandidates : List Entry → List Candidate → Type 0
  AreCandidates nodes xs = (x : Candidate) → Contains xs x ↔ ((n : Entry) × Contains nodes n × Stands n x)

  with_one : (n : Entry) (ns : List Entry) (xs : List Candidate) (y : Candidate) → AreCandidates ns xs → Stands n y → AreCandidates (n ∷ ns) (y ∷ xs)
  with_one n ns xs y are stands x = (
    λ h. elim (Contains-cases y xs x h) [
      | inl same ↦ (n, Contains-head n ns, subst (Stands n) same stands)
      | inr later ↦ let of = (are x).0 later in (of.0, Contains-tail n ns of.0 of.1, of.2)
    ],
    λ h. elim (Contains-cases n ns h.0 h.1) [
      | inl same ↦ subst (Contains (y ∷ xs)) (one_candidate n y x stands (subst (λ (m : Entry). Stands m x) (sym same) h.2)) (Contains-head y xs)
      | inr later ↦ Contains-tail y xs x ((are x).1 (h.0, later, h.2))
    ],
  )

  without_one : (n : Entry) (ns : List Entry) (xs : List Candidate) → AreCandidates ns xs → ((y : Candidate) → ¬ (Stands n y)) → AreCandidates (n ∷ ns) xs
  without_one n ns xs are none x = (
    λ h. let of = (are x).0 h in (of.0, Contains-tail n ns of.0 of.1, of.2),
    λ h. elim (Contains-cases n ns h.0 h.1) [
      | inl same ↦ absurd (none x (subst (λ (m : Entry). Stands m x) (sym same) h.2))
      | inr later ↦ (are x).1 (h.0, later, h.2)
    ],
  )

  some_candidates : (nodes : List Entry) → Some! (AreCandidates nodes)
  some_candidates [] = some_is (AreCandidates []) [] (λ x. (λ h. absurd (nothing_in x h), λ h. absurd (nothing_in h.0 h.1)))
  some_candidates (n ∷ ns) = some_then (some_candidates ns) (λ xs are.
      some_by ((y : Candidate) × Stands n y)
      (λ stands none. none (stands.0 ∷ xs) (with_one n ns xs stands.0 are stands.1))
      (λ not none. none xs (without_one n ns xs are (λ y stands. not (y, stands)))))

  -- ---- the greatest

  module _ (view : PlainView) where
    abbrev IsWho : Option NodeId → Type 0
    IsWho who = MatchOption who (HasNoCandidate view common letter) (IsElected view common letter)

    stands_of : (id : NodeId) (caps : PlainCaps) → IsElectionCandidate view common letter id caps → (n : Entry) × Contains view.nodes n × Stands n (id, caps)
    stands_of id caps c = (
      c.serves.node,
      c.serves.there,
      record { is_it = c.serves.is_it; endpoint = c.endpoint; on_link = c.on_link; version = c.serves.version; offers = c.serves.offers },
    )

    who_of : (xs : List Candidate) → AreCandidates view.nodes xs → Some! IsWho
    who_of xs are = elim (greatest_of candidates_total (λ (x : Candidate). Unit {0}) (λ x. inl tt) xs) [
      | inl (x, best) ↦ λ none.
          let (n, there, stands) = (are x).0 best.is_in in
          none (Some x.0) (record {
            caps = x.1;
            candidate = record {
              endpoint = stands.endpoint;
              on_link = stands.on_link;
              serves = record { node = n; there = there; is_it = stands.is_it; version = stands.version; offers = stands.offers };
            };
            greatest = λ other caps candidate less. best.greatest (other, caps) ((are (other, caps)).1 (stands_of other caps candidate)) tt less;
          })
      | inr nobody ↦ λ none. none None (λ id caps candidate. nobody (id, caps) ((are (id, caps)).1 (stands_of id caps candidate)) tt)
    ]

pub some_elected : ItemsAreUnique → CommonLinkExists → ViewIsNetwork → ElectedExists
some_elected unique common_exists network s e letter router =
    let common = common_exists (seen_by s) e.0 (network s router) in
    some_then (some_candidates unique common.0 letter (seen_by s).nodes) (λ xs are.
    some_then (who_of unique common.0 letter (seen_by s) xs are) (λ who is none. none who (record { common = common.0; is_common = common.1; is_elected = is })))
