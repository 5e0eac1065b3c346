use Rattle.hn_base.proofs.Names.{rules, ◌≡◌, ◌↔◌, ◌<◌, ℕ, IsTrue, List, Contains, Some, Ok, Err, Result, MatchResult, is_ok, length, map, slice_get, refl, sym, subst, answers_always}
use Rattle.hn_audit.proofs.Names.{Contains-map, sorted_parts, contains_at, part_at, Wish, Pair, IsWished, assigned_pair, pair_cmp, wish_pair}
use Rattle.hn_base.proofs.PartsAtPlaces.{found_by}
use Rattle.hn_audit.proofs.resting.is_asked.Goals as goal

-- where the pairs of wishes have a pair, there is a wish for it
wished_where : (wishes : List Wish) (pair : Pair) (r : Result ℕ ℕ)
    → MatchResult r (λ i. (i < length wishes) × (slice_get (map wish_pair wishes) i ≡ Some pair)) (λ _. ¬ (Contains (map wish_pair wishes) pair)) → IsTrue (is_ok r) ↔ IsWished wishes pair
wished_where wishes pair (Ok i) (within, at) =
    let found = part_at wish_pair wishes i pair at in
    (λ is. (found.0, contains_at wishes i found.0 found.1, found.2), λ wished. refl)
wished_where wishes pair (Err i) none =
    (λ is. absurd (cc), λ wished. absurd (none (subst (Contains (map wish_pair wishes)) wished.2 (Contains-map wish_pair wishes wished.0 wished.1))))

pub returns : goal.returns
returns c =
    let wishes = c.args.wishes.now in
    let pair : Pair = assigned_pair c.args.c.now in
    let law = c.pairs_are_ordered.ensures in
    let said = c.binary_search_by_key.ensures in
    let by_pair = said.position wish_pair (answers_always _ _ _ (λ f a r g called. search rules)) in
    let found = wished_where wishes pair c.binary_search_by_key.result
    (found_by wish_pair pair_cmp law.total law.exact wishes pair c.binary_search_by_key.result ((sorted_parts wish_pair pair_cmp wishes).0 c.requires) said.bound by_pair) in
    (λ is. found.0 (subst IsTrue c.is_ok.ensures.value is), λ wished. subst IsTrue (sym c.is_ok.ensures.value) (found.1 wished))
