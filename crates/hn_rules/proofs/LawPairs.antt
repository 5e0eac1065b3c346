-- Pairs of a delegated prefix and a post, and those for which a router has a wish.
use Rattle.hn_base.proofs.Names.{◌≡◌, ◌≤◌, ◌*◌, ◌∙◌, List, [], ◌∷◌, length, map, ⊎_elim, sym, subst, arith, length-append, IsTotalOrder, length-map, Contains-append_left, Contains-append_right}
use Rattle.hn_base.proofs.Names.{IsExact, PlainPrefix}
use Rattle.hn_rules.proofs.Names.{Contains, Contains-cases, Contains-map, Contains-from_map, nothing_in, sorted_parts, EpId, Delegated, Wish, Pair, pair_cmp, wish_pair, IsWished, IsAscending}
use Rattle.hn_rules.proofs.Names.{posts_of, State, AreAsked, contains_at}
use Rattle.std.specs.Prelude.{flat_map}
use Rattle.hn_base.proofs.Pigeonhole.{no_longer}

-- ---- all pairs of a usable prefix and a post

abbrev pair_at : PlainPrefix → EpId → Pair
pair_at prefix post = record { delegated = prefix; endpoint = post }

abbrev pairs_of : List Delegated → List EpId → List Pair
pairs_of usable posts = flat_map (λ u. map (pair_at u.prefix) posts) usable

pairs_few : (usable : List Delegated) (posts : List EpId) → length posts ≤ 17 → length (pairs_of usable posts) ≤ 17 * length usable
pairs_few [] posts few = omega arith
pairs_few (u ∷ us) posts few =
    let more = pairs_few us posts few in
    omega (arith, length-append (map (pair_at u.prefix) posts) (pairs_of us posts), length-map posts (pair_at u.prefix))

pair_there : (usable : List Delegated) (posts : List EpId) (u : Delegated) (post : EpId) → Contains usable u → Contains posts post → Contains (pairs_of usable posts) (pair_at u.prefix post)
pair_there [] posts u post in_usable in_posts = absurd (nothing_in u in_usable)
pair_there (v ∷ vs) posts u post in_usable in_posts =
    let here : List Pair = map (pair_at v.prefix) posts in
    ⊎_elim
    (λ (e : v ≡ u). Contains-append_left here (pairs_of vs posts) (pair_at u.prefix post)
    (subst (λ (w : Delegated). Contains (map (pair_at w.prefix) posts) (pair_at u.prefix post)) (sym e) (Contains-map (pair_at u.prefix) posts post in_posts)))
    (λ (later : Contains vs u). Contains-append_right here (pairs_of vs posts) (pair_at u.prefix post) (pair_there vs posts u post later in_posts))
    (Contains-cases v vs u in_usable)

-- ---- each pair with a wish is one of them

module _ (s : State) (usable : List Delegated) (wishes : List Wish) (are : AreAsked s usable wishes) where
  abbrev posts : List EpId
  posts = posts_of s.private s.ports

  wished_there : (pair : Pair) → IsWished wishes pair → Contains (pairs_of usable posts) pair
  wished_there pair (wish, there, is) =
      let for = (are.exact wish).0 there in
      let u : Delegated = for.asked.delegated in
      let same : pair_at u.prefix wish.endpoint ≡ wish_pair wish = λ i. record { delegated = sym for.asked.prefix i; endpoint = wish.endpoint } in
      subst (Contains (pairs_of usable posts)) (same ∙ is) (pair_there usable posts u wish.endpoint (contains_at usable for.place u for.asked.at) for.post)

  -- so a list that has at most one element for each pair, and none for a pair without a wish, has at most 544 elements
  pub wished_few : {A : Type 0} (pair_of : A → Pair) → IsTotalOrder pair_cmp → IsExact pair_cmp → (xs : List A) → length usable ≤ 32 → length posts ≤ 17
      → IsAscending pair_of xs → ((x : A) → Contains xs x → IsWished wishes (pair_of x)) → length xs ≤ 544
  wished_few pair_of total exact xs few_usable few_posts up all =
      let pairs : List Pair = map pair_of xs in
      let each : (pair : Pair) → Contains pairs pair → Contains (pairs_of usable posts) pair =
      λ pair there. let from = Contains-from_map pair_of xs pair there in subst (Contains (pairs_of usable posts)) from.2 (wished_there (pair_of from.0) (all from.0 from.1))
      in
      let no_more = no_longer pair_cmp total exact pairs (pairs_of usable posts) ((sorted_parts pair_of pair_cmp xs).0 up) each in
      omega (arith, length-map xs pair_of, pairs_few usable posts few_posts)
