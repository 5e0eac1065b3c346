-- There is a list of what is asked for a router's posts, and a run of the assignment subroutine over a stream of words cannot be missing.
use Rattle.hn_base.proofs.Names.{◌≡◌, ◌∙◌, ◌≤◌, ◌<◌, ◌+◌, ℕ, true, false, List, [], ◌∷◌, ◌++◌, length, map, Contains, Option, Some, None, refl, sym, subst, inl, inr, arith, All, ◌==◌, IsTotalOrder}
use Rattle.hn_base.proofs.Names.{IsStrictlySortedBy, cond_both, cases_lt, cases_eq, All-contains, Contains-append_left, Contains-append_right, Contains-append_cases, slice_get_read, same_Some}
use Rattle.hn_base.proofs.Names.{IsExact, Some!, PlainPrefix, IsPrefix, Begins}
use Rattle.hn_rules.proofs.Names.{◌↔◌, slice_get, EpId, Contains-head, Contains-tail, Contains-cases, Contains-map, Contains-from_map, nothing_in, sorted_parts, all_of, contains_at, some_then}
use Rattle.hn_rules.proofs.Names.{IsNetwork, Delegated, AreUsable, IsUnwanted, prefixes_of, CommonLinkIsUnique, Wish, Pair, pair_cmp, wish_pair, posts_of, length_at, State, AreAsked, IsRunAssigned}
use Rattle.hn_rules.proofs.Names.{IsPrivateLength, ViewIsNetwork, view_of, IsRouter, with_words, seen_by}
use Rattle.hn_base.proofs.AscendingMade.{ascending_of}
use Rattle.hn_base.proofs.FirstWords.{begins_both}
use Rattle.hn_base.proofs.SomeExists.{IsEach}
use Rattle.hn_base.proofs.SoOrNot.{Decided, one_or_none}
use Rattle.hn_deleg.specs.Laws.{UsableExists, UsableArePrefixes}
use Rattle.hn_deleg.specs.Used.{IsOutermost}
use Rattle.hn_link.specs.Laws.{CommonLinkExists}
use Rattle.hn_assign.specs.declared.ran.Ran.{Ran as Assigned}
use Rattle.hn_pair.specs.Facts.{IsFitting}
use Rattle.hn_assign.specs.Laws.{SubroutineHasAResult}
use Rattle.hn_rules.specs.Assigning.{IsWishFor}
use Rattle.hn_rules.specs.Laws.{AssigningHasAResult, WishesExist}
use Rattle.hn_rules.proofs.WishLists.{one_wish}

-- ---- the pairs of a prefix and an endpoint

abbrev pair_of : PlainPrefix → EpId → Pair
pair_of prefix endpoint = record { delegated = prefix; endpoint = endpoint }

abbrev pairs_of : List PlainPrefix → List EpId → List Pair
pairs_of [] es = []
pairs_of (p ∷ ps) es = map (pair_of p) es ++ pairs_of ps es

abbrev IsInPairs : List PlainPrefix → List EpId → Pair → Type 0
IsInPairs ps es pair = Contains (pairs_of ps es) pair ↔ (Contains ps pair.delegated × Contains es pair.endpoint)

in_more : (p : PlainPrefix) (ps : List PlainPrefix) (es : List EpId) (pair : Pair) → IsInPairs ps es pair → IsInPairs (p ∷ ps) es pair
in_more p ps es pair rest = (from, to)
  where
    from : Contains (map (pair_of p) es ++ pairs_of ps es) pair → Contains (p ∷ ps) pair.delegated × Contains es pair.endpoint
    from h = elim (Contains-append_cases (map (pair_of p) es) (pairs_of ps es) pair h) [
      | inl here ↦
          let (e, there, is) = Contains-from_map (pair_of p) es pair here in
          (subst (λ (x : Pair). Contains (p ∷ ps) x.delegated) is (Contains-head p ps), subst (λ (x : Pair). Contains es x.endpoint) is there)
      | inr later ↦ let was = rest.0 later in (Contains-tail p ps pair.delegated was.0, was.1)
    ]

    to : Contains (p ∷ ps) pair.delegated × Contains es pair.endpoint → Contains (map (pair_of p) es ++ pairs_of ps es) pair
    to h = elim (Contains-cases p ps pair.delegated h.0) [
      | inl same ↦
          let here : pair_of p pair.endpoint ≡ pair = λ i. record { delegated = same i; endpoint = pair.endpoint } in
          Contains-append_left (map (pair_of p) es) (pairs_of ps es) pair (subst (Contains (map (pair_of p) es)) here (Contains-map (pair_of p) es pair.endpoint h.1))
      | inr later ↦ Contains-append_right (map (pair_of p) es) (pairs_of ps es) pair (rest.1 (later, h.1))
    ]

in_pairs : (ps : List PlainPrefix) (es : List EpId) (pair : Pair) → IsInPairs ps es pair
in_pairs [] es pair = (λ h. absurd (nothing_in pair h), λ h. absurd (nothing_in pair.delegated h.0))
in_pairs (p ∷ ps) es pair = in_more p ps es pair (in_pairs ps es pair)

-- ---- what belongs to each element of a list, and whether a used prefix is wanted

each_has : {A B : Type 0} (Q : A → B → Type 0) (xs : List A) → ((x : A) → Contains xs x → (y : B) × Q x y) → (ys : List B) × IsEach Q xs ys
each_has Q [] each = ([], tt)
each_has Q (x ∷ xs) each =
    let first = each x (Contains-head x xs) in
    let rest = each_has Q xs (λ z h. each z (Contains-tail x xs z h)) in
    (first.0 ∷ rest.0, (first.1, rest.1))

pub unwanted_or_not : (list : List Delegated) (k : ℕ) (u : Delegated) → slice_get list k ≡ Some u → Decided (IsUnwanted list k)
unwanted_or_not list k u at = elim (cases_eq u.preferred 0) [
  | inr lasts ↦ inr (λ un. lasts (subst (λ (v : Delegated). v.preferred ≡ 0) (same_Some un.deprecated u (sym un.at ∙ at)) un.ended))
  | inl ended ↦
      elim (one_or_none (λ (v : Delegated). 0 < v.preferred) list (λ v _. elim (cases_lt 0 v.preferred) [ inl some ↦ inl some | inr none ↦ inr (λ some. omega (arith, none, some)) ])) [
        | inl other ↦ inl (record { deprecated = u; at = at; ended = ended; other = other.0; in_list = other.1; preferred = other.2 })
        | inr none ↦ inr (λ un. none un.other un.in_list un.preferred)
      ]
]

-- ---- a wish for each

module _ (links : CommonLinkExists) (one_link : CommonLinkIsUnique) (s : State) (network : IsNetwork s.id.0 (view_of s)) (usable : List Delegated) where
  abbrev posts : List EpId
  posts = posts_of s.private s.ports

  -- it is for the pair, and asked
  abbrev IsWishOf : Pair → Wish → Type 0
  IsWishOf pair wish = (wish_pair wish ≡ pair) × IsWishFor s usable wish

  wish_for : (pair : Pair) → Contains (prefixes_of usable) pair.delegated → Contains posts pair.endpoint → (wish : Wish) × IsWishOf pair wish
  wish_for pair among post =
      let (u, there, is) = Contains-from_map (λ (u : Delegated). u.prefix) usable pair.delegated among in
      let at = slice_get_read usable (length usable) there.0 u refl there.1 (sym there.2) in
      let (common, is_common) = links (seen_by s) pair.endpoint.0 network in
      elim (unwanted_or_not usable there.0 u at) [
        | inl unwanted ↦ (
          record { delegated = pair.delegated; wanted = false; endpoint = pair.endpoint; common = common; length = length_at s.private pair.endpoint },
          (
            refl,
            record {
              place = there.0;
              asked = record { delegated = u; at = at; prefix = sym is; wanted = (λ clash. absurd cc, λ not. absurd (not unwanted)); common = is_common; length = refl };
              post = post;
            },
          ),
        )
        | inr wanted ↦ (
          record { delegated = pair.delegated; wanted = true; endpoint = pair.endpoint; common = common; length = length_at s.private pair.endpoint },
          (
            refl,
            record {
              place = there.0;
              asked = record { delegated = u; at = at; prefix = sym is; wanted = (λ _. wanted, λ _. refl); common = is_common; length = refl };
              post = post;
            },
          ),
        )
      ]

  each_pairs : (pairs : List Pair) (wishes : List Wish) → IsEach IsWishOf pairs wishes → map wish_pair wishes ≡ pairs
  each_pairs [] [] each = refl
  each_pairs [] (w ∷ ws) each = absurd each
  each_pairs (p ∷ ps) [] each = absurd each
  each_pairs (p ∷ ps) (w ∷ ws) (is, each) = λ i. is.0 i ∷ each_pairs ps ws each i

  each_asked : (pairs : List Pair) (wishes : List Wish) → IsEach IsWishOf pairs wishes → (wish : Wish) → Contains wishes wish → IsWishFor s usable wish
  each_asked [] [] each wish h = absurd (nothing_in wish h)
  each_asked [] (w ∷ ws) each wish h = absurd each
  each_asked (p ∷ ps) [] each wish h = absurd each
  each_asked (p ∷ ps) (w ∷ ws) (is, each) wish h = elim (Contains-cases w ws wish h) [
    | inl same ↦ subst (IsWishFor s usable) same is.1
    | inr later ↦ each_asked ps ws each wish later
  ]

  each_there : (pairs : List Pair) (wishes : List Wish) → IsEach IsWishOf pairs wishes → (pair : Pair) → Contains pairs pair → (wish : Wish) × Contains wishes wish × IsWishOf pair wish
  each_there [] ws each pair h = absurd (nothing_in pair h)
  each_there (p ∷ ps) [] each pair h = absurd each
  each_there (p ∷ ps) (w ∷ ws) (is, each) pair h = elim (Contains-cases p ps pair h) [
    | inl same ↦ (w, Contains-head w ws, subst (λ (x : Pair). IsWishOf x w) same is)
    | inr later ↦ let (wish, there, also) = each_there ps ws each pair later in (wish, Contains-tail w ws wish there, also)
  ]

  module _ (total : IsTotalOrder pair_cmp) (exact : IsExact pair_cmp) (are : AreUsable (seen_by s) usable) where
    -- the pair of what is asked is one of the pairs
    of_pairs : (wish : Wish) → IsWishFor s usable wish → Contains (pairs_of (prefixes_of usable) posts) (wish_pair wish)
    of_pairs wish is =
        let u = is.asked.delegated in
        let among = Contains-map (λ (u : Delegated). u.prefix) usable u (contains_at usable is.place u is.asked.at) in
        (in_pairs (prefixes_of usable) posts (wish_pair wish)).1 (subst (Contains (prefixes_of usable)) (sym is.asked.prefix) among, is.post)

    all_asked : (wishes : List Wish) × AreAsked s usable wishes
        × ((pair : Pair) → Contains (prefixes_of usable) pair.delegated → Contains posts pair.endpoint → (wish : Wish) × Contains wishes wish × (wish_pair wish ≡ pair))
    all_asked =
        let (pairs, up, same) = ascending_of pair_cmp total exact (pairs_of (prefixes_of usable) posts) in
        let (wishes, each) = each_has IsWishOf pairs (λ pair there. let h = (in_pairs (prefixes_of usable) posts pair).0 ((same pair).0 there) in wish_for pair h.0 h.1) in (
          wishes,
          record {
            ascending = (sorted_parts wish_pair pair_cmp wishes).1 (subst (IsStrictlySortedBy pair_cmp) (sym (each_pairs pairs wishes each)) up);
            exact = λ wish. (
              each_asked pairs wishes each wish,
              λ is.
                  let (found, there, also) = each_there pairs wishes each (wish_pair wish) ((same (wish_pair wish)).1 (of_pairs wish is)) in
                  subst (Contains wishes) (one_wish s.private (seen_by s) usable are.ascending one_link also.1.place is.place found wish also.1.asked is.asked also.0) there,
            );
          },
          λ pair among post.
              let (wish, there, also) = each_there pairs wishes each pair ((same pair).1 ((in_pairs (prefixes_of usable) posts pair).1 (among, post))) in
              (wish, there, also.0),
        )

-- ---- what is asked fits

fits_length : (private : Option ℕ) (e : EpId) → IsPrivateLength private → (1 ≤ length_at private e) × (length_at private e ≤ 64)
fits_length None e is = (omega arith, omega arith)
fits_length (Some length) e is = cond_both (e.0 == 0) length 64 (λ (n : ℕ). (1 ≤ n) × (n ≤ 64)) (λ _. is) (λ _. (omega arith, omega arith))

module _ (s : State) (usable : List Delegated) where
  asked_fits : AreUsable (seen_by s) usable → IsPrivateLength s.private → (wish : Wish) → IsWishFor s usable wish → IsFitting wish
  asked_fits are private wish is =
      let u = is.asked.delegated in
      let outermost = All-contains (λ (u : Delegated). IsOutermost (seen_by s) u.prefix) usable u are.outermost (contains_at usable is.place u is.asked.at) in
      let fits = subst (λ (n : ℕ). (1 ≤ n) × (n ≤ 64)) (sym is.asked.length) (fits_length s.private wish.endpoint private) in
      record { delegated = subst (λ (p : PlainPrefix). p.len ≤ 64) (sym is.asked.prefix) outermost.candidate.short; at_least = fits.0; at_most = fits.1 }

  asked_is_prefix : All (λ u. IsPrefix u.prefix) usable → (wish : Wish) → IsWishFor s usable wish → IsPrefix wish.delegated
  asked_is_prefix all wish is =
      let u = is.asked.delegated in
      subst IsPrefix (sym is.asked.prefix) (All-contains (λ (u : Delegated). IsPrefix u.prefix) usable u all (contains_at usable is.place u is.asked.at))

-- ---- a run of the assignment subroutine

-- the laws on which it rests that something is asked
pub record AskingLaws : Type 0 where
  pub usable : UsableExists
  pub prefixes : UsableArePrefixes
  pub links : CommonLinkExists
  pub one_link : CommonLinkIsUnique
  pub pairs_total : IsTotalOrder pair_cmp
  pub pairs_exact : IsExact pair_cmp
  pub network : ViewIsNetwork

-- and that the subroutine comes to a result
pub record AssigningLaws : Type 0 where
  pub asking : AskingLaws
  pub subroutine : SubroutineHasAResult

pub wishes_exist : AskingLaws → WishesExist
wishes_exist laws s router =
    let network = laws.network s router in
    let (usable, are) = laws.usable (seen_by s) in
    let (wishes, asked, each) = all_asked laws.links laws.one_link s network usable laws.pairs_total laws.pairs_exact are in
    let fitting = all_of IsFitting wishes (λ wish there. asked_fits s usable are router.well.private wish ((asked.exact wish).0 there)) in
    let prefixes = all_of (λ (wish : Wish). IsPrefix wish.delegated) wishes
    (λ wish there. asked_is_prefix s usable (laws.prefixes (seen_by s) usable are) wish ((asked.exact wish).0 there)) in
    (wishes, record { usable = usable; are_usable = are; are_asked = asked; each = each; fitting = fitting; prefixes = prefixes })

some_run : AssigningLaws → (s : State) (stream : ℕ → ℕ) → IsRouter s → Some! (λ (ran : Assigned). IsRunAssigned s ran × Begins ran.words stream)
some_run laws s stream router =
    let (wishes, w) = wishes_exist laws.asking s router in
    some_then (laws.subroutine (seen_by s) wishes s.held stream router.well.pairs.assigned router.well.pairs.backoffs w.fitting w.prefixes) (λ ran runs none.
    none ran (record { usable = w.usable; are_usable = w.are_usable; wishes = wishes; are_asked = w.are_asked; is_subroutine = runs.0 }, runs.1))

pub total_assigning : AssigningLaws → AssigningHasAResult
total_assigning laws stream r is begins none =
    some_run laws r.state (λ i. stream (length r.done.words + i)) is (λ ran runs.
    none (with_words ran.words (record r { state = record r.state { held = ran.held } })) (
      record { ran = ran; is_assigned = runs.0; gives = refl },
      begins_both r.done.words ran.words stream begins runs.1,
    ))
