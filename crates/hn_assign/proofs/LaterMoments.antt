-- What is advertised, and who is at rest, while time passes, assignments are marked applied and less is wanted.
use Rattle.hn_base.proofs.Names.{◌≡◌, ◌∙◌, ℕ, List, Contains, map, Option, None, Some, sym, ap, subst, inl, inr, ⊎_elim, IsAbove, PlainPrefix}
use Rattle.hn_assign.proofs.Names.{Contains-map, Contains-from_map, EpId, IsLater, PlainView, Entry, Advertised, Assigned, Wish, LinkEndpoints, key_of, IsBestIfAny, IsValid, HasNoFree, unmarked}
use Rattle.hn_assign.proofs.Names.{AreAtRest, IsOfOther, IsOwn, IsAdvertised, own_advertised, assigned_pair, IsAtRest}
use Rattle.hn_data.specs.Later.{aged_entry}
use Rattle.hn_assign.specs.Laws.{AdvertisedOfLater, AdvertisedOfUnchanged, RestStays, RestStaysUnwanted}
use Rattle.hn_assign.specs.Rest.{IsWantedNoMore}

-- ---- the same network at a later moment

module _ (before after : PlainView) (later : IsLater before after) where
  kept : (x : Entry) → Contains before.nodes x → Contains after.nodes (aged_entry later.time x)
  kept x there = subst (λ (nodes : List Entry). Contains nodes (aged_entry later.time x)) (sym later.nodes) (Contains-map (aged_entry later.time) before.nodes x there)

  known : (y : Entry) → Contains after.nodes y → (x : Entry) × Contains before.nodes x × (aged_entry later.time x ≡ y)
  known y there = Contains-from_map (aged_entry later.time) before.nodes y (subst (λ (nodes : List Entry). Contains nodes y) later.nodes there)

  other_later : (x : Entry) (a : Advertised) → IsOfOther before.own x a → IsOfOther after.own (aged_entry later.time x) a
  other_later x a h = record { another = λ same. h.another (same ∙ later.own); version = h.version; says = record { node = h.says.node; assigned = h.says.assigned } }

  other_before : (x : Entry) (a : Advertised) → IsOfOther after.own (aged_entry later.time x) a → IsOfOther before.own x a
  other_before x a h = record { another = λ same. h.another (same ∙ sym later.own); version = h.version; says = record { node = h.says.node; assigned = h.says.assigned } }

  still_advertised : (assigned : List Assigned) (a : Advertised) → IsAdvertised before assigned a → IsAdvertised after assigned a
  still_advertised assigned a (inl (x, there, says)) = inl (aged_entry later.time x, kept x there, other_later x a says)
  still_advertised assigned a (inr (c, there, own)) = inr (c, there, subst (λ (n : ℕ). IsOwn n c a) (sym later.own) own)

  was_advertised : (assigned : List Assigned) (a : Advertised) → IsAdvertised after assigned a → IsAdvertised before assigned a
  was_advertised assigned a (inl (y, there, says)) =
      let found = known y there in
      inl (found.0, found.1, other_before found.0 a (subst (λ (n : Entry). IsOfOther after.own n a) (sym found.2) says))
  was_advertised assigned a (inr (c, there, own)) = inr (c, there, subst (λ (n : ℕ). IsOwn n c a) later.own own)

pub advertised_later : AdvertisedOfLater
advertised_later before after assigned advertised later = (
  λ are a. (λ h. still_advertised before after later assigned a ((are a).0 h), λ h. (are a).1 (was_advertised before after later assigned a h)),
  λ are a. (λ h. was_advertised before after later assigned a ((are a).0 h), λ h. (are a).1 (still_advertised before after later assigned a h)),
)

-- ---- the same assignments, apart from marks

found_alike : (xs ys : List Assigned) (x : Assigned) → map unmarked xs ≡ map unmarked ys → Contains xs x → (y : Assigned) × Contains ys y × (unmarked y ≡ unmarked x)
found_alike xs ys x same there = Contains-from_map unmarked ys (unmarked x) (subst (λ (zs : List Assigned). Contains zs (unmarked x)) same (Contains-map unmarked xs x there))

own_alike : (own : ℕ) (c d : Assigned) (a : Advertised) → unmarked d ≡ unmarked c → IsOwn own c a → IsOwn own d a
own_alike own c d a same h = record {
  priority = h.priority;
  published = ap (λ (e : Assigned). e.published) same ∙ h.published;
  is = h.is ∙ ap (own_advertised own h.priority) (sym same);
}

advertised_alike : (view : PlainView) (xs ys : List Assigned) (a : Advertised) → map unmarked xs ≡ map unmarked ys → IsAdvertised view xs a → IsAdvertised view ys a
advertised_alike view xs ys a same (inl other) = inl other
advertised_alike view xs ys a same (inr (c, there, own)) =
    let found = found_alike xs ys c same there in
    inr (found.0, found.1, own_alike view.own c found.0 a found.2 own)

pub advertised_unchanged : AdvertisedOfUnchanged
advertised_unchanged view before after advertised same = (
  λ are a. (λ h. advertised_alike view before after a (sym same) ((are a).0 h), λ h. (are a).1 (advertised_alike view after before a same h)),
  λ are a. (λ h. advertised_alike view after before a same ((are a).0 h), λ h. (are a).1 (advertised_alike view before after a (sym same) h)),
)

module _ (adv : List Advertised) (own : ℕ) (wish : Wish) (c d : Assigned) (same : unmarked c ≡ unmarked d) where
  valid_alike : IsValid adv own wish.common c → IsValid adv own wish.common d
  valid_alike valid = subst (IsValid adv own wish.common) same valid

  pub rest_alike : IsAtRest adv own wish (Some c) → IsAtRest adv own wish (Some d)
  rest_alike (inl alone) = inl (record { no_best = alone.no_best; published = (alone.published.0, ap (λ (e : Assigned). e.published) (sym same) ∙ alone.published.1); valid = valid_alike alone.valid })
  rest_alike (inr (inl ahead)) = inr (inl (record {
    best = ahead.best;
    is_best = ahead.is_best;
    priority = ahead.priority;
    published = ap (λ (e : Assigned). e.published) (sym same) ∙ ahead.published;
    above = ahead.above;
    valid = valid_alike ahead.valid;
  }))
  rest_alike (inr (inr follows)) = inr (inr (record {
    best = follows.best;
    is_best = follows.is_best;
    unpublished = ap (λ (e : Assigned). e.published) (sym same) ∙ follows.unpublished;
    same = ap (λ (e : Assigned). e.prefix) (sym same) ∙ follows.same;
  }))

all_alike : (adv : List Advertised) (own : ℕ) (wishes : List Wish) (xs ys : List Assigned) → map unmarked ys ≡ map unmarked xs → AreAtRest adv own wishes xs → AreAtRest adv own wishes ys
all_alike adv own wishes xs ys same rest wish there None none =
    rest wish there None (λ x h is.
    let found = found_alike xs ys x (sym same) h in
    none found.0 found.1 (ap assigned_pair found.2 ∙ is))
all_alike adv own wishes xs ys same rest wish there (Some d) has =
    let found = found_alike ys xs d same has.0 in
    rest_alike adv own wish found.0 d found.2 (rest wish there (Some found.0) (found.1, ap assigned_pair found.2 ∙ has.1))

pub rest_of_unchanged : RestStays
rest_of_unchanged adv own wishes before after same = (all_alike adv own wishes before after same, all_alike adv own wishes after before (sym same))

-- ---- a delegated prefix that is wanted no more

module _ (adv : List Advertised) (own : ℕ) (before after : Wish) (is : IsWantedNoMore before after) where
  same_best : (best : Option Advertised) → IsBestIfAny adv own before.common before.delegated best → IsBestIfAny adv own after.common after.delegated best
  same_best best h = subst (λ (d : PlainPrefix). IsBestIfAny adv own after.common d best) (sym is.delegated)
      (subst (λ (common : LinkEndpoints). IsBestIfAny adv own common before.delegated best) (sym is.common) h)

  same_valid : (c : Assigned) → IsValid adv own before.common c → IsValid adv own after.common c
  same_valid c h = subst (λ (common : LinkEndpoints). IsValid adv own common c) (sym is.common) h

  same_free : HasNoFree adv before.delegated before.length → HasNoFree adv after.delegated after.length
  same_free h = subst (λ (d : PlainPrefix). HasNoFree adv d after.length) (sym is.delegated) (subst (HasNoFree adv before.delegated) (sym is.length) h)

  still_rests : (c : Option Assigned) → IsAtRest adv own before c → IsAtRest adv own after c
  still_rests None idle = record {
    no_best = same_best None idle.no_best;
    nothing_to_do = ⊎_elim (λ not. inl (λ wanted. not (is.wanted wanted))) (λ none. inr (same_free none)) idle.nothing_to_do;
  }
  still_rests (Some c) (inl alone) = inl (record { no_best = same_best None alone.no_best; published = alone.published; valid = same_valid c alone.valid })
  still_rests (Some c) (inr (inl ahead)) = inr (inl (record {
    best = ahead.best;
    is_best = same_best (Some ahead.best) ahead.is_best;
    priority = ahead.priority;
    published = ahead.published;
    above = subst (λ (e : EpId). IsAbove (key_of ahead.priority own e.0) ahead.best.key) (sym is.endpoint) ahead.above;
    valid = same_valid c ahead.valid;
  }))
  still_rests (Some c) (inr (inr follows)) = inr (inr (record { best = follows.best; is_best = same_best (Some follows.best) follows.is_best; unpublished = follows.unpublished; same = follows.same }))

pub rest_of_unwanted : RestStaysUnwanted
rest_of_unwanted adv own before after assignment is rest = still_rests adv own before after is assignment rest
