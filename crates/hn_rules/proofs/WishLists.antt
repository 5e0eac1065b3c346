-- The wishes of a router, as they are added one after another.
use Rattle.hn_base.proofs.Names.{◌≡◌, ◌∙◌, ◌<◌, ◌≤◌, ◌+◌, ◌↔◌, ◌⊎◌, ℕ, Bool, true, false, List, [], ◌∷◌, ◌++◌, length, take, get_or, Contains, Option, Some, Decides, sym, ap, subst, inl, inr, refl}
use Rattle.hn_base.proofs.Names.{⊎_elim, arith, IsStrictlySortedBy, option_map, Less, cases_lt, length-map, map-append, get_or-map, take_more, All, All-push, Contains-append_left}
use Rattle.hn_base.proofs.Names.{Contains-append_right, Contains-append_cases, Less-from_sorted, slice_get_within, slice_get-map, get_or_from_slice_get, PlainPrefix, prefix_cmp}
use Rattle.hn_rules.proofs.Names.{slice_get, Contains-head, Contains-cases, nothing_in, EpId, PlainView, Delegated, IsUnwanted, prefixes_of, CommonLinkIsUnique, Wish, Pair, IsWished, wish_pair}
use Rattle.hn_rules.proofs.Names.{length_at, Post, IsWishAt, HasCommonLink, endpoints_at}
use Rattle.std.proofs.lemmas.Bool.Decides.{same_from_decides}
use Rattle.hn_base.proofs.AscendingLists.{not_below_itself}
use Rattle.hn_link.specs.CommonLink.{IsCommonLink}
use Rattle.hn_base.proofs.Prefixes.{prefix_total}

-- ---- the endpoints with their Common Links

pub endpoint_of : (posts : List Post) (i : ℕ) (post : Post) (e : EpId) → i < length posts → post ≡ get_or posts i post → post.endpoint ≡ get_or (endpoints_at posts) i e
endpoint_of posts i post e within is = ap (λ (p : Post). p.endpoint) is ∙ sym (get_or-map (λ (p : Post). p.endpoint) posts i post e within)

-- one more
pub posts_more : (view : PlainView) (posts after : List Post) (post : Post) (endpoints : List EpId) (i : ℕ) (d : EpId) → i < length endpoints → after ≡ posts ++ post ∷ []
    → post.endpoint ≡ get_or endpoints i d → HasCommonLink view post → endpoints_at posts ≡ take i endpoints → All (HasCommonLink view) posts
    → (endpoints_at after ≡ take (i + 1) endpoints) × All (HasCommonLink view) after
posts_more view posts after post endpoints i d within is here link so_far links = (
  ap endpoints_at is ∙ map-append (λ (p : Post). p.endpoint) posts (post ∷ []) ∙ ap (λ (es : List EpId). es ++ post.endpoint ∷ []) so_far
      ∙ ap (λ (e : EpId). take i endpoints ++ e ∷ []) here ∙ sym (take_more endpoints i d within),
  subst (All (HasCommonLink view)) (sym is) (All-push (HasCommonLink view) posts post links link),
)

-- after a wish was added
abbrev pub HasAdded : Wish → List Wish → List Wish → Type 0
HasAdded wish before after = (w : Wish) → Contains after w ↔ (Contains before w ⊎ (wish ≡ w))

module _ (private : Option ℕ) (view : PlainView) (usable : List Delegated) where
  -- beside the first ones it has the wishes for one usable prefix and these endpoints
  abbrev pub HasAt : ℕ → List EpId → List Wish → List Wish → Type 0
  HasAt place endpoints first wishes = (w : Wish) → Contains wishes w ↔ (Contains first w ⊎ (IsWishAt private view usable place w × Contains endpoints w.endpoint))

  -- it has those for so many usable prefixes and all endpoints
  abbrev pub HasBelow : List EpId → ℕ → List Wish → Type 0
  HasBelow endpoints n wishes = (w : Wish) → Contains wishes w ↔ ((place : ℕ) × (place < n) × IsWishAt private view usable place w × Contains endpoints w.endpoint)

  -- each is for a usable prefix
  abbrev pub AreWishesAt : List Wish → Type 0
  AreWishesAt wishes = (w : Wish) → Contains wishes w → (place : ℕ) × IsWishAt private view usable place w

  prefix_at : (p : ℕ) (u : Delegated) → slice_get usable p ≡ Some u → get_or (prefixes_of usable) p u.prefix ≡ u.prefix
  prefix_at p u at =
      get_or_from_slice_get (prefixes_of usable) p u.prefix u.prefix (slice_get-map (λ (v : Delegated). v.prefix) usable p ∙ ap (option_map (λ (v : Delegated). v.prefix)) at)

  module _ (up : IsStrictlySortedBy prefix_cmp (prefixes_of usable)) where
    -- a usable prefix is not at two places
    not_before : (p q : ℕ) (a b : Delegated) → p < q → slice_get usable p ≡ Some a → slice_get usable q ≡ Some b → a.prefix ≡ b.prefix → ⊥
    not_before p q a b before at_p at_q same =
        let within : q < length (prefixes_of usable) = omega (arith, slice_get_within usable q b at_q, length-map usable (λ (v : Delegated). v.prefix)) in
        let less = Less-from_sorted prefix_cmp (prefixes_of usable) p q b.prefix up before within in
        let first : get_or (prefixes_of usable) p b.prefix ≡ a.prefix = ap (get_or (prefixes_of usable) p) (sym same) ∙ prefix_at p a at_p in
        let here : prefix_cmp a.prefix b.prefix ≡ Less = ap (λ (x : PlainPrefix). prefix_cmp x b.prefix) (sym first)
        ∙ ap (prefix_cmp (get_or (prefixes_of usable) p b.prefix)) (sym (prefix_at q b at_q)) ∙ less in
        not_below_itself prefix_cmp prefix_total a.prefix b.prefix same here

    same_place : (p q : ℕ) (a b : Delegated) → slice_get usable p ≡ Some a → slice_get usable q ≡ Some b → a.prefix ≡ b.prefix → p ≡ q
    same_place p q a b at_p at_q same =
        ⊎_elim (λ (before : p < q). absurd (not_before p q a b before at_p at_q same))
        (λ (after : q ≤ p). ⊎_elim (λ (other : q < p). absurd (not_before q p b a other at_q at_p (sym same))) (λ (also : p ≤ q). omega arith) (cases_lt q p))
        (cases_lt p q)

    module _ (one_link : CommonLinkIsUnique) where
      -- a pair has one wish
      pub one_wish : (p q : ℕ) (v w : Wish) → IsWishAt private view usable p v → IsWishAt private view usable q w → wish_pair v ≡ wish_pair w → v ≡ w
      one_wish p q v w is other same =
          let prefix : v.delegated ≡ w.delegated = ap (λ (x : Pair). x.delegated) same in
          let endpoint : v.endpoint ≡ w.endpoint = ap (λ (x : Pair). x.endpoint) same in
          let place : p ≡ q = same_place p q is.delegated other.delegated is.at other.at (sym is.prefix ∙ prefix ∙ other.prefix) in
          let wanted : v.wanted ≡ w.wanted = same_from_decides v.wanted w.wanted (subst (λ (n : ℕ). Decides v.wanted (¬ (IsUnwanted usable n))) place is.wanted) other.wanted in
          let common : v.common ≡ w.common = one_link view w.endpoint.0 v.common w.common (subst (λ (e : EpId). IsCommonLink view e.0 v.common) endpoint is.common) other.common in
          let long : v.length ≡ w.length = is.length ∙ ap (length_at private) endpoint ∙ sym other.length in
          λ i. record { delegated = prefix i; wanted = wanted i; endpoint = endpoint i; common = common i; length = long i }

      -- a wish is added, or its pair has it already
      pub added_wish : (place : ℕ) (wish : Wish) (added : Bool) (before after : List Wish) → IsWishAt private view usable place wish → AreWishesAt before
          → (added ≡ true → HasAdded wish before after) → (added ≡ false → IsWished before (wish_pair wish)) → (added ≡ false → after ≡ before) → HasAdded wish before after
      added_wish place wish true before after is are new known same w = new refl w
      added_wish place wish false before after is are new known same w =
          let (old, there, pair) = known refl in
          let at = are old there in
          let one : old ≡ wish = one_wish at.0 place old wish at.1 is pair in
          let alike : Contains after w ↔ Contains before w = subst (λ (xs : List Wish). Contains xs w ↔ Contains before w) (sym (same refl)) (λ h. h, λ h. h) in (
            λ h. inl (alike.0 h),
            λ h. ⊎_elim (λ (b : Contains before w). alike.1 b) (λ (e : wish ≡ w). alike.1 (subst (Contains before) (one ∙ e) there)) h,
          )

      -- one endpoint more
      pub at_next : (place i : ℕ) (endpoints : List EpId) (e d : EpId) (wish : Wish) (first between after : List Wish) → i < length endpoints → e ≡ get_or endpoints i d
          → IsWishAt private view usable place wish → wish.endpoint ≡ e → HasAdded wish between after
          → HasAt place (take i endpoints) first between → HasAt place (take (i + 1) endpoints) first after
      at_next place i endpoints e d wish first between after within here is at_e adds so_far w =
          let more : take (i + 1) endpoints ≡ take i endpoints ++ e ∷ [] = take_more endpoints i d within ∙ ap (λ (x : EpId). take i endpoints ++ x ∷ []) (sym here) in
          subst (λ (es : List EpId). Contains after w ↔ (Contains first w ⊎ (IsWishAt private view usable place w × Contains es w.endpoint))) (sym more) (from, to)
        where
          All : Type 0
          All = Contains first w ⊎ (IsWishAt private view usable place w × Contains (take i endpoints ++ e ∷ []) w.endpoint)

          from : Contains after w → All
          from h = ⊎_elim
              (λ (old : Contains between w). ⊎_elim (λ (f : Contains first w). let a : All = inl f in a)
              (λ (m : IsWishAt private view usable place w × Contains (take i endpoints) w.endpoint). inr (m.0, Contains-append_left (take i endpoints) (e ∷ []) w.endpoint m.1)) ((so_far w).0 old))
              (λ (same : wish ≡ w). inr (
                subst (IsWishAt private view usable place) same is,
                Contains-append_right (take i endpoints) (e ∷ []) w.endpoint (subst (Contains (e ∷ [])) (sym at_e ∙ ap (λ (x : Wish). x.endpoint) same) (Contains-head e [])),
              ))
              ((adds w).0 h)

          to : All → Contains after w
          to (inl f) = (adds w).1 (inl ((so_far w).1 (inl f)))
          to (inr (at, there)) = ⊎_elim
              (λ (old : Contains (take i endpoints) w.endpoint). (adds w).1 (inl ((so_far w).1 (inr (at, old)))))
              (λ (last : Contains (e ∷ []) w.endpoint). ⊎_elim
              (λ (same : e ≡ w.endpoint). (adds w).1 (inr (one_wish place place wish w is at
              (let prefix : wish.delegated ≡ w.delegated = same_prefix at in let endpoint : wish.endpoint ≡ w.endpoint = at_e ∙ same in λ j. record { delegated = prefix j; endpoint = endpoint j }))))
              (λ (none : Contains [] w.endpoint). absurd (nothing_in w.endpoint none))
              (Contains-cases e [] w.endpoint last))
              (Contains-append_cases (take i endpoints) (e ∷ []) w.endpoint there)
            where
              same_prefix : IsWishAt private view usable place w → wish.delegated ≡ w.delegated
              same_prefix at =
                  let both : Some is.delegated ≡ Some at.delegated = sym is.at ∙ at.at in
                  let one : is.delegated ≡ at.delegated = cc in
                  is.prefix ∙ ap (λ (u : Delegated). u.prefix) one ∙ sym at.prefix

  -- the wishes so far, and those at a place
  pub are_at : (place : ℕ) (endpoints : List EpId) (first wishes : List Wish) → HasAt place endpoints first wishes → AreWishesAt first → AreWishesAt wishes
  are_at place endpoints first wishes so_far are w there =
      ⊎_elim (are w) (λ (m : IsWishAt private view usable place w × Contains endpoints w.endpoint). (place, m.0)) ((so_far w).0 there)

  pub at_none : (place : ℕ) (wishes : List Wish) → HasAt place [] wishes wishes
  at_none place wishes w = (λ h. inl h, λ h. ⊎_elim (λ (f : Contains wishes w). f) (λ (m : IsWishAt private view usable place w × Contains [] w.endpoint). absurd (nothing_in w.endpoint m.1)) h)

  -- ---- one usable prefix after another

  pub below_are : (endpoints : List EpId) (n : ℕ) (wishes : List Wish) → HasBelow endpoints n wishes → AreWishesAt wishes
  below_are endpoints n wishes so_far w there = let found = (so_far w).0 there in (found.0, found.2)

  pub below_none : (endpoints : List EpId) → HasBelow endpoints 0 []
  below_none endpoints w = (λ h. absurd (nothing_in w h), λ h. absurd (let less = h.1 in omega arith))

  pub below_next : (endpoints : List EpId) (n : ℕ) (between after : List Wish) → HasBelow endpoints n between → HasAt n endpoints between after → HasBelow endpoints (n + 1) after
  below_next endpoints n between after so_far adds w = (from, to)
    where
      More : Type 0
      More = (place : ℕ) × (place < n + 1) × IsWishAt private view usable place w × Contains endpoints w.endpoint

      from : Contains after w → More
      from h = ⊎_elim
          (λ (old : Contains between w). let found = (so_far w).0 old in let less : found.0 < n + 1 = (let before = found.1 in omega arith) in let m : More = (found.0, less, found.2, found.3) in m)
          (λ (m : IsWishAt private view usable n w × Contains endpoints w.endpoint). (n, omega arith, m.0, m.1))
          ((adds w).0 h)

      to : More → Contains after w
      to (place, less, at, there) = ⊎_elim
          (λ (before : place < n). (adds w).1 (inl ((so_far w).1 (place, before, at, there))))
          (λ (last : n ≤ place). let same : place ≡ n = omega arith in (adds w).1 (inr (subst (λ (p : ℕ). IsWishAt private view usable p w) same at, there)))
          (cases_lt place n)

  pub below_all : (endpoints : List EpId) (n : ℕ) (wishes : List Wish) → length usable ≤ n → HasBelow endpoints n wishes
      → (w : Wish) → Contains wishes w ↔ ((place : ℕ) × IsWishAt private view usable place w × Contains endpoints w.endpoint)
  below_all endpoints n wishes all so_far w = (
    λ h. let found = (so_far w).0 h in (found.0, found.2, found.3),
    λ h. let at = h.1 in let within = slice_get_within usable h.0 at.delegated at.at in (so_far w).1 (h.0, omega arith, at, h.2),
  )
