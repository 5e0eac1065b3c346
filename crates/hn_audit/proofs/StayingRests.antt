-- A router at rest whose tick nothing disturbs is at rest after it.
use Rattle.hn_base.proofs.Names.{◌≡◌, ◌∙◌, ◌-◌, ◌≤◌, ℕ, Bool, not, cond, List, [], ◌∷◌, ◌++◌, Contains, map, Option, Some, refl, sym, ap, subst, ◌==◌, filter_map, cons_option, option_map}
use Rattle.hn_base.proofs.Names.{All-contains, All-head, All-tail, All-contains_itself, All-weaker, PlainPrefix}
use Rattle.hn_audit.proofs.Names.{All, slice_get, Contains-from_map, Contains-map, all_of, EpId, NodeId, IsLater, PlainView, Entry, Delegated, UsableIsUnique, AreUsable, IsUnwanted, prefixes_of}
use Rattle.hn_audit.proofs.Names.{IsCommonLink, CommonLinkOfLater, Assigned, Wish, Ran, AreAtRest, AreAssignmentsUnchanged, unmarked, AreAdvertised, AdvertisedOfLater, IsWished, assigned_pair}
use Rattle.hn_audit.proofs.Names.{posts_of, private_posts, held, Stored, Running, State, IsWishAt, AreAsked, IsRunAssigned, held_entry, entry_of, view_of, IsKeptAtRest, ViewOfLater, IsRouter, begun_at}
use Rattle.hn_audit.proofs.Names.{seen_by, at_moment, IsKeptUndue, IsTick, IsRouterAtRest, AreSame, UseSame}
use Rattle.hn_assign.specs.Laws.{AdvertisedOfUnchanged, RestChangesNoAssignment, RestStays, RestStaysUnwanted}
use Rattle.hn_rules.specs.KeptAtRest.{CalmTick, UsedWhereAssigned}
use Rattle.hn_audit.proofs.BridgeUsed.{is_unwanted, is_wanted, at_prefix, delegated_at, used_same}
use Rattle.hn_audit.proofs.EqualInPlace.{same_back}

-- the laws of the crates below on which it rests
pub record RestLaws : Type 0 where
  pub unique : UsableIsUnique
  pub common : CommonLinkOfLater
  pub advertised_later : AdvertisedOfLater
  pub advertised_same : AdvertisedOfUnchanged
  pub rest_same : RestStays
  pub rest_unwanted : RestStaysUnwanted
  pub rest_changes : RestChangesNoAssignment
  pub view : ViewOfLater
  pub used : UsedWhereAssigned
  pub calm_tick : CalmTick

-- ---- wishes in two views

abbrev pub GoOn : PlainView → PlainView → Type 0
GoOn v w = (e : ℕ) (common : List (NodeId × EpId)) → IsCommonLink v e common → IsCommonLink w e common

-- what stands at a place of a list stands there in another with the same prefixes
stands_there : (a b : List Delegated) (private : Option ℕ) (v : PlainView) (place : ℕ) (wish : Wish) → prefixes_of a ≡ prefixes_of b → IsWishAt private v a place wish
    → (u : Delegated) × (slice_get b place ≡ Some u) × (u.prefix ≡ wish.delegated)
stands_there a b private v place wish same asked =
    delegated_at b wish.delegated place (ap (λ (ps : List PlainPrefix). slice_get ps place) (sym same) ∙ at_prefix a place asked.delegated asked.at ∙ ap Some (sym asked.prefix))

-- where the prefixes are the same, the same is asked, but that it may be wanted or not
other_wish : (private : Option ℕ) (v w : PlainView) (a b : List Delegated) → AreUsable w b → prefixes_of a ≡ prefixes_of b → GoOn v w → (place : ℕ) (wish : Wish) → IsWishAt private v a place wish
    → (wanted : Bool) × IsWishAt private w b place (record wish { wanted = wanted })
other_wish private v w a b are same goes place wish asked =
    let (u, at, is) = stands_there a b private v place wish same asked in (
      not (is_unwanted b u.prefix),
      record { delegated = u; at = at; prefix = sym is; wanted = is_wanted b are.ascending place u at; common = goes wish.endpoint.0 wish.common asked.common; length = asked.length },
    )

-- where the same are wanted too, it is the same wish
pub same_wish : (private : Option ℕ) (v w : PlainView) (a b : List Delegated) → AreSame a b → GoOn v w → (place : ℕ) (wish : Wish) → IsWishAt private v a place wish → IsWishAt private w b place wish
same_wish private v w a b same goes place wish asked =
    let (u, at, is) = stands_there a b private v place wish same.prefixes asked in
    let wanted = same.wanted place in
    record {
      delegated = u;
      at = at;
      prefix = sym is;
      wanted = (λ yes un. asked.wanted.0 yes (wanted.1 un), λ wants. asked.wanted.1 (λ un. wants (wanted.0 un)));
      common = goes wish.endpoint.0 wish.common asked.common;
      length = asked.length;
    }

-- ---- what two routers see

pub entry_by : (s t : State) (id : NodeId) → s.id ≡ t.id → s.number ≡ t.number → s.own ≡ t.own → s.moment ≡ t.moment → held s.table.entries id.0 ≡ held t.table.entries id.0
    → entry_of s id ≡ entry_of t id
entry_by s t id ids numbers owns moments holds =
    λ i. cond (id.0 == (ids i).0) (Some (record { id = ids i; number = numbers i; age = moments i - (owns i).born; body = (owns i).body }))
    (option_map (λ (stored : Stored). held_entry (moments i) (record { id = id; stored = stored })) (holds i))

pub entries_by : (s t : State) (ids : List NodeId) → All (λ id. entry_of s id ≡ entry_of t id) ids → filter_map (entry_of s) ids ≡ filter_map (entry_of t) ids
entries_by s t [] same = refl
entries_by s t (id ∷ ids) same =
    ap (λ (o : Option Entry). cons_option o (filter_map (entry_of s) ids)) (All-head (λ (x : NodeId). entry_of s x ≡ entry_of t x) id ids same)
    ∙ ap (cons_option (entry_of t id)) (entries_by s t ids (All-tail (λ (x : NodeId). entry_of s x ≡ entry_of t x) id ids same))

-- ---- a tick

module _ (laws : RestLaws) (now : ℕ) (s : State) (router : IsRouter s) (begun : s.moment ≤ now) (quiet : IsKeptUndue now s) (rest : IsRouterAtRest s)
    (after : Running) (tick : IsTick (begun_at now s) after) (use_same : UseSame s after.state) where
  abbrev before : PlainView
  before = seen_by s

  abbrev at : PlainView
  at = seen_by (at_moment now s)

  later : IsLater before at
  later = laws.view now s router begun

  goes : GoOn before at
  goes e common = (laws.common before at e common later).0

  goes_back : GoOn at before
  goes_back e common = (laws.common before at e common later).1

  same_used : AreSame rest.usable use_same.other
  same_used = used_same laws.unique s after.state rest.usable use_same.other use_same rest.are_usable use_same.is_other

  -- ---- where the tick assigns prefixes

  module _ (ran : Ran) (is : IsRunAssigned (at_moment now s) ran) where
    used_at : (prefixes_of is.usable ≡ prefixes_of rest.usable) × ((place : ℕ) → IsUnwanted rest.usable place → IsUnwanted is.usable place)
    used_at =
        laws.used now s after rest.usable is.usable use_same.other router begun quiet tick rest.are_usable is.are_usable use_same.is_other same_used.prefixes (λ place. (same_used.wanted place).0)

    wished_at : All (λ c. IsWished is.wishes (assigned_pair c)) s.held.assigned
    wished_at = all_of (λ c. IsWished is.wishes (assigned_pair c)) s.held.assigned (λ c there.
        let (wish, wish_in, pair) = All-contains (λ (x : Assigned). IsWished rest.wishes (assigned_pair x)) s.held.assigned c rest.wished there in
        let w = (rest.are_asked.exact wish).0 wish_in in
        let (wanted, asked) = other_wish s.private before at rest.usable is.usable is.are_usable (sym used_at.0) goes w.place wish w.asked in
        (record wish { wanted = wanted }, (is.are_asked.exact (record wish { wanted = wanted })).1 (record { place = w.place; asked = asked; post = w.post }), pair))

    at_rest : AreAtRest rest.advertised s.id.0 is.wishes s.held.assigned
    at_rest wish there c has =
        let w = (is.are_asked.exact wish).0 there in
        let (wanted, asked) = other_wish s.private at before is.usable rest.usable rest.are_usable used_at.0 goes_back w.place wish w.asked in
        let old : Wish = record wish { wanted = wanted } in
        let old_in = (rest.are_asked.exact old).1 (record { place = w.place; asked = asked; post = w.post }) in
        laws.rest_unwanted rest.advertised s.id.0 old wish c
        (record { delegated = refl; endpoint = refl; common = refl; length = refl; wanted = λ yes. asked.wanted.1 (λ un. w.asked.wanted.0 yes (used_at.1 w.place un)) })
        (rest.at_rest old old_in c has)

    changes_none : AreAssignmentsUnchanged s.held.assigned ran.held.assigned
    changes_none =
        laws.rest_changes at is.wishes s.held ran rest.advertised router.well.pairs.assigned wished_at
        ((laws.advertised_later before at s.held.assigned rest.advertised later).0 rest.are_advertised) at_rest is.is_subroutine

  pub kept_at_rest : IsKeptAtRest s after.state
  kept_at_rest = laws.calm_tick now s after router begun quiet changes_none tick

  -- ---- after it

  module _ (next : State) (same : UseSame s next) (left : IsKeptAtRest s next) (moment : next.moment ≡ now) where
    known_at : (id : NodeId) → Contains s.reach id → entry_of next id ≡ entry_of (at_moment now s) id
    known_at id there = entry_by next (at_moment now s) id left.id left.number left.own moment (left.known id there)

    seen_next : seen_by next ≡ at
    seen_next =
        let nodes : view_of next ≡ view_of (at_moment now s) =
        ap (filter_map (entry_of next)) left.reach
        ∙ entries_by next (at_moment now s) s.reach (All-weaker (Contains s.reach) (λ id. entry_of next id ≡ entry_of (at_moment now s) id) known_at s.reach (All-contains_itself s.reach))
        in
        λ i. record { own = (left.id i).0; now = moment i; nodes = nodes i }

    used_next : AreSame rest.usable same.other
    used_next = used_same laws.unique s next rest.usable same.other same rest.are_usable same.is_other

    posts_are : posts_of next.private next.ports ≡ posts_of s.private s.ports
    posts_are = λ i. private_posts (left.private i) ++ left.endpoints i

    asked_next : AreAsked next same.other rest.wishes
    asked_next = record {
      ascending = rest.are_asked.ascending;
      exact = λ wish. (
        λ there.
            let w = (rest.are_asked.exact wish).0 there in
            let here : IsWishAt s.private at same.other w.place wish = same_wish s.private before at rest.usable same.other used_next goes w.place wish w.asked in
            record {
              place = w.place;
              asked = subst (λ (view : PlainView). IsWishAt next.private view same.other w.place wish) (sym seen_next)
                  (subst (λ (private : Option ℕ). IsWishAt private at same.other w.place wish) (sym left.private) here);
              post = subst (λ (posts : List EpId). Contains posts wish.endpoint) (sym posts_are) w.post;
            },
        λ w.
            let there : IsWishAt s.private at same.other w.place wish =
            subst (λ (private : Option ℕ). IsWishAt private at same.other w.place wish) left.private
            (subst (λ (view : PlainView). IsWishAt next.private view same.other w.place wish) seen_next w.asked) in
            (rest.are_asked.exact wish).1 (record {
              place = w.place;
              asked = same_wish s.private at before same.other rest.usable (same_back rest.usable same.other used_next) goes_back w.place wish there;
              post = subst (λ (posts : List EpId). Contains posts wish.endpoint) posts_are w.post;
            }),
      );
    }

    wished_next : All (λ c. IsWished rest.wishes (assigned_pair c)) next.held.assigned
    wished_next = all_of (λ c. IsWished rest.wishes (assigned_pair c)) next.held.assigned (λ c there.
        let among : Contains (map unmarked s.held.assigned) (unmarked c) =
        subst (λ (list : List Assigned). Contains list (unmarked c)) left.assigned (Contains-map unmarked next.held.assigned c there) in
        let (d, d_in, d_is) = Contains-from_map unmarked s.held.assigned (unmarked c) among in
        let (wish, wish_in, pair) = All-contains (λ (x : Assigned). IsWished rest.wishes (assigned_pair x)) s.held.assigned d rest.wished d_in in
        (wish, wish_in, pair ∙ ap assigned_pair d_is))

    pub rests_next : IsRouterAtRest next
    rests_next = record {
      usable = same.other;
      are_usable = same.is_other;
      wishes = rest.wishes;
      are_asked = asked_next;
      advertised = rest.advertised;
      are_advertised =
          subst (λ (view : PlainView). AreAdvertised view next.held.assigned rest.advertised) (sym seen_next)
          ((laws.advertised_same at s.held.assigned next.held.assigned rest.advertised left.assigned).0
          ((laws.advertised_later before at s.held.assigned rest.advertised later).0 rest.are_advertised));
      wished = wished_next;
      at_rest =
          subst (λ (id : NodeId). AreAtRest rest.advertised id.0 rest.wishes next.held.assigned) (sym left.id)
          ((laws.rest_same rest.advertised s.id.0 rest.wishes s.held.assigned next.held.assigned left.assigned).0 rest.at_rest);
    }
