-- What the search for what a set would do finds, as facts of the world: nothing if and only if the router is quiet.
use Rattle.hn_base.proofs.Names.{◌≡◌, ◌↔◌, Bool, true, false, IsTrue, IfSome, Option, Some, None, Contains, refl, sym, subst, inl, inr, IsTotalOrder, false≢true, All-contains, HasAt}
use Rattle.hn_audit.proofs.Names.{contains_at, Advertised, Assigned, Wish, IsWished, assigned_pair, pair_cmp, wish_pair, IsAtRest, UsableIsUnique, RestKnowsNoOrder, State, Member, Parts, Unquiet}
use Rattle.hn_audit.proofs.Names.{IsFoundOf, act_of, FindsOfRouter, FindsNotAtRest, FindsUnasked, IsFirstUnquiet, WitnessNamesOneNotAtRest, IsQuietByRules, IsRouterAtRest, IsReached, set_of, Disturbs, IsOfSet}
use Rattle.hn_assign.specs.Best.{IsBestIfAny}
use Rattle.hn_assign.specs.Fixed.{IsWishAtRest}
use Rattle.hn_audit.specs.declared.witness.Unquiet.TheVariants as act
use Rattle.hn_audit.specs.Laws.{WitnessRefutesQuiet}
use Rattle.hn_audit.specs.Witness.{AsksFor, Outlook}
use Rattle.hn_audit.proofs.RestIsOne.{rests_in_order, wished_there}
use Rattle.hn_audit.proofs.Settling.{each_of_set, set_has}

-- ---- where nothing is found

router_rests : (s : Member) → FindsOfRouter s None → IsRouterAtRest s.router
router_rests s h = record {
  usable = h.outlook.usable;
  are_usable = h.outlook.are_usable;
  wishes = h.outlook.wishes;
  are_asked = h.outlook.are_asked;
  advertised = h.outlook.advertised;
  are_advertised = h.outlook.are_advertised;
  wished = h.found.0;
  at_rest = λ wish there. All-contains (IsWishAtRest h.outlook.advertised s.router.id.0 s.router.held.assigned) h.outlook.wishes wish h.found.1 there;
}

pub none_quiets : (w : Parts) (r : Member) → IsFirstUnquiet w r None → IsQuietByRules w r
none_quiets w r none s reached = router_rests s ((each_of_set w r (λ (m : Member). FindsOfRouter m None)).0 none s reached)

-- ---- what a witness says

is_wanted : (b : Bool) → ¬ (¬ IsTrue b) → IsTrue b
is_wanted true not = refl
is_wanted false not = absurd (not (λ yes. false≢true yes))

module _ (w : Parts) (r s : Member) (reached : IsReached w r s) (outlook : Outlook s.router) where
  of_set : IsOfSet w r s.name s
  of_set = record { reached = reached; named = refl }

  unasked_disturbs : (u : Unquiet) → IsFoundOf (FindsUnasked s.name outlook.wishes) s.router.held.assigned u → Disturbs w r u
  unasked_disturbs u h =
      subst (Disturbs w r) (sym h.found.0) (record {
        one = s;
        of_set = of_set;
        outlook = outlook;
        assignment = h.one;
        has = record { held = contains_at s.router.held.assigned h.place h.one h.at; of_endpoint = refl; of_delegated = refl };
        of_prefix = refl;
        unasked = h.found.1;
      })

  abbrev asks_for : (wish : Wish) (assignment : Option Assigned) → Contains outlook.wishes wish → HasAt assigned_pair (wish_pair wish) assignment s.router.held.assigned
      → AsksFor w r s.name wish.endpoint wish.delegated assignment
  asks_for wish assignment there has = record {
    one = s;
    of_set = of_set;
    outlook = outlook;
    wish = wish;
    asked = there;
    of_endpoint = refl;
    of_delegated = refl;
    has = has;
  }

  -- by the assignment of the pair and the best prefix
  act_disturbs : (wish : Wish) → Contains outlook.wishes wish → (assignment : Option Assigned) (best : Option Advertised)
      → HasAt assigned_pair (wish_pair wish) assignment s.router.held.assigned
      → IsBestIfAny outlook.advertised s.router.id.0 wish.common wish.delegated best
      → ¬ IsAtRest outlook.advertised s.router.id.0 wish assignment
      → Disturbs w r (act_of s.name wish assignment best)
  act_disturbs wish there None None has is_best not_at_rest = record {
    pair = asks_for wish None there has;
    no_best = is_best;
    wanted = is_wanted wish.wanted (λ unwanted. not_at_rest (record { no_best = is_best; nothing_to_do = inl unwanted }));
    some_free = λ none. not_at_rest (record { no_best = is_best; nothing_to_do = inr none });
  }
  act_disturbs wish there None (Some best) has is_best not_at_rest = record {
    pair = asks_for wish None there has;
    advertised = best;
    is_best = is_best;
    of_best = refl;
  }
  act_disturbs wish there (Some c) None has is_best not_at_rest = record {
    assignment = c;
    of_prefix = refl;
    pair = asks_for wish (Some c) there has;
    no_best = is_best;
    not_at_rest = not_at_rest;
  }
  act_disturbs wish there (Some c) (Some best) has is_best not_at_rest = record {
    assignment = c;
    of_prefix = refl;
    pair = asks_for wish (Some c) there has;
    advertised = best;
    is_best = is_best;
    of_best = refl;
    not_at_rest = not_at_rest;
  }

  not_at_rest_disturbs : (u : Unquiet) → IsFoundOf (FindsNotAtRest s.name outlook.advertised s.router.id.0 s.router.held.assigned) outlook.wishes u → Disturbs w r u
  not_at_rest_disturbs u h =
      let k = h.found in
      subst (Disturbs w r) (sym k.is) (act_disturbs h.one (contains_at outlook.wishes h.place h.one h.at) k.assignment k.best k.has k.is_best k.not_at_rest)

router_disturbs : (w : Parts) (r s : Member) (u : Unquiet) → IsReached w r s → FindsOfRouter s (Some u) → Disturbs w r u
router_disturbs w r s u reached h =
    elim h.found [
      | inl unasked ↦ unasked_disturbs w r s reached h.outlook u unasked
      | inr not_at_rest ↦ not_at_rest_disturbs w r s reached h.outlook u not_at_rest.1
    ]

pub first_disturbs : (w : Parts) (r : Member) (u : Unquiet) → IsFirstUnquiet w r (Some u) → Disturbs w r u
first_disturbs w r u h = router_disturbs w r h.one u ((set_has w r h.one).0 (contains_at (set_of w r) h.place h.one h.at)) h.found

-- ---- what it says refutes that the router is quiet

module _ (unique : UsableIsUnique) (total : IsTotalOrder pair_cmp) (order : RestKnowsNoOrder) where
  -- a pair of a router at rest
  pair_rests : (s : State) (outlook : Outlook s) (wish : Wish) (assignment : Option Assigned) → IsRouterAtRest s → Contains outlook.wishes wish
      → HasAt assigned_pair (wish_pair wish) assignment s.held.assigned → IsAtRest outlook.advertised s.id.0 wish assignment
  pair_rests s o wish assignment rest there has =
      rests_in_order unique total s o.usable o.are_usable o.wishes o.are_asked rest order o.advertised o.are_advertised wish there assignment has

  pub names_one_not_at_rest : WitnessNamesOneNotAtRest
  names_one_not_at_rest w r (act.Unasked router endpoint delegated prefix) h =
      let o = h.outlook in (
        h.one,
        h.of_set.reached,
        λ rest.
            h.unasked (All-contains (λ (c : Assigned). IsWished o.wishes (assigned_pair c)) h.one.router.held.assigned h.assignment
            (wished_there unique total h.one.router o.usable o.are_usable o.wishes o.are_asked rest) h.has.held),
      )
  names_one_not_at_rest w r (act.Makes router endpoint delegated) h =
      let p = h.pair in (
        p.one,
        p.of_set.reached,
        λ rest. elim (pair_rests p.one.router p.outlook p.wish None rest p.asked p.has).nothing_to_do [
          | inl unwanted ↦ unwanted h.wanted
          | inr none ↦ h.some_free none
        ],
      )
  names_one_not_at_rest w r (act.Takes router endpoint delegated best) h =
      let p = h.pair in
      (p.one, p.of_set.reached, λ rest. (pair_rests p.one.router p.outlook p.wish None rest p.asked p.has).no_best h.advertised h.is_best.candidate)
  names_one_not_at_rest w r (act.Drops router endpoint delegated prefix) h =
      let p = h.pair in
      (p.one, p.of_set.reached, λ rest. h.not_at_rest (pair_rests p.one.router p.outlook p.wish (Some h.assignment) rest p.asked p.has))
  names_one_not_at_rest w r (act.Changes router endpoint delegated prefix best) h =
      let p = h.pair in
      (p.one, p.of_set.reached, λ rest. h.not_at_rest (pair_rests p.one.router p.outlook p.wish (Some h.assignment) rest p.asked p.has))

  pub refutes_quiet : WitnessRefutesQuiet
  refutes_quiet w r u h quiet = let (s, reached, not_at_rest) = names_one_not_at_rest w r u h in not_at_rest (quiet s reached)

-- ---- the facts of an answer

pub first_tells : WitnessRefutesQuiet → (w : Parts) (r : Member) (answer : Option Unquiet) → IsFirstUnquiet w r answer → ((answer ≡ None) ↔ IsQuietByRules w r) × IfSome answer (Disturbs w r)
first_tells law w r None first = ((λ none. none_quiets w r first, λ quiet. refl), tt)
first_tells law w r (Some u) first =
    let said = first_disturbs w r u first in
    ((λ none. absurd (cc), λ quiet. absurd (law w r u said quiet)), said)
