-- Whether a written-out home is one, and whether each of its pairs is at rest, computed.
use Rattle.hn_base.proofs.Names.{◌≡◌, ℕ, zero, suc, ◌≤◌, inl, inr, Bool, true, false, Option, Some, None, List, [], ◌∷◌, refl, sym, ap, ◌∙◌, subst, arith, ◌==◌, nat_le, list_all, list_any, eqb-true}
use Rattle.hn_base.proofs.Names.{eq-eqb, leb-true, and_parts, and_from, or_cases, PlainPrefix, IsWithin}
use Rattle.hn_sound.proofs.Names.{◌&&◌, ◌||◌, Contains, same_node, same_id, nothing_in, Contains-head, Contains-cases, Advertised, Assigned, Wish, IsAssignmentOf, Home, Endpoint, Held}
use Rattle.hn_sound.proofs.Names.{EndpointHasAssignment, advertised, wish_of, Meets, IsHome, OneLink, OnceOnLink, UsedApart, ForUsed, PublishedInside, OneEach, PriorityTwo, in_filter, from_filter}
use Rattle.hn_sound.proofs.Names.{is_one_prefix, prefix_decided, any_of}
use Rattle.std.specs.List.{filter}
use Rattle.hn_sound.specs.AtRest.{EachPair, PairFact}
use Rattle.hn_sound.specs.Premises.{Premise, IsHomeBut}
use Rattle.hn_sound.proofs.PrefixTests.{implies, then_true, each_passes, is_within, within_from, may_overlap, to_may_overlap}

-- ---- the assignments of a pair

-- whether the assignment is of the endpoint, for the delegated prefix
abbrev pub is_of : Endpoint → PlainPrefix → Held → Bool
is_of e d h = ((h.node.0 == e.node.0) && (h.assigned.endpoint.0 == e.id.0)) && is_one_prefix h.assigned.delegated d

abbrev pub assignments_of : Home → Endpoint → PlainPrefix → List Held
assignments_of home e d = filter (is_of e d) home.assignments

to_is_of : (e : Endpoint) (d : PlainPrefix) (c : Assigned) → c.endpoint ≡ e.id → c.delegated ≡ d → is_of e d (record { node = e.node; assigned = c }) ≡ true
to_is_of e d c id is =
    and_from ((e.node.0 == e.node.0) && (c.endpoint.0 == e.id.0)) (is_one_prefix c.delegated d)
    (and_from (e.node.0 == e.node.0) (c.endpoint.0 == e.id.0) (eq-eqb e.node.0 e.node.0 refl) (eq-eqb c.endpoint.0 e.id.0 (ap (λ (i : _). i.0) id)))
    ((prefix_decided c.delegated d).1 is)

pub to_assignments_of : (home : Home) (e : Endpoint) (d : PlainPrefix) (c : Assigned) → EndpointHasAssignment home e d c → Contains (assignments_of home e d) (record { node = e.node; assigned = c })
to_assignments_of home e d c has =
    in_filter (is_of e d) home.assignments (record { node = e.node; assigned = c }) has.held (to_is_of e d c has.of_endpoint has.of_delegated)

from_assignments_of : (home : Home) (e : Endpoint) (d : PlainPrefix) (h : Held) → Contains home.endpoints e → Contains (assignments_of home e d) h → EndpointHasAssignment home e d h.assigned
from_assignments_of home e d h e_there contained =
    let found = from_filter (is_of e d) home.assignments h contained in
    let parts = and_parts ((h.node.0 == e.node.0) && (h.assigned.endpoint.0 == e.id.0)) (is_one_prefix h.assigned.delegated d) found.1 in
    let ids = and_parts (h.node.0 == e.node.0) (h.assigned.endpoint.0 == e.id.0) parts.0 in
    let node = same_node h.node e.node (eqb-true h.node.0 e.node.0 ids.0) in
    let is : h ≡ record { node = e.node; assigned = h.assigned } = λ i. record { node = node i; assigned = h.assigned } in
    record {
      there = e_there;
      held = subst (Contains home.assignments) is found.0;
      of_endpoint = same_id h.assigned.endpoint e.id (eqb-true h.assigned.endpoint.0 e.id.0 ids.1);
      of_delegated = (prefix_decided h.assigned.delegated d).0 parts.1;
    }

abbrev pub first_of_list : List Held → Option Assigned
first_of_list [] = None
first_of_list (h ∷ hs) = Some h.assigned

first_is : (home : Home) (e : Endpoint) (d : PlainPrefix) → Contains home.endpoints e → IsAssignmentOf home e d (first_of_list (assignments_of home e d))
first_is home e d e_there = go (assignments_of home e d) (to_assignments_of home e d) (λ h contained. from_assignments_of home e d h e_there contained)
  where
    go : (hs : List Held) → ((c : Assigned) → EndpointHasAssignment home e d c → Contains hs (record { node = e.node; assigned = c }))
        → ((h : Held) → Contains hs h → EndpointHasAssignment home e d h.assigned) → IsAssignmentOf home e d (first_of_list hs)
    go [] complete _ = λ c has. nothing_in (record { node = e.node; assigned = c }) (complete c has)
    go (h ∷ hs) _ has = has h (Contains-head h hs)

-- ---- each pair

abbrev pub PairTest : Type 0
PairTest = List Advertised → ℕ → Wish → Option Assigned → Bool

abbrev pub pair_passes : PairTest → Home → Endpoint → PlainPrefix → Bool
pair_passes test home e d = test (advertised home) e.node.0 (wish_of home e d) (first_of_list (assignments_of home e d))

abbrev pub each_pair : PairTest → Home → Bool
each_pair test home = list_all (λ e. list_all (pair_passes test home e) home.used) home.endpoints

pub each_pair_from : (P : PairFact) (test : PairTest) → ((adv : List Advertised) (own : ℕ) (wish : Wish) (o : Option Assigned) → test adv own wish o ≡ true → P adv own wish o)
    → (home : Home) → each_pair test home ≡ true → EachPair P home
each_pair_from P test tells home h e d e_there d_used =
    let of_e = each_passes (λ x. list_all (pair_passes test home x) home.used) home.endpoints e h e_there in
    let of_d = each_passes (pair_passes test home e) home.used d of_e d_used in
    (first_of_list (assignments_of home e d), first_is home e d e_there, tells (advertised home) e.node.0 (wish_of home e d) (first_of_list (assignments_of home e d)) of_d)

-- ---- the premises

-- each assignment of each endpoint passes
abbrev pub each_assignment : (Held → Bool) → Home → Bool
each_assignment test home =
    list_all (λ (e : Endpoint). list_all (λ (h : Held). implies (is_of e h.assigned.delegated h) (test h)) home.assignments) home.endpoints

assignment_passes : (test : Held → Bool) (home : Home) (e : Endpoint) (d : PlainPrefix) (c : Assigned) → each_assignment test home ≡ true
    → EndpointHasAssignment home e d c → test (record { node = e.node; assigned = c }) ≡ true
assignment_passes test home e d c h has =
    let it : Held = record { node = e.node; assigned = c } in
    let of_e = each_passes (λ (x : Endpoint). list_all (λ (k : Held). implies (is_of x k.assigned.delegated k) (test k)) home.assignments) home.endpoints e h has.there in
    let of_it = each_passes (λ (k : Held). implies (is_of e k.assigned.delegated k) (test k)) home.assignments it of_e has.held in
    then_true (is_of e c.delegated it) (test it) of_it (to_is_of e c.delegated c has.of_endpoint refl)

-- a fact of each two endpoints
abbrev pub each_two : (Endpoint → Endpoint → Bool) → Home → Bool
each_two test home = list_all (λ (e : Endpoint). list_all (test e) home.endpoints) home.endpoints

two_pass : (test : Endpoint → Endpoint → Bool) (home : Home) (e f : Endpoint) → each_two test home ≡ true → Contains home.endpoints e → Contains home.endpoints f → test e f ≡ true
two_pass test home e f h e_there f_there =
    each_passes (test e) home.endpoints f (each_passes (λ (x : Endpoint). list_all (test x) home.endpoints) home.endpoints e h e_there) f_there

abbrev pub is_on_one_link : Endpoint → Endpoint → Bool
is_on_one_link e f = implies ((e.node.0 == f.node.0) && (e.id.0 == f.id.0)) (e.link == f.link)

abbrev pub is_once_on_link : Endpoint → Endpoint → Bool
is_once_on_link e f = implies ((e.node.0 == f.node.0) && (e.link == f.link)) (e.id.0 == f.id.0)

abbrev pub is_apart : PlainPrefix → PlainPrefix → Bool
is_apart d other = implies (may_overlap d other) (is_one_prefix d other)

abbrev pub has_at_most_one : List Held → Bool
has_at_most_one [] = true
has_at_most_one (h ∷ []) = true
has_at_most_one (h ∷ k ∷ hs) = false

abbrev pub is_inside_where_published : Option ℕ → PlainPrefix → PlainPrefix → Bool
is_inside_where_published None p d = true
is_inside_where_published (Some priority) p d = is_within p d

abbrev pub is_two_where_published : Option ℕ → Bool
is_two_where_published None = true
is_two_where_published (Some priority) = nat_le 2 priority

abbrev pub meets : Home → Premise → Bool
meets home OneLink = each_two is_on_one_link home
meets home OnceOnLink = each_two is_once_on_link home
meets home UsedApart = list_all (λ d. list_all (is_apart d) home.used) home.used
meets home ForUsed = each_assignment (λ (h : Held). list_any (is_one_prefix h.assigned.delegated) home.used) home
meets home PublishedInside = each_assignment (λ (h : Held). is_inside_where_published h.assigned.published h.assigned.prefix h.assigned.delegated) home
meets home OneEach = list_all (λ (e : Endpoint). list_all (λ (h : Held). has_at_most_one (assignments_of home e h.assigned.delegated)) home.assignments) home.endpoints
meets home PriorityTwo = each_assignment (λ (h : Held). is_two_where_published h.assigned.published) home

one_only : (hs : List Held) (h k : Held) → has_at_most_one hs ≡ true → Contains hs h → Contains hs k → h ≡ k
one_only [] h k _ h_in k_in = absurd (nothing_in h h_in)
one_only (x ∷ []) h k _ h_in k_in =
    elim (Contains-cases x [] h h_in) [
      | inr later ↦ absurd (nothing_in h later)
      | inl is_h ↦ elim (Contains-cases x [] k k_in) [
        | inr later ↦ absurd (nothing_in k later)
        | inl is_k ↦ sym is_h ∙ is_k
      ]
    ]
one_only (x ∷ y ∷ hs) h k e h_in k_in = absurd (cc)

inside_from : (o : Option ℕ) (p d : PlainPrefix) (priority : ℕ) → is_inside_where_published o p d ≡ true → o ≡ Some priority → IsWithin p d
inside_from None p d priority h is = absurd (cc)
inside_from (Some q) p d priority h is = within_from p d h

two_from : (o : Option ℕ) (priority : ℕ) → is_two_where_published o ≡ true → o ≡ Some priority → 2 ≤ priority
two_from None priority h is = absurd (cc)
two_from (Some q) priority h is = let same : q ≡ priority = cc in subst (λ n. 2 ≤ n) same (leb-true 2 q h)

meets_from : (home : Home) (premise : Premise) → meets home premise ≡ true → Meets home premise
meets_from home OneLink h = λ e f e_there f_there node id.
    eqb-true e.link f.link (then_true ((e.node.0 == f.node.0) && (e.id.0 == f.id.0)) (e.link == f.link) (two_pass is_on_one_link home e f h e_there f_there)
    (and_from (e.node.0 == f.node.0) (e.id.0 == f.id.0) (eq-eqb e.node.0 f.node.0 (ap (λ (i : _). i.0) node)) (eq-eqb e.id.0 f.id.0 (ap (λ (i : _). i.0) id))))
meets_from home OnceOnLink h = λ e f e_there f_there node link.
    same_id e.id f.id (eqb-true e.id.0 f.id.0 (then_true ((e.node.0 == f.node.0) && (e.link == f.link)) (e.id.0 == f.id.0) (two_pass is_once_on_link home e f h e_there f_there)
    (and_from (e.node.0 == f.node.0) (e.link == f.link) (eq-eqb e.node.0 f.node.0 (ap (λ (i : _). i.0) node)) (eq-eqb e.link f.link link))))
meets_from home UsedApart h = λ d other d_used other_used overlap.
    let of_d = each_passes (λ x. list_all (is_apart x) home.used) home.used d h d_used in
    let of_both = each_passes (is_apart d) home.used other of_d other_used in
    (prefix_decided d other).0 (then_true (may_overlap d other) (is_one_prefix d other) of_both (to_may_overlap d other overlap))
meets_from home ForUsed h = λ e d c has.
    let passes = assignment_passes (λ (k : Held). list_any (is_one_prefix k.assigned.delegated) home.used) home e d c h has in
    let found = any_of (is_one_prefix c.delegated) home.used passes in
    subst (Contains home.used) (sym ((prefix_decided c.delegated found.0).0 found.2) ∙ has.of_delegated) found.1
meets_from home PublishedInside h = λ e d c priority published.
    let passes = assignment_passes (λ (k : Held). is_inside_where_published k.assigned.published k.assigned.prefix k.assigned.delegated) home e d c h published.has in
    subst (IsWithin c.prefix) published.has.of_delegated (inside_from c.published c.prefix c.delegated priority passes published.published)
meets_from home OneEach h = λ e d c other has other_has.
    let of_e = each_passes (λ (x : Endpoint). list_all (λ (k : Held). has_at_most_one (assignments_of home x k.assigned.delegated)) home.assignments) home.endpoints e h has.there in
    let of_c : has_at_most_one (assignments_of home e c.delegated) ≡ true =
    each_passes (λ (k : Held). has_at_most_one (assignments_of home e k.assigned.delegated)) home.assignments (record { node = e.node; assigned = c }) of_e has.held in
    let of_d : has_at_most_one (assignments_of home e d) ≡ true = subst (λ x. has_at_most_one (assignments_of home e x) ≡ true) has.of_delegated of_c in
    ap (λ (k : Held). k.assigned) (one_only (assignments_of home e d) (record { node = e.node; assigned = c })
    (record { node = e.node; assigned = other }) of_d (to_assignments_of home e d c has) (to_assignments_of home e d other other_has))
meets_from home PriorityTwo h = λ e d c priority published.
    two_from c.published priority (assignment_passes (λ (k : Held). is_two_where_published k.assigned.published) home e d c h published.has) published.published

-- ---- all premises, and all but one

abbrev pub premises : List Premise
premises = OneLink ∷ OnceOnLink ∷ UsedApart ∷ ForUsed ∷ PublishedInside ∷ OneEach ∷ PriorityTwo ∷ []

is_listed : (p : Premise) → Contains premises p
is_listed OneLink = (0, omega arith, refl)
is_listed OnceOnLink = (1, omega arith, refl)
is_listed UsedApart = (2, omega arith, refl)
is_listed ForUsed = (3, omega arith, refl)
is_listed PublishedInside = (4, omega arith, refl)
is_listed OneEach = (5, omega arith, refl)
is_listed PriorityTwo = (6, omega arith, refl)

abbrev pub premise_index : Premise → ℕ
premise_index OneLink = 0
premise_index OnceOnLink = 1
premise_index UsedApart = 2
premise_index ForUsed = 3
premise_index PublishedInside = 4
premise_index OneEach = 5
premise_index PriorityTwo = 6

abbrev pub premise_at : ℕ → Premise
premise_at zero = OneLink
premise_at (suc zero) = OnceOnLink
premise_at (suc (suc zero)) = UsedApart
premise_at (suc (suc (suc zero))) = ForUsed
premise_at (suc (suc (suc (suc zero)))) = PublishedInside
premise_at (suc (suc (suc (suc (suc zero))))) = OneEach
premise_at (suc (suc (suc (suc (suc (suc n)))))) = PriorityTwo

at_index : (p : Premise) → premise_at (premise_index p) ≡ p
at_index OneLink = refl
at_index OnceOnLink = refl
at_index UsedApart = refl
at_index ForUsed = refl
at_index PublishedInside = refl
at_index OneEach = refl
at_index PriorityTwo = refl

pub home_from : (home : Home) → list_all (meets home) premises ≡ true → IsHome home
home_from home h premise = meets_from home premise (each_passes (meets home) premises premise h (is_listed premise))

abbrev pub meets_but : Premise → Home → Premise → Bool
meets_but but home premise = (premise_index premise == premise_index but) || meets home premise

pub home_but_from : (but : Premise) (home : Home) → list_all (meets_but but home) premises ≡ true → IsHomeBut but home
home_but_from but home h premise differ =
    elim (or_cases (premise_index premise == premise_index but) (meets home premise) (each_passes (meets_but but home) premises premise h (is_listed premise))) [
      | inl same ↦ absurd (differ (sym (at_index premise) ∙ ap premise_at (eqb-true (premise_index premise) (premise_index but) same) ∙ at_index but))
      | inr passes ↦ meets_from home premise passes
    ]
