-- Whether a pair is at rest, computed.
use Rattle.hn_base.proofs.Names.{◌≡◌, ℕ, inl, inr, Bool, true, false, not, Option, Some, None, List, refl, ap, subst, ◌==◌, is_none, list_all, list_any, is_lt, Less, Equal, Greater, eqb-true, eq-eqb}
use Rattle.hn_base.proofs.Names.{and_parts, and_from, or_cases, not-true, not_from_false, ne_eqb, eqb-false, key_cmp, IsAbove, PlainPrefix}
use Rattle.hn_sound.proofs.Names.{◌&&◌, ◌||◌, Contains, Ordering, NodeId, EpId, same_node, same_id, Advertised, Assigned, Wish, LinkEndpoints, key_of, IsAdvertisedOnLink, advertised_cmp}
use Rattle.hn_sound.proofs.Names.{IsCandidatePrefix, IsBest, HasNoBest, IsValid, HasNoFree, IsAtRest, IsAtRestWithout, IsAheadOfBest, IsFollowing, NothingToDo, Published, Valid, GreaterKey, Unpublished}
use Rattle.hn_sound.proofs.Names.{BestPrefix, is_one_prefix, prefix_decided, any_of}
use Rattle.std.specs.Prelude.{is_some}
use Rattle.hn_assign.specs.Rest.{IsAlone}
use Rattle.hn_sound.specs.Conditions.{Condition, MeetsRest, IsAtRestBut}
use Rattle.hn_base.proofs.Elements.{any_from}
use Rattle.hn_sound.proofs.PrefixTests.{implies, then_true, each_passes, begins_with, to_begins_with, is_within, within_from, may_overlap, to_may_overlap}
use Rattle.hn_base.proofs.DecidingTests.{from_is_none}

not_less : (r : Ordering) → not (is_lt r) ≡ true → ¬ (r ≡ Less)
not_less r h e = let less : is_lt r ≡ true = ap is_lt e in let no : is_lt r ≡ false = not-true (is_lt r) h in absurd (cc)

from_is_lt : (r : Ordering) → is_lt r ≡ true → r ≡ Less
from_is_lt Less h = refl
from_is_lt Equal h = absurd (cc)
from_is_lt Greater h = absurd (cc)

-- ---- candidates

abbrev pub is_on_link : LinkEndpoints → Advertised → Bool
is_on_link common a = list_any (λ (m : NodeId × EpId). (m.0.0 == a.key.node.0) && (m.1.0 == a.key.endpoint.0)) common

from_is_on_link : (common : LinkEndpoints) (a : Advertised) → is_on_link common a ≡ true → IsAdvertisedOnLink common a
from_is_on_link common a h =
    let found = any_of (λ (m : NodeId × EpId). (m.0.0 == a.key.node.0) && (m.1.0 == a.key.endpoint.0)) common h in
    let parts = and_parts (found.0.0.0 == a.key.node.0) (found.0.1.0 == a.key.endpoint.0) found.2 in
    let node = same_node found.0.0 a.key.node (eqb-true found.0.0.0 a.key.node.0 parts.0) in
    let id = same_id found.0.1 a.key.endpoint (eqb-true found.0.1.0 a.key.endpoint.0 parts.1) in
    let pair : found.0 ≡ (a.key.node, a.key.endpoint) = λ i. (node i, id i) in
    subst (Contains common) pair found.1

to_is_on_link : (common : LinkEndpoints) (a : Advertised) → IsAdvertisedOnLink common a → is_on_link common a ≡ true
to_is_on_link common a h =
    any_from (λ (m : NodeId × EpId). (m.0.0 == a.key.node.0) && (m.1.0 == a.key.endpoint.0)) common (a.key.node, a.key.endpoint) h
    (and_from (a.key.node.0 == a.key.node.0) (a.key.endpoint.0 == a.key.endpoint.0) (eq-eqb a.key.node.0 a.key.node.0 refl) (eq-eqb a.key.endpoint.0 a.key.endpoint.0 refl))

-- what each candidate passes
abbrev pub may_be_candidate : ℕ → LinkEndpoints → PlainPrefix → Advertised → Bool
may_be_candidate own common d a = not (a.key.node.0 == own) && (is_on_link common a && begins_with a.prefix.bits d)

to_may_be_candidate : (adv : List Advertised) (own : ℕ) (common : LinkEndpoints) (d : PlainPrefix) (a : Advertised) → IsCandidatePrefix adv own common d a → may_be_candidate own common d a ≡ true
to_may_be_candidate adv own common d a c =
    and_from (not (a.key.node.0 == own)) (is_on_link common a && begins_with a.prefix.bits d)
    (not_from_false (a.key.node.0 == own) (ne_eqb a.key.node.0 own c.of_another))
    (and_from (is_on_link common a) (begins_with a.prefix.bits d) (to_is_on_link common a c.on_link) (to_begins_with a.prefix.bits d (c.inside a.prefix.bits refl)))

abbrev pub is_candidate : ℕ → LinkEndpoints → PlainPrefix → Advertised → Bool
is_candidate own common d a = not (a.key.node.0 == own) && (is_on_link common a && is_within a.prefix d)

from_is_candidate : (adv : List Advertised) (own : ℕ) (common : LinkEndpoints) (d : PlainPrefix) (a : Advertised) → Contains adv a
    → is_candidate own common d a ≡ true → IsCandidatePrefix adv own common d a
from_is_candidate adv own common d a there h =
    let parts = and_parts (not (a.key.node.0 == own)) (is_on_link common a && is_within a.prefix d) h in
    let rest = and_parts (is_on_link common a) (is_within a.prefix d) parts.1 in
    record {
      advertised = there;
      of_another = eqb-false a.key.node.0 own (not-true (a.key.node.0 == own) parts.0);
      on_link = from_is_on_link common a rest.0;
      inside = within_from a.prefix d rest.1;
    }

abbrev pub has_no_best : List Advertised → ℕ → LinkEndpoints → PlainPrefix → Bool
has_no_best adv own common d = list_all (λ a. not (may_be_candidate own common d a)) adv

from_no_best : (adv : List Advertised) (own : ℕ) (common : LinkEndpoints) (d : PlainPrefix) → has_no_best adv own common d ≡ true → HasNoBest adv own common d
from_no_best adv own common d h a c =
    let fails = not-true (may_be_candidate own common d a) (each_passes (λ b. not (may_be_candidate own common d b)) adv a h c.advertised) in
    let passes = to_may_be_candidate adv own common d a c in
    absurd (cc)

abbrev pub is_best : List Advertised → ℕ → LinkEndpoints → PlainPrefix → Advertised → Bool
is_best adv own common d b =
    is_candidate own common d b && list_all (λ a. implies (may_be_candidate own common d a) (not (is_lt (advertised_cmp b a)))) adv

from_is_best : (adv : List Advertised) (own : ℕ) (common : LinkEndpoints) (d : PlainPrefix) (b : Advertised) → Contains adv b → is_best adv own common d b ≡ true → IsBest adv own common d b
from_is_best adv own common d b there h =
    let parts = and_parts (is_candidate own common d b) (list_all (λ a. implies (may_be_candidate own common d a) (not (is_lt (advertised_cmp b a)))) adv) h in
    record {
      candidate = from_is_candidate adv own common d b there parts.0;
      greatest = λ a c.
          let passes = each_passes (λ x. implies (may_be_candidate own common d x) (not (is_lt (advertised_cmp b x)))) adv a parts.1 c.advertised in
          not_less (advertised_cmp b a) (then_true (may_be_candidate own common d a) (not (is_lt (advertised_cmp b a))) passes (to_may_be_candidate adv own common d a c));
    }

-- ---- valid, and nothing free

abbrev pub is_valid : List Advertised → ℕ → LinkEndpoints → Assigned → Bool
is_valid adv own common c =
    list_all (λ a. is_on_link common a || implies (may_overlap a.prefix c.prefix) (not (is_lt (key_cmp (key_of 2 own c.endpoint.0) a.key)))) adv

from_is_valid : (adv : List Advertised) (own : ℕ) (common : LinkEndpoints) (c : Assigned) → is_valid adv own common c ≡ true → IsValid adv own common c
from_is_valid adv own common c h a there off overlap =
    let passes = each_passes (λ x. is_on_link common x || implies (may_overlap x.prefix c.prefix) (not (is_lt (key_cmp (key_of 2 own c.endpoint.0) x.key)))) adv a h there in
    elim (or_cases (is_on_link common a) (implies (may_overlap a.prefix c.prefix) (not (is_lt (key_cmp (key_of 2 own c.endpoint.0) a.key)))) passes) [
      | inl on ↦ λ _. off (from_is_on_link common a on)
      | inr then ↦ not_less (key_cmp (key_of 2 own c.endpoint.0) a.key)
          (then_true (may_overlap a.prefix c.prefix) (not (is_lt (key_cmp (key_of 2 own c.endpoint.0) a.key))) then (to_may_overlap a.prefix c.prefix overlap))
    ]

-- the delegated prefix is advertised as a whole
abbrev pub is_taken : List Advertised → PlainPrefix → Bool
is_taken adv d = list_any (λ (a : Advertised). is_within d a.prefix) adv

from_is_taken : (adv : List Advertised) (d : PlainPrefix) (len : ℕ) → is_taken adv d ≡ true → HasNoFree adv d len
from_is_taken adv d len h p free =
    let found = any_of (λ (a : Advertised). is_within d a.prefix) adv h in
    let inside = within_from d found.0.prefix found.2 in
    free.free found.0 found.1 (p.bits, inside p.bits (free.inside.within p.bits refl), refl)

-- ---- at rest

abbrev pub is_idle : List Advertised → ℕ → Wish → Bool
is_idle adv own wish = has_no_best adv own wish.common wish.delegated && (not wish.wanted || is_taken adv wish.delegated)

abbrev pub is_alone : List Advertised → ℕ → Wish → Assigned → Bool
is_alone adv own wish c = has_no_best adv own wish.common wish.delegated && (is_some c.published && is_valid adv own wish.common c)

-- the key that the assignment is published with is above
abbrev pub is_above : Option ℕ → ℕ → ℕ → Advertised → Bool
is_above None own id b = false
is_above (Some priority) own id b = is_lt (key_cmp b.key (key_of priority own id))

abbrev pub is_ahead : List Advertised → ℕ → Wish → Assigned → Advertised → Bool
is_ahead adv own wish c b =
    is_best adv own wish.common wish.delegated b && (is_above c.published own wish.endpoint.0 b && is_valid adv own wish.common c)

abbrev pub is_following : List Advertised → ℕ → Wish → Assigned → Advertised → Bool
is_following adv own wish c b =
    is_best adv own wish.common wish.delegated b && (is_none c.published && is_one_prefix c.prefix b.prefix)

abbrev pub is_at_rest : List Advertised → ℕ → Wish → Option Assigned → Bool
is_at_rest adv own wish None = is_idle adv own wish
is_at_rest adv own wish (Some c) =
    is_alone adv own wish c || list_any (λ b. is_ahead adv own wish c b || is_following adv own wish c b) adv

pub from_is_some : (o : Option ℕ) → is_some o ≡ true → (priority : ℕ) × (o ≡ Some priority)
from_is_some None h = absurd (cc)
from_is_some (Some priority) h = (priority, refl)

from_idle : (adv : List Advertised) (own : ℕ) (wish : Wish) → is_idle adv own wish ≡ true → IsAtRestWithout adv own wish
from_idle adv own wish h =
    let parts = and_parts (has_no_best adv own wish.common wish.delegated) (not wish.wanted || is_taken adv wish.delegated) h in
    record {
      no_best = from_no_best adv own wish.common wish.delegated parts.0;
      nothing_to_do = elim (or_cases (not wish.wanted) (is_taken adv wish.delegated) parts.1) [
        | inl unwanted ↦ inl (λ wanted. let no = not-true wish.wanted unwanted in absurd (cc))
        | inr taken ↦ inr (from_is_taken adv wish.delegated wish.length taken)
      ];
    }

from_alone : (adv : List Advertised) (own : ℕ) (wish : Wish) (c : Assigned) → is_alone adv own wish c ≡ true → IsAlone adv own wish c
from_alone adv own wish c h =
    let parts = and_parts (has_no_best adv own wish.common wish.delegated) (is_some c.published && is_valid adv own wish.common c) h in
    let rest = and_parts (is_some c.published) (is_valid adv own wish.common c) parts.1 in
    record {
      no_best = from_no_best adv own wish.common wish.delegated parts.0;
      published = from_is_some c.published rest.0;
      valid = from_is_valid adv own wish.common c rest.1;
    }

from_above : (o : Option ℕ) (own id : ℕ) (b : Advertised) → is_above o own id b ≡ true → (priority : ℕ) × (o ≡ Some priority) × IsAbove (key_of priority own id) b.key
from_above None own id b h = absurd (cc)
from_above (Some priority) own id b h = (priority, refl, from_is_lt (key_cmp b.key (key_of priority own id)) h)

from_ahead : (adv : List Advertised) (own : ℕ) (wish : Wish) (c : Assigned) (b : Advertised) → Contains adv b → is_ahead adv own wish c b ≡ true → IsAheadOfBest adv own wish c
from_ahead adv own wish c b there h =
    let parts = and_parts (is_best adv own wish.common wish.delegated b) (is_above c.published own wish.endpoint.0 b && is_valid adv own wish.common c) h in
    let rest = and_parts (is_above c.published own wish.endpoint.0 b) (is_valid adv own wish.common c) parts.1 in
    let above = from_above c.published own wish.endpoint.0 b rest.0 in
    record {
      best = b;
      is_best = from_is_best adv own wish.common wish.delegated b there parts.0;
      priority = above.0;
      published = above.1;
      above = above.2;
      valid = from_is_valid adv own wish.common c rest.1;
    }

from_following : (adv : List Advertised) (own : ℕ) (wish : Wish) (c : Assigned) (b : Advertised) → Contains adv b → is_following adv own wish c b ≡ true → IsFollowing adv own wish c
from_following adv own wish c b there h =
    let parts = and_parts (is_best adv own wish.common wish.delegated b) (is_none c.published && is_one_prefix c.prefix b.prefix) h in
    let rest = and_parts (is_none c.published) (is_one_prefix c.prefix b.prefix) parts.1 in
    record {
      best = b;
      is_best = from_is_best adv own wish.common wish.delegated b there parts.0;
      unpublished = from_is_none c.published rest.0;
      same = (prefix_decided c.prefix b.prefix).0 rest.1;
    }

pub at_rest_from : (adv : List Advertised) (own : ℕ) (wish : Wish) (o : Option Assigned) → is_at_rest adv own wish o ≡ true → IsAtRest adv own wish o
at_rest_from adv own wish None h = from_idle adv own wish h
at_rest_from adv own wish (Some c) h =
    elim (or_cases (is_alone adv own wish c) (list_any (λ b. is_ahead adv own wish c b || is_following adv own wish c b) adv) h) [
      | inl alone ↦ inl (from_alone adv own wish c alone)
      | inr beside ↦
          let found = any_of (λ b. is_ahead adv own wish c b || is_following adv own wish c b) adv beside in
          elim (or_cases (is_ahead adv own wish c found.0) (is_following adv own wish c found.0) found.2) [
            | inl ahead ↦ inr (inl (from_ahead adv own wish c found.0 found.1 ahead))
            | inr following ↦ inr (inr (from_following adv own wish c found.0 found.1 following))
          ]
    ]

-- ---- at rest but for a condition

abbrev pub meets_rest : Condition → List Advertised → ℕ → Wish → Option Assigned → Bool
meets_rest NothingToDo adv own wish None = has_no_best adv own wish.common wish.delegated
meets_rest Published adv own wish (Some c) =
    has_no_best adv own wish.common wish.delegated && is_valid adv own wish.common c
meets_rest Valid adv own wish (Some c) = has_no_best adv own wish.common wish.delegated && is_some c.published
meets_rest GreaterKey adv own wish (Some c) =
    list_any (is_best adv own wish.common wish.delegated) adv && (is_some c.published && is_valid adv own wish.common c)
meets_rest Unpublished adv own wish (Some c) =
    list_any (λ b. is_best adv own wish.common wish.delegated b && is_one_prefix c.prefix b.prefix) adv
meets_rest BestPrefix adv own wish (Some c) =
    list_any (is_best adv own wish.common wish.delegated) adv && is_none c.published
meets_rest _ adv own wish _ = false

meets_rest_from : (but : Condition) (adv : List Advertised) (own : ℕ) (wish : Wish) (o : Option Assigned) → meets_rest but adv own wish o ≡ true → MeetsRest but adv own wish o
meets_rest_from NothingToDo adv own wish None h = (refl, from_no_best adv own wish.common wish.delegated h)
meets_rest_from NothingToDo adv own wish (Some c) h = absurd (cc)
meets_rest_from Published adv own wish None h = absurd (cc)
meets_rest_from Published adv own wish (Some c) h =
    let parts = and_parts (has_no_best adv own wish.common wish.delegated) (is_valid adv own wish.common c) h in
    (c, refl, from_no_best adv own wish.common wish.delegated parts.0, from_is_valid adv own wish.common c parts.1)
meets_rest_from Valid adv own wish None h = absurd (cc)
meets_rest_from Valid adv own wish (Some c) h =
    let parts = and_parts (has_no_best adv own wish.common wish.delegated) (is_some c.published) h in
    let priority = from_is_some c.published parts.1 in
    (c, priority.0, refl, from_no_best adv own wish.common wish.delegated parts.0, priority.1)
meets_rest_from GreaterKey adv own wish None h = absurd (cc)
meets_rest_from GreaterKey adv own wish (Some c) h =
    let parts = and_parts (list_any (is_best adv own wish.common wish.delegated) adv) (is_some c.published && is_valid adv own wish.common c) h in
    let rest = and_parts (is_some c.published) (is_valid adv own wish.common c) parts.1 in
    let found = any_of (is_best adv own wish.common wish.delegated) adv parts.0 in
    let priority = from_is_some c.published rest.0 in
    (c, found.0, priority.0, refl, from_is_best adv own wish.common wish.delegated found.0 found.1 found.2, priority.1, from_is_valid adv own wish.common c rest.1)
meets_rest_from Unpublished adv own wish None h = absurd (cc)
meets_rest_from Unpublished adv own wish (Some c) h =
    let found = any_of (λ b. is_best adv own wish.common wish.delegated b && is_one_prefix c.prefix b.prefix) adv h in
    let parts = and_parts (is_best adv own wish.common wish.delegated found.0) (is_one_prefix c.prefix found.0.prefix) found.2 in
    (c, found.0, refl, from_is_best adv own wish.common wish.delegated found.0 found.1 parts.0, (prefix_decided c.prefix found.0.prefix).0 parts.1)
meets_rest_from BestPrefix adv own wish None h = absurd (cc)
meets_rest_from BestPrefix adv own wish (Some c) h =
    let parts = and_parts (list_any (is_best adv own wish.common wish.delegated) adv) (is_none c.published) h in
    let found = any_of (is_best adv own wish.common wish.delegated) adv parts.0 in
    (c, found.0, refl, from_is_best adv own wish.common wish.delegated found.0 found.1 found.2, from_is_none c.published parts.1)

abbrev pub is_at_rest_but : Condition → List Advertised → ℕ → Wish → Option Assigned → Bool
is_at_rest_but but adv own wish o = is_at_rest adv own wish o || meets_rest but adv own wish o

pub at_rest_but_from : (but : Condition) (adv : List Advertised) (own : ℕ) (wish : Wish) (o : Option Assigned) → is_at_rest_but but adv own wish o ≡ true → IsAtRestBut but adv own wish o
at_rest_but_from but adv own wish o h =
    elim (or_cases (is_at_rest adv own wish o) (meets_rest but adv own wish o) h) [
      | inl rest ↦ inl (at_rest_from adv own wish o rest)
      | inr but_one ↦ inr (meets_rest_from but adv own wish o but_one)
    ]
