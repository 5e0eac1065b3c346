-- Laws of the assignment subroutine.
use Rattle.std.specs.Prelude.{◌≡◌, ◌↔◌, ℕ, ◌<◌, List, [], map, Option, All, Contains}
use Rattle.hn_base.specs.Ascending.{HaveSame}
use Rattle.hn_base.specs.Prefix.{PlainPrefix, IsPrefix}
use Rattle.hn_base.specs.Words.{Begins}
use Rattle.hn_data.specs.Later.{IsLater}
use Rattle.hn_base.specs.declared.ids.EpId.{EpId}
use Rattle.hn_data.specs.View.{PlainView}
use Rattle.hn_assign.specs.declared.advertised.Advertised.{Advertised}
use Rattle.hn_pair.specs.declared.assigned.Assigned.{Assigned}
use Rattle.hn_pair.specs.declared.assigned.Wish.{Wish}
use Rattle.hn_pair.specs.declared.held.Held.{Held}
use Rattle.hn_assign.specs.declared.ran.Ran.{Ran}
use Rattle.hn_pair.specs.Due.{IsHeldDue}
use Rattle.hn_base.specs.Exists.{Some! }
use Rattle.hn_prefix.specs.Free.{IsFirstFree}
use Rattle.hn_assign.specs.Advertised.{LinkEndpoints}
use Rattle.hn_assign.specs.Best.{IsBestIfAny, IsValid, HasNoFree}
use Rattle.hn_pair.specs.Facts.{IsFitting, IsInDelegated, HasOwnPriority, IsAssignedPast, IsSoonDue, IsOfLengthAt, IsAloneAt}
use Rattle.hn_assign.specs.Fixed.{AreAssignmentsUnchanged, AreDue, AreAtRest, IsDueRun}
use Rattle.hn_assign.specs.Gathered.{AreAdvertised}
use Rattle.hn_pair.specs.Marks.{marked_applied}
use Rattle.hn_pair.specs.Pair.{IsAscending, IsWished, assigned_pair, backoff_pair, wish_pair}
use Rattle.hn_assign.specs.Rest.{IsAtRest, IsWantedNoMore}
use Rattle.hn_assign.specs.Scene.{PlainScene, IsBestFor}
use Rattle.hn_assign.specs.Step.{IsPairStep}
use Rattle.hn_assign.specs.Subroutine.{AreSteps, IsSubroutine}

-- What is best for a pair is one: a prefix, or none.
abbrev pub BestIsUnique : Type 0
BestIsUnique = (at : PlainScene) (x y : Option Advertised) → IsBestFor at x → IsBestFor at y → x ≡ y

-- ---- what the subroutine keeps

-- Where each prefix was inside its delegated prefix, each is afterwards.
abbrev pub SubroutineKeepsInside : Type 0
SubroutineKeepsInside =
    (view : PlainView) (wishes : List Wish) (held : Held) (ran : Ran) → IsSubroutine view wishes held ran
    → All IsInDelegated held.assigned → All IsInDelegated ran.held.assigned

-- Where each prefix was one, each is afterwards.
abbrev pub SubroutineKeepsPrefixes : Type 0
SubroutineKeepsPrefixes =
    (view : PlainView) (wishes : List Wish) (held : Held) (ran : Ran) → IsSubroutine view wishes held ran
    → All (λ c. IsPrefix c.prefix) held.assigned → All (λ c. IsPrefix c.prefix) ran.held.assigned

-- Where each assignment was made at the moment of the view or before, each was afterwards.
abbrev pub SubroutineKeepsPast : Type 0
SubroutineKeepsPast =
    (view : PlainView) (wishes : List Wish) (held : Held) (ran : Ran) → IsSubroutine view wishes held ran
    → All (IsAssignedPast view.now) held.assigned → All (IsAssignedPast view.now) ran.held.assigned

-- Where each backoff was due within 4,000 ms of the moment of the view, each is afterwards.
abbrev pub SubroutineKeepsSoon : Type 0
SubroutineKeepsSoon =
    (view : PlainView) (wishes : List Wish) (held : Held) (ran : Ran) → IsSubroutine view wishes held ran
    → All (IsSoonDue view.now) held.backoffs → All (IsSoonDue view.now) ran.held.backoffs

-- Where each published priority was 2, each is afterwards.
abbrev pub SubroutineKeepsPriority : Type 0
SubroutineKeepsPriority =
    (view : PlainView) (wishes : List Wish) (held : Held) (ran : Ran) → IsSubroutine view wishes held ran
    → All HasOwnPriority held.assigned → All HasOwnPriority ran.held.assigned

-- ---- what it leaves

-- The assignments strictly ascend by delegated prefix and endpoint.
abbrev pub AssignedAscend : Type 0
AssignedAscend =
    (view : PlainView) (wishes : List Wish) (held : Held) (ran : Ran) → IsSubroutine view wishes held ran
    → IsAscending assigned_pair ran.held.assigned

-- So do the backoffs.
abbrev pub BackoffsAscend : Type 0
BackoffsAscend =
    (view : PlainView) (wishes : List Wish) (held : Held) (ran : Ran) → IsSubroutine view wishes held ran
    → IsAscending backoff_pair ran.held.backoffs

-- Each assignment is of a wished pair.
abbrev pub AssignedAreWished : Type 0
AssignedAreWished =
    (view : PlainView) (wishes : List Wish) (held : Held) (ran : Ran) → IsSubroutine view wishes held ran
    → All (λ c. IsWished wishes (assigned_pair c)) ran.held.assigned

-- Over one stream of words it has at most one result.
abbrev pub SubroutineHasOneResult : Type 0
SubroutineHasOneResult =
    (view : PlainView) (wishes : List Wish) (held : Held) (a b : Ran) (stream : ℕ → ℕ)
    → IsSubroutine view wishes held a → IsSubroutine view wishes held b
    → Begins a.words stream → Begins b.words stream → a ≡ b

-- From a state whose lists ascend, the step of a pair has at most one result over one stream of words.
abbrev pub StepHasOneResult : Type 0
StepHasOneResult =
    (view : PlainView) (wish : Wish) (taken others : List ℕ) (before a b : Ran) (stream : ℕ → ℕ)
    → IsAscending assigned_pair before.held.assigned → IsAscending backoff_pair before.held.backoffs
    → IsPairStep view wish taken before a → IsPairStep view wish others before b
    → Begins a.words stream → Begins b.words stream → a ≡ b

-- So do the steps of some pairs, one after another.
abbrev pub StepsHaveOneResult : Type 0
StepsHaveOneResult =
    (view : PlainView) (wishes : List Wish) (before a b : Ran) (stream : ℕ → ℕ)
    → IsAscending assigned_pair before.held.assigned → IsAscending backoff_pair before.held.backoffs
    → AreSteps view wishes before a → AreSteps view wishes before b
    → Begins a.words stream → Begins b.words stream → a ≡ b

-- ---- rest

-- Where all assignments are of wished pairs and the backoffs are due, the subroutine leaves all assignments as they are,
-- marks of application aside, if and only if each pair is at rest.
abbrev pub RestIsUnchanged : Type 0
RestIsUnchanged =
    (view : PlainView) (wishes : List Wish) (held : Held) (ran : Ran) (advertised : List Advertised)
    → IsAscending wish_pair wishes → IsAscending assigned_pair held.assigned
    → All (λ c. IsWished wishes (assigned_pair c)) held.assigned
    → AreDue wishes view.now held
    → AreAdvertised view held.assigned advertised
    → IsSubroutine view wishes held ran
    → AreAssignmentsUnchanged held.assigned ran.held.assigned ↔ AreAtRest advertised view.own wishes held.assigned

-- Where all assignments are of wished pairs and each pair is at rest, it comes to a result, with each backoff due. That
-- takes no word and leaves all assignments as they are.
abbrev pub RestHasADueRun : Type 0
RestHasADueRun =
    (view : PlainView) (wishes : List Wish) (assigned : List Assigned) (advertised : List Advertised)
    → IsAscending wish_pair wishes → IsAscending assigned_pair assigned
    → All (λ c. IsWished wishes (assigned_pair c)) assigned
    → AreAdvertised view assigned advertised
    → AreAtRest advertised view.own wishes assigned
    → (ran : Ran) × IsDueRun view wishes assigned ran × AreAssignmentsUnchanged assigned ran.held.assigned × (ran.words ≡ [])

-- Where all assignments are of wished pairs and each pair is at rest, the subroutine leaves all assignments as they are,
-- marks of application aside, whatever the backoffs and the words are.
abbrev pub RestChangesNoAssignment : Type 0
RestChangesNoAssignment =
    (view : PlainView) (wishes : List Wish) (held : Held) (ran : Ran) (advertised : List Advertised)
    → IsAscending assigned_pair held.assigned
    → All (λ c. IsWished wishes (assigned_pair c)) held.assigned
    → AreAdvertised view held.assigned advertised
    → AreAtRest advertised view.own wishes held.assigned
    → IsSubroutine view wishes held ran
    → AreAssignmentsUnchanged held.assigned ran.held.assigned

-- ---- marks of application

-- Marks of application change no assignment.
abbrev pub MarksChangeNothing : Type 0
MarksChangeNothing = (now : ℕ) (assigned : List Assigned) → AreAssignmentsUnchanged assigned (map (marked_applied now) assigned)

-- Where all assignments are as they were, marks of application aside, the same prefixes are advertised.
abbrev pub AdvertisedOfUnchanged : Type 0
AdvertisedOfUnchanged =
    (view : PlainView) (before after : List Assigned) (advertised : List Advertised) → AreAssignmentsUnchanged before after
    → AreAdvertised view before advertised ↔ AreAdvertised view after advertised

-- And the same pairs are at rest.
abbrev pub RestStays : Type 0
RestStays =
    (advertised : List Advertised) (own : ℕ) (wishes : List Wish) (before after : List Assigned)
    → AreAssignmentsUnchanged before after
    → AreAtRest advertised own wishes before ↔ AreAtRest advertised own wishes after

-- A pair at rest stays so where its delegated prefix is wanted no more.
abbrev pub RestStaysUnwanted : Type 0
RestStaysUnwanted =
    (advertised : List Advertised) (own : ℕ) (before after : Wish) (assignment : Option Assigned) → IsWantedNoMore before after
    → IsAtRest advertised own before assignment → IsAtRest advertised own after assignment

-- ---- while time passes

-- While time passes, the same prefixes are advertised.
abbrev pub AdvertisedOfLater : Type 0
AdvertisedOfLater =
    (before after : PlainView) (assigned : List Assigned) (advertised : List Advertised) → IsLater before after
    → AreAdvertised before assigned advertised ↔ AreAdvertised after assigned advertised

-- Where the subroutine takes no word and leaves what is held as it is, it does so at a later moment too, while nothing
-- that is held comes to its moment.
abbrev pub IdleRunStays : Type 0
IdleRunStays =
    (before after : PlainView) (wishes : List Wish) (held : Held) → IsLater before after
    → IsAscending wish_pair wishes
    → IsSubroutine before wishes held (record { held = held; words = [] })
    → ((m : ℕ) → IsHeldDue held m → before.now < m → after.now < m)
    → IsSubroutine after wishes held (record { held = held; words = [] })

-- ---- lists with the same elements

-- What is best is one.
abbrev pub SameHaveOneBest : Type 0
SameHaveOneBest =
    (a b : List Advertised) → HaveSame a b → (own : ℕ) (common : LinkEndpoints) (d : PlainPrefix) (x y : Option Advertised)
    → IsBestIfAny a own common d x → IsBestIfAny b own common d y → x ≡ y

-- The same assignments are valid.
abbrev pub SameHaveSameValid : Type 0
SameHaveSameValid =
    (a b : List Advertised) → HaveSame a b → (own : ℕ) (common : LinkEndpoints) (c : Assigned)
    → IsValid a own common c ↔ IsValid b own common c

-- The first free prefix is one.
abbrev pub SameHaveOneFirstFree : Type 0
SameHaveOneFirstFree =
    (a b : List Advertised) → HaveSame a b → (d : PlainPrefix) (start len : ℕ) (p q : PlainPrefix)
    → IsFirstFree d start (map (λ x. x.prefix) a) len p → IsFirstFree d start (map (λ x. x.prefix) b) len q → p ≡ q

-- Where nothing is free by the one, nothing is by the other.
abbrev pub SameHaveSameFree : Type 0
SameHaveSameFree =
    (a b : List Advertised) → HaveSame a b → (d : PlainPrefix) (len : ℕ) → HasNoFree a d len ↔ HasNoFree b d len

-- ---- existence

-- A view has a list of advertised prefixes, with whatever assignments.
abbrev pub AdvertisedExists : Type 0
AdvertisedExists =
    (view : PlainView) (assigned : List Assigned) → (advertised : List Advertised) × AreAdvertised view assigned advertised

-- It cannot be that the subroutine has no result over a stream of words.
abbrev pub SubroutineHasAResult : Type 0
SubroutineHasAResult =
    (view : PlainView) (wishes : List Wish) (held : Held) (stream : ℕ → ℕ)
    → IsAscending assigned_pair held.assigned → IsAscending backoff_pair held.backoffs
    → All IsFitting wishes → All (λ wish. IsPrefix wish.delegated) wishes
    → Some! (λ (ran : Ran). IsSubroutine view wishes held ran × Begins ran.words stream)

-- Nor that it has none with each backoff due.
abbrev pub SubroutineHasADueRun : Type 0
SubroutineHasADueRun =
    (view : PlainView) (wishes : List Wish) (assigned : List Assigned) (stream : ℕ → ℕ)
    → IsAscending wish_pair wishes → IsAscending assigned_pair assigned
    → All IsFitting wishes → All (λ wish. IsPrefix wish.delegated) wishes
    → Some! (λ (ran : Ran). IsDueRun view wishes assigned ran × Begins ran.words stream)

-- ---- lengths

-- Where the own node is alone on the Common Link of an endpoint, and all wishes for that are of one length, it stays so that
-- each assignment of the endpoint has this length.
abbrev pub SubroutineKeepsLengths : Type 0
SubroutineKeepsLengths =
    (view : PlainView) (wishes : List Wish) (held : Held) (ran : Ran) (e : EpId) (length : ℕ) → IsSubroutine view wishes held ran
    → ((wish : Wish) → Contains wishes wish → IsAloneAt view.own e length wish)
    → All (IsOfLengthAt e length) held.assigned → All (IsOfLengthAt e length) ran.held.assigned
