-- A line `run` without loss is a list of turns.
use Rattle.hn_base.proofs.Names.{◌≡◌, ◌≢◌, ◌∙◌, ◌⊎◌, ◌+◌, ◌-◌, ◌<◌, ◌≤◌, ◌%◌, ℕ, zero, suc, min, Bool, true, false, cond, List, [], ◌∷◌, ◌++◌, filter, map, length, position, Option, Some, None}
use Rattle.hn_base.proofs.Names.{Contains, get_or, slice_get, slice_set, nat_lt, inl, inr, refl, sym, ap, subst, arith, ◌||◌, ◌==◌, if◌then◌else◌, position_or_len, bytes_eq, cases_Bool, cases_lt, ltb-true}
use Rattle.hn_base.proofs.Names.{position-Some, position_or_len_is, same_Some, slice_get_within, get_or_from_slice_get, bytes_eq-Decides, name_text}
use Rattle.hn_lab.proofs.Names.{Contains-cases, nothing_in, in_filter, EpId, Name, Version, Note, MailCopy, Traced, WEvent, Member, Parts, WorldHasItsTrace, WorldHasItsVersion, is_named}
use Rattle.hn_lab.proofs.Names.{is_away, running_names, Goes, IsReplayed, Step, first_waiting, PlainSender, Sending, Shape, shape_of, Happens, CopyEnds, HasWaiting, Round, TreatmentEnds}
use Rattle.hn_lab.proofs.Names.{EachProcess, Process, Times, IsTurn, MayTurn, TickEnds, TurnEnds, sending_now, with_this, Mail, Stage}
use Rattle.hn_base.proofs.AscendingLists.{Contains-map}
use Rattle.hn_base.proofs.PassingElements.{none_passes}
use Rattle.hn_audit.specs.Heard.{GoesInTurns, GoesLossless, HasTicked, IsCalmSince, IsLosslessEvent, RestGoesInTurns, TicksAt, heard_after}
use Rattle.hn_audit.specs.Lasting.{CalmComesAndLasts, GoesInTimelyTurns, GoesTimely, IsLastingHome, IsNearlyCalmSince, IsTimelyEvent, TicksAmong}
use Rattle.hn_audit.specs.Staying.{IsMemberAt, KeepAssignments}
use Rattle.hn_world.specs.declared.event.WEvent.TheVariants as event
use Rattle.hn_world.specs.Names.{router_place, NamesDiffer}
use Rattle.hn_lab.specs.Laws.{MailDelivers}
use Rattle.hn_lab.specs.Resting.{IsOnTheWay, IsSteadyStep, IsSteadyWay, LastingRunKeepsCalm, RunBringsCalm, RunKeepsCalm}
use Rattle.hn_lab.proofs.SomeEvents.{goes_more, replays_step}
use Rattle.hn_base.proofs.PartsAtPlaces.{contains_at}
use Rattle.hn_world.specs.Replay.{Replays}

-- the laws on which it rests
pub record RunLaws : Type 0 where
  pub turns : RestGoesInTurns
  pub lasting : CalmComesAndLasts
  pub named : (w : Parts) → IsReplayed w → NamesDiffer w.members
  pub traces : WorldHasItsTrace
  pub versions : WorldHasItsVersion
  pub mails : MailDelivers

-- ---- names

different : (xs ys : List ℕ) → xs ≢ ys → bytes_eq xs ys ≡ false
different xs ys other =
    elim (cases_Bool (bytes_eq xs ys)) [
      | inl same ↦ absurd (other ((bytes_eq-Decides xs ys).0 same))
      | inr fails ↦ fails
    ]

-- where names differ, a router is found by its own
own_place : (xs : List Member) (place : ℕ) (m : Member) → NamesDiffer xs → slice_get xs place ≡ Some m → position (is_named (name_text m.name)) xs ≡ Some place
own_place xs place m differ at =
    let within : place < length xs = slice_get_within xs place m at in
    let here : get_or xs place m ≡ m = get_or_from_slice_get xs place m m at in
    let first : position_or_len (is_named (name_text m.name)) xs ≡ place =
    position_or_len_is (is_named (name_text m.name)) xs place m (omega (arith, within)) before
    (λ _. ap (is_named (name_text m.name)) here ∙ (bytes_eq-Decides (name_text m.name) (name_text m.name)).1 refl) in
    rw (first) (test within)
  where
    before : (k : ℕ) → k < place → is_named (name_text m.name) (get_or xs k m) ≡ false
    before k less =
        different (name_text (get_or xs k m).name) (name_text m.name)
        (λ is. differ k place m less (slice_get_within xs place m at) (is ∙ ap (λ (x : Member). name_text x.name) (sym (get_or_from_slice_get xs place m m at))))

    test : place < length xs → ◌≡◌ {A = Option ℕ} (cond (nat_lt place (length xs)) (Some place) None) (Some place)
    test within = grind arith

-- a change of one router leaves the names at their places
abbrev pub IsNamedAt : List Member → ℕ → Name → Type 0
IsNamedAt xs k name = (z : Member) × (slice_get xs k ≡ Some z) × (z.name ≡ name)

pub named_on : (xs : List Member) (place k : ℕ) (m n y : Member) → slice_get xs place ≡ Some m → n.name ≡ m.name → slice_get xs k ≡ Some y → IsNamedAt (slice_set xs place n) k y.name
named_on [] place k m n y at same there = absurd cc
named_on (x ∷ xs) zero zero m n y at same there = (n, refl, same ∙ ap (λ (z : Member). z.name) (sym (same_Some x m at) ∙ same_Some x y there))
named_on (x ∷ xs) zero (suc k) m n y at same there = (y, there, refl)
named_on (x ∷ xs) (suc place) zero m n y at same there = (y, there, refl)
named_on (x ∷ xs) (suc place) (suc k) m n y at same there = named_on xs place k m n y at same there

-- ---- worlds that follow

replays_more : RunLaws → (t : Traced) (notes : List Note) (b c : Parts) → IsReplayed b → Step t notes b c → IsReplayed c
replays_more laws t notes b c replays step =
    let leads = replays_step b.version b.trace t b c replays (notes, step) in
    subst (λ (v : Version). Replays v c.trace c) (sym (laws.versions b.version (b.trace ++ t ∷ []) c leads))
    (subst (λ (trace : List Traced). Replays b.version trace c) (sym (laws.traces b.version (b.trace ++ t ∷ []) c leads)) leads)

-- ---- a stretch of a run

-- time passes; a router ticks at that moment; a copy is delivered that waits, or dropped whose receiver is away
abbrev pub IsRunEvent : ℕ → WEvent → Parts → Type 0
IsRunEvent now (event.Time moment) w = Unit {0}
IsRunEvent now (event.Tick name) w = w.moment ≡ now
IsRunEvent now (event.Deliver copy) w = (w.moment ≡ now) × ((mail : MailCopy) → slice_get w.copies (copy - 1) ≡ Some mail → mail.waiting ≡ true)
IsRunEvent now (event.Drop copy) w = (mail : MailCopy) → slice_get w.copies (copy - 1) ≡ Some mail → is_away w mail ≡ true
IsRunEvent now _ w = ⊥

abbrev pub GoesRun : ℕ → Parts → List Traced → Parts → Type 0
GoesRun now a [] c = c ≡ a
GoesRun now a (t ∷ ts) c = (b : Parts) × ((notes : List Note) × Step t notes a b) × IsRunEvent now t.event a × GoesRun now b ts c

-- the router of a place ticks in it
abbrev pub TicksIn : (now k : ℕ) (a : Parts) (ts : List Traced) (c : Parts) → GoesRun now a ts c → Type 0
TicksIn now k a [] c goes = ⊥
TicksIn now k a (t ∷ ts) c goes = TicksAt now k t.event a ⊎ TicksIn now k goes.0 ts c goes.3

-- routers of these names tick in it
pub record Stretch (now : ℕ) (names : List Name) (a c : Parts) : Type 0 where
  pub ts : List Traced
  pub goes : GoesRun now a ts c
  pub ticked : (k : ℕ) (y : Member) → slice_get a.members k ≡ Some y → Contains names y.name → TicksIn now k a ts c goes

nothing_runs : (now : ℕ) (a c : Parts) → c ≡ a → Stretch now [] a c
nothing_runs now a c is = record { ts = []; goes = is; ticked = λ k y at among. absurd (nothing_in y.name among) }

-- ---- what stays

-- the same world, by the same way, without loss as before
pub record IsSameBut (p a : Stage) : Type 0 where
  pub world : a.world ≡ p.world
  pub loss : a.loss ≡ p.loss
  pub route : a.route ≡ p.route

same_stage : (p a : Stage) → a ≡ p → IsSameBut p a
same_stage p a is = subst (IsSameBut p) (sym is) (record { world = refl; loss = refl; route = refl })

both_same : (p q a : Stage) → IsSameBut p q → IsSameBut q a → IsSameBut p a
both_same p q a one two = record { world = two.world ∙ one.world; loss = two.loss ∙ one.loss; route = two.route ∙ one.route }

turn_stays : (name : Name) (e : EpId) (p a : Stage) → IsTurn name e None p a → IsSameBut p a
turn_stays name e p a h =
    let shape = shape_of h.advert in
    let first : IsSameBut p h.between = subst (IsSameBut p) (sym (h.comes).after_is) (by_due h.place h.sending (h.comes).asked shape h.due) in
    both_same p h.between a first (subst (IsSameBut h.between) (sym h.ends) (record { world = refl; loss = refl; route = refl }))
  where
    by_due : (place : ℕ) (s : Sending) (asked : PlainSender) (shape : Shape) (due : Bool)
        → IsSameBut p (if due then sending_now place s asked shape p else with_this place (record s { sender = asked }) p)
    by_due place s asked shape true = record { world = refl; loss = refl; route = refl }
    by_due place s asked shape false = record { world = refl; loss = refl; route = refl }

may_turn_stays : (name : Name) (e : EpId) (p a : Stage) → MayTurn name e None p a → IsSameBut p a
may_turn_stays name e p a (inl none) = same_stage p a none.2
may_turn_stays name e p a (inr turn) = turn_stays name e p a turn

turns_stay : (name : Name) (es : List EpId) (p a : Stage) → EachProcess (TurnEnds name) es None p a → IsSameBut p a
turns_stay name [] p a is = same_stage p a is
turns_stay name (e ∷ es) p a (m, (q, is, may), more) =
    both_same p q a (same_stage p q is) (both_same q m a (may_turn_stays name e q m may) (turns_stay name es m a more))

-- ---- a copy is treated

-- an event of a run that leads from one stage to another, at one moment
record OneEvent (p a : Stage) : Type 0 where
  pub t : Traced
  pub notes : List Note
  pub step : Step t notes p.world a.world
  pub runs : (now : ℕ) → p.world.moment ≡ now → IsRunEvent now t.event p.world
  pub moment : a.world.moment ≡ p.world.moment
  pub loss : a.loss ≡ p.loss
  pub route : a.route ≡ p.route

before_suc : (n : ℕ) → suc n - 1 ≡ n
before_suc n = omega (arith)

at_place : (copies : List MailCopy) (place : ℕ) (mail : MailCopy) → slice_get copies (suc place - 1) ≡ Some mail → slice_get copies place ≡ Some mail
at_place copies place mail there = subst (λ (k : ℕ). slice_get copies k ≡ Some mail) (before_suc place) there

a_drop : (p a : Stage) (place : ℕ) (copy : MailCopy) (notes : List Note) → slice_get p.world.copies place ≡ Some copy → is_away p.world copy ≡ true
    → Happens (event.Drop (suc place)) notes p a → OneEvent p a
a_drop p a place copy notes at away h =
    let step = (h.step).step in
    record {
      t = record { event = event.Drop (suc place); words = (h.step).words };
      notes = notes;
      step = step;
      runs = λ now is_now mail there. subst (λ (c : MailCopy). is_away p.world c ≡ true) (same_Some copy mail (sym at ∙ at_place p.world.copies place mail there)) away;
      moment = ap (λ (w : Parts). w.moment) step.gives ∙ ap (λ (w : Parts). w.moment) (step.does).quietly.gives;
      loss = h.loss;
      route = h.route;
    }

a_delivery : (p a : Stage) (place : ℕ) (copy : MailCopy) (notes : List Note) → slice_get p.world.copies place ≡ Some copy → copy.waiting ≡ true
    → Happens (event.Deliver (suc place)) notes p a → OneEvent p a
a_delivery p a place copy notes at waits h =
    let step = (h.step).step in
    record {
      t = record { event = event.Deliver (suc place); words = (h.step).words };
      notes = notes;
      step = step;
      runs = λ now is_now. (is_now, λ mail there. subst (λ (c : MailCopy). c.waiting ≡ true) (same_Some copy mail (sym at ∙ at_place p.world.copies place mail there)) waits);
      moment = ap (λ (w : Parts). w.moment) step.gives ∙ ap (λ (w : Parts). w.moment) (step.does).gives ∙ ap (λ (w : Parts). w.moment) ((step.does).acts).gives;
      loss = h.loss;
      route = h.route;
    }

-- the first copy that waits does wait
first_waits : (copies : List MailCopy) (place : ℕ) (copy : MailCopy) → first_waiting copies ≡ Some place → slice_get copies place ≡ Some copy → copy.waiting ≡ true
first_waits copies place copy first at =
    let found = position-Some (λ c. c.waiting) copies place copy first in
    ap (λ (c : MailCopy). c.waiting) (sym (get_or_from_slice_get copies place copy copy at)) ∙ found.1

none_below_zero : (n : ℕ) → nat_lt n 0 ≡ false
none_below_zero n = elim (cases_Bool (nat_lt n 0)) [
  | inl is ↦ let less = ltb-true n 0 is in absurd (omega (arith, less))
  | inr is ↦ is
]

one_copy : MailDelivers → (p a : Stage) → p.route ≡ Mail → p.loss ≡ 0 → CopyEnds None p a → OneEvent p a
one_copy mails p a route loss h = by_test (is_away p.world h.copy) refl h.ends
  where
    near : TreatmentEnds (nat_lt (p.words 0 % 100) p.loss) (suc h.place) None (if p.loss == 0 then p else record p { words = λ place. p.words (suc place) }) a → OneEvent p a
    near ends =
        let none = subst (λ (l : ℕ). TreatmentEnds (nat_lt (p.words 0 % 100) l) (suc h.place) None (if l == 0 then p else record p { words = λ place. p.words (suc place) }) a) loss ends in
        let delivers = subst (λ (b : Bool). TreatmentEnds b (suc h.place) None p a) (none_below_zero (p.words 0 % 100)) none in
        a_delivery p a h.place h.copy delivers.0 h.is_copy (first_waits p.world.copies h.place h.copy h.first h.is_copy) (mails (suc h.place) delivers.0 None p a route delivers.1)

    by_test : (b : Bool) → is_away p.world h.copy ≡ b
        → TreatmentEnds (is_away p.world h.copy || nat_lt (p.words 0 % 100) p.loss) (suc h.place) None
        (if is_away p.world h.copy || p.loss == 0 then p else record p { words = λ place. p.words (suc place) }) a
        → OneEvent p a
    by_test true is ends =
        let drops = subst
        (λ (b : Bool). TreatmentEnds (b || nat_lt (p.words 0 % 100) p.loss) (suc h.place) None (if b || p.loss == 0 then p else record p { words = λ place. p.words (suc place) }) a) is ends in
        a_drop p a h.place h.copy drops.0 h.is_copy is drops.1
    by_test false is ends =
        near (subst
        (λ (b : Bool). TreatmentEnds (b || nat_lt (p.words 0 % 100) p.loss) (suc h.place) None (if b || p.loss == 0 then p else record p { words = λ place. p.words (suc place) }) a) is ends)

-- ---- rounds from the front

pub record FromFront (HasMore : Stage → Type 0) (round : Process) (n : ℕ) (a c : Stage) : Type 0 where
  pub between : Stage
  pub more : HasMore a
  pub first : round None a between
  pub rest : Times HasMore round n between c

pub from_front : (HasMore : Stage → Type 0) (round : Process) (n : ℕ) (a c : Stage) → Times HasMore round (suc n) a c → FromFront HasMore round n a c
from_front HasMore round zero a c (b, is, more, last) =
    record { between = c; more = subst HasMore is more; first = subst (λ (s : Stage). round None s c) is last; rest = refl }
from_front HasMore round (suc n) a c (b, front, more, last) =
    let h = from_front HasMore round n a b front in
    record { between = h.between; more = h.more; first = h.first; rest = (b, h.rest, more, last) }

-- ---- the mail flows

record Flowed (now : ℕ) (p a : Stage) : Type 0 where
  pub stretch : Stretch now [] p.world a.world
  pub moment : a.world.moment ≡ p.world.moment
  pub loss : a.loss ≡ p.loss
  pub route : a.route ≡ p.route

flowed : MailDelivers → (now n : ℕ) (p a : Stage) → p.world.moment ≡ now → p.route ≡ Mail → p.loss ≡ 0 → Times HasWaiting CopyEnds n p a → Flowed now p a
flowed mails now zero p a is_now route loss is = subst (Flowed now p) (sym is) (record { stretch = nothing_runs now p.world p.world refl; moment = refl; loss = refl; route = refl })
flowed mails now (suc n) p a is_now route loss times =
    let h = from_front HasWaiting CopyEnds n p a times in
    let q = h.between in
    let one = one_copy mails p q route loss h.first in
    let more = flowed mails now n q a (one.moment ∙ is_now) (one.route ∙ route) (one.loss ∙ loss) h.rest in
    let rest = more.stretch in
    record {
      stretch = record {
        ts = one.t ∷ rest.ts;
        goes = (q.world, (one.notes, one.step), one.runs now is_now, rest.goes);
        ticked = λ k y at among. absurd (nothing_in y.name among);
      };
      moment = more.moment ∙ one.moment;
      loss = more.loss ∙ one.loss;
      route = more.route ∙ one.route;
    }

some_or_none : (o : Option ℕ) → ((o ≢ None) → ⊥) → o ≡ None
some_or_none None never = refl
some_or_none (Some n) never = absurd (never (λ is. cc))

-- ---- routers tick

record IsLater (p m : Stage) : Type 0 where
  pub moment : m.world.moment ≡ p.world.moment
  pub loss : m.loss ≡ p.loss
  pub route : m.route ≡ p.route

tick_moment : (name : Name) (notes : List Note) (p q : Stage) → Happens (event.Tick name) notes p q → q.world.moment ≡ p.world.moment
tick_moment name notes p q h =
    let step = (h.step).step in
    ap (λ (w : Parts). w.moment) step.gives ∙ ap (λ (w : Parts). w.moment) ((step.does).acts).gives

tick_names : (name : Name) (notes : List Note) (p q : Stage) → Happens (event.Tick name) notes p q → (k : ℕ) (y : Member) → slice_get p.world.members k ≡ Some y → IsNamedAt q.world.members k y.name
tick_names name notes p q h k y at =
    let step = (h.step).step in
    let acts = (step.does).acts in
    let next : Member = record acts.member { router = acts.next } in
    let gives : q.world.members ≡ slice_set p.world.members (step.does).place next = ap (λ (w : Parts). w.members) step.gives ∙ ap (λ (w : Parts). w.members) acts.gives in
    subst (λ (xs : List Member). IsNamedAt xs k y.name) (sym gives) (named_on p.world.members (step.does).place k acts.member next y acts.is_member refl at)

ticks_later : (names : List Name) (p m : Stage) → EachProcess TickEnds names None p m → IsLater p m
ticks_later [] p m is = subst (IsLater p) (sym is) (record { moment = refl; loss = refl; route = refl })
ticks_later (name ∷ names) p m (b, (q, (notes, h), turns), more) =
    let same = turns_stay name _ q b turns in
    let later = ticks_later names b m more in
    record {
      moment = later.moment ∙ ap (λ (w : Parts). w.moment) same.world ∙ tick_moment name notes p q h;
      loss = later.loss ∙ same.loss ∙ h.loss;
      route = later.route ∙ same.route ∙ h.route;
    }

ticks_go : RunLaws → (now : ℕ) (names : List Name) (p m : Stage) (c : Parts) → IsReplayed p.world → p.world.moment ≡ now → EachProcess TickEnds names None p m
    → Stretch now [] m.world c → Stretch now names p.world c
ticks_go laws now [] p m c replays is_now is rest = subst (λ (w : Parts). Stretch now [] w c) (ap (λ (s : Stage). s.world) is) rest
ticks_go laws now (name ∷ names) p m c replays is_now (b, (q, (notes, h), turns), more) rest =
    let same = turns_stay name _ q b turns in
    let step = (h.step).step in
    let t : Traced = record { event = event.Tick name; words = (h.step).words } in
    let replays_q : IsReplayed q.world = replays_more laws t notes p.world q.world replays step in
    let now_b : b.world.moment ≡ now = ap (λ (w : Parts). w.moment) same.world ∙ tick_moment name notes p q h ∙ is_now in
    let later : Stretch now names q.world c =
    subst (λ (w : Parts). Stretch now names w c) same.world (ticks_go laws now names b m c (subst IsReplayed (sym same.world) replays_q) now_b more rest) in
    record {
      ts = t ∷ later.ts;
      goes = (q.world, (notes, step), is_now, later.goes);
      ticked = λ k y at among. elim (Contains-cases name names y.name among) [
        | inl here ↦ inl (
          ap (λ (n : Name). router_place (name_text n) p.world) here ∙ own_place p.world.members k y (laws.named p.world replays) at,
          omega (arith, is_now),
        )
        | inr further ↦
            let found = tick_names name notes p q h k y at in
            inr (later.ticked k found.0 found.1 (subst (Contains names) (sym found.2) further))
      ];
    }

-- ---- a round

pub record OneRound (finish step : ℕ) (p a : Stage) : Type 0 where
  pub now : ℕ
  pub stretch : Stretch now (running_names p.world) p.world a.world
  pub none : first_waiting a.world.copies ≡ None
  pub now_is : now ≡ a.world.moment
  pub soon : now ≤ p.world.moment + step
  pub in_time : now ≤ finish
  pub loss : a.loss ≡ p.loss
  pub route : a.route ≡ p.route

pub one_round : RunLaws → (finish step : ℕ) (p a : Stage) → p.route ≡ Mail → p.loss ≡ 0 → IsReplayed p.world → Round finish step None p a → OneRound finish step p a
one_round laws finish step p a route loss replays (q, (notes, h), (m, ticks, (n, times, no_more))) =
    let now : ℕ = min (p.world.moment + step) finish in
    let passes = (h.step).step in
    let t : Traced = record { event = event.Time now; words = (h.step).words } in
    let members : q.world.members ≡ p.world.members = ap (λ (w : Parts). w.members) passes.gives ∙ ap (λ (w : Parts). w.members) (passes.does).gives in
    let moment : q.world.moment ≡ now = ap (λ (w : Parts). w.moment) passes.gives ∙ ap (λ (w : Parts). w.moment) (passes.does).gives in
    let later = ticks_later (running_names q.world) q m ticks in
    let flow = flowed laws.mails now n m a (later.moment ∙ moment) (later.route ∙ h.route ∙ route) (later.loss ∙ h.loss ∙ loss) times in
    let ticked = ticks_go laws now (running_names q.world) q m a.world (replays_more laws t notes p.world q.world replays passes) moment ticks flow.stretch in
    let names : running_names q.world ≡ running_names p.world = ap (λ (xs : List Member). map (λ m. m.name) (filter (λ m. m.running) xs)) members in
    record {
      now = now;
      stretch = record {
        ts = t ∷ ticked.ts;
        goes = (q.world, (notes, passes), tt, ticked.goes);
        ticked = λ k y at among.
            inr (ticked.ticked k y (ap (λ (xs : List Member). slice_get xs k) members ∙ at) (subst (λ (list : List Name). Contains list y.name) (sym names) among));
      };
      none = some_or_none (first_waiting a.world.copies) no_more;
      now_is = sym (flow.moment ∙ later.moment ∙ moment);
      soon = omega arith;
      in_time = omega arith;
      loss = flow.loss ∙ later.loss ∙ h.loss;
      route = flow.route ∙ later.route ∙ h.route;
    }

-- ---- rounds

-- turns, each a round: each router that runs ticks in it, and nothing waits after it
abbrev GoesRuns : (finish step : ℕ) → Parts → List (List Traced × ℕ) → Parts → Type 0
GoesRuns finish step a [] c = c ≡ a
GoesRuns finish step a (turn ∷ turns) c =
    (b : Parts) × (goes : GoesRun turn.1 a turn.0 b)
    × ((k : ℕ) (y : Member) → slice_get a.members k ≡ Some y → y.running ≡ true → TicksIn turn.1 k a turn.0 b goes)
    × (first_waiting b.copies ≡ None) × (turn.1 ≡ b.moment) × (turn.1 ≤ a.moment + step) × (turn.1 ≤ finish) × GoesRuns finish step b turns c

pub replayed_after : RunLaws → (now : ℕ) (ts : List Traced) (a c : Parts) → IsReplayed a → GoesRun now a ts c → IsReplayed c
replayed_after laws now [] a c replays is = subst IsReplayed (sym is) replays
replayed_after laws now (t ∷ ts) a c replays (b, (notes, step), is, more) = replayed_after laws now ts b c (replays_more laws t notes a b replays step) more

rounds_go : RunLaws → (finish step n : ℕ) (p a : Stage) → p.route ≡ Mail → p.loss ≡ 0 → IsReplayed p.world → Times (λ s. s.world.moment < finish) (Round finish step) n p a
    → (turns : List (List Traced × ℕ)) × GoesRuns finish step p.world turns a.world
rounds_go laws finish step zero p a route loss replays is = ([], ap (λ (s : Stage). s.world) is)
rounds_go laws finish step (suc n) p a route loss replays times =
    let h = from_front (λ s. s.world.moment < finish) (Round finish step) n p a times in
    let q = h.between in
    let one = one_round laws finish step p q route loss replays h.first in
    let stretch = one.stretch in
    let more = rounds_go laws finish step n q a (one.route ∙ route) (one.loss ∙ loss) (replayed_after laws one.now stretch.ts p.world q.world replays stretch.goes) h.rest in (
      (stretch.ts, one.now) ∷ more.0,
      (
        q.world,
        stretch.goes,
        λ k y at runs. stretch.ticked k y at (Contains-map (λ (m : Member). m.name) (filter (λ (m : Member). m.running) p.world.members) y
            (in_filter (λ (m : Member). m.running) p.world.members y (contains_at p.world.members k y at) runs)),
        one.none,
        one.now_is,
        one.soon,
        one.in_time,
        more.1,
      ),
    )

-- ---- the way

-- what goes on, and then the rest of the way
run_then : (now : ℕ) (ts : List Traced) (a b c : Parts) → GoesRun now a ts b → (future : List Traced) → Goes b future c → (all : List Traced) × Goes a all c
run_then now [] a b c is future goes = (future, subst (λ (w : Parts). Goes w future c) is goes)
run_then now (t ∷ ts) a b c (m, step, runs, more) future goes =
    let rest = run_then now ts m b c more future goes in
    (t ∷ rest.0, (m, step, rest.1))

runs_then : (finish step : ℕ) (turns : List (List Traced × ℕ)) (a c : Parts) → GoesRuns finish step a turns c → (all : List Traced) × Goes a all c
runs_then finish step [] a c is = ([], is)
runs_then finish step (turn ∷ turns) a c goes =
    let rest = runs_then finish step turns goes.0 c goes.7 in
    run_then turn.1 turn.0 a goes.0 c goes.1 rest.0 rest.1

came_then : (now : ℕ) (ts : List Traced) (a b c : Parts) (past : List Traced) → Goes a past b → GoesRun now b ts c → (all : List Traced) × Goes a all c
came_then now [] a b c past came is = (past, subst (Goes a past) (sym is) came)
came_then now (t ∷ ts) a b c past came (m, (notes, step), runs, more) = came_then now ts a m c (past ++ t ∷ []) (goes_more a b m past t came (notes, step)) more

-- ---- nothing waits

none_of : (copies : List MailCopy) → first_waiting copies ≡ None → (k : ℕ) (mail : MailCopy) → slice_get copies k ≡ Some mail → mail.waiting ≡ true → ⊥
none_of copies none k mail at waits =
    let fails = none_passes (λ (c : MailCopy). c.waiting) copies none k mail (slice_get_within copies k mail at) in
    let same = ap (λ (c : MailCopy). c.waiting) (get_or_from_slice_get copies k mail mail at) in
    cc

-- ---- a stretch is without loss

lossless_by : (heard since now : ℕ) (event : WEvent) (a b : Parts) (r : Member) → now < heard + 42000 → IsRunEvent now event a → IsSteadyStep event a b r → IsLosslessEvent heard since event a b r
lossless_by heard since now (event.Time moment) a b r soon is steady = tt
lossless_by heard since now (event.Tick name) a b r soon is steady = λ place x next found at reached. (omega (arith, soon, is), steady place x next found at reached)
lossless_by heard since now (event.Deliver copy) a b r soon is steady = λ mail x next there at.
    let found = steady mail x next there at in
    (found.0, λ reached. (inl (is.1 mail there), (found.1 reached).0, (found.1 reached).1))
lossless_by heard since now (event.Drop copy) a b r soon is steady = λ mail y there to reached. is mail there
lossless_by heard since now _ a b r soon is steady = absurd is

record IsLossless (heard since now place : ℕ) (a : Parts) (ts : List Traced) (c : Parts) (run' : GoesRun now a ts c) : Type 0 where
  pub goes : GoesLossless heard since place a ts c
  pub ticked : (k : ℕ) → TicksIn now k a ts c run' → HasTicked now k heard since place a ts c goes

module _ (begin end : Parts) (place : ℕ) (way : IsSteadyWay place begin end) where
  lossless : (heard since now : ℕ) → now < heard + 42000 → (ts : List Traced) (a c : Parts) (run' : GoesRun now a ts c) (past : List Traced) → Goes begin past a
      → (future : List Traced) → Goes c future end → IsLossless heard since now place a ts c run'
  lossless heard since now soon [] a c is past came future goes = record { goes = is; ticked = λ k none. absurd none }
  lossless heard since now soon (t ∷ ts) a c (b, (notes, step), runs, more) past came future goes =
      let rest = lossless heard since now soon ts b c more (past ++ t ∷ []) (goes_more begin a b past t came (notes, step)) future goes in
      let onward = run_then now ts b c end more future goes in
      let here : IsOnTheWay begin end t a b = record { past = past; came = came; notes = notes; step = step; future = onward.0; goes = onward.1 } in
      record {
        goes = (b, (notes, step), λ r at. lossless_by heard since now t.event a b r soon runs (way t a b r here at), rest.goes);
        ticked = λ k ticks. elim ticks [ inl now_here ↦ inl now_here | inr later ↦ inr (rest.ticked k later) ];
      }

  in_turns : (finish step heard : ℕ) (turns : List (List Traced × ℕ)) (a : Parts) → step ≤ 22000 → a.moment + step < heard + 42000 → GoesRuns finish step a turns end
      → (past : List Traced) → Goes begin past a → GoesInTurns heard place a turns end
  in_turns finish step heard [] a short soon is past came = is
  in_turns finish step heard (turn ∷ turns) a short soon (b, goes, ticked, none, now_is, within, in_time, more) past came =
      let rest = runs_then finish step turns b end more in
      let one = lossless heard (length a.copies) turn.1 (omega (arith, soon, within)) turn.0 a b goes past came rest.0 rest.1 in
      let there = came_then turn.1 turn.0 begin a b past came goes in (
        b,
        one.goes,
        λ k r x at_r at_x reached. one.ticked k (ticked k x at_x reached.runs.running),
        λ next k mail y at there to reached waits. none_of b.copies none k mail there waits,
        omega (arith, now_is),
        in_turns finish step (turn.1 - 19999) turns b short (omega (arith, short, now_is)) more there.0 there.1,
      )

-- ---- a stretch in time

timely_by : (until heard since now : ℕ) (event : WEvent) (w : Parts) → now < heard + 42000 → now ≤ until → IsRunEvent now event w → IsTimelyEvent until heard since event w
timely_by until heard since now (event.Time moment) w soon in_time is = tt
timely_by until heard since now (event.Tick name) w soon in_time is = (omega (arith, soon, is), omega (arith, in_time, is))
timely_by until heard since now (event.Deliver copy) w soon in_time is = let at = is.0 in (λ mail there. inl (is.1 mail there), omega (arith, in_time, at))
timely_by until heard since now (event.Drop copy) w soon in_time is = is
timely_by until heard since now _ w soon in_time is = absurd is

record IsInTime (until heard since now : ℕ) (a : Parts) (ts : List Traced) (c : Parts) (run' : GoesRun now a ts c) : Type 0 where
  pub goes : GoesTimely until heard since a ts c
  pub ticked : (k : ℕ) → TicksIn now k a ts c run' → TicksAmong now k until heard since a ts c goes

in_time_by : (until heard since now : ℕ) → now < heard + 42000 → now ≤ until → (ts : List Traced) (a c : Parts) (run' : GoesRun now a ts c) → IsInTime until heard since now a ts c run'
in_time_by until heard since now soon in_time [] a c is = record { goes = is; ticked = λ k none. absurd none }
in_time_by until heard since now soon in_time (t ∷ ts) a c (b, (notes, step), runs, more) =
    let rest = in_time_by until heard since now soon in_time ts b c more in
    record {
      goes = (b, (notes, step), timely_by until heard since now t.event a soon in_time runs, rest.goes);
      ticked = λ k ticks. elim ticks [ inl now_here ↦ inl now_here | inr later ↦ inr (rest.ticked k later) ];
    }

in_timely_turns : (until finish step heard : ℕ) (turns : List (List Traced × ℕ)) (a c : Parts) → finish ≤ until → step ≤ 22000 → a.moment + step < heard + 42000 → GoesRuns finish step a turns c
    → GoesInTimelyTurns until heard a turns c
in_timely_turns until finish step heard [] a c last short soon is = is
in_timely_turns until finish step heard (turn ∷ turns) a c last short soon (b, goes, ticked, none, now_is, within, in_time, more) =
    let one = in_time_by until heard (length a.copies) turn.1 (omega (arith, soon, within)) (omega (arith, last, in_time)) turn.0 a b goes in (
      b,
      one.goes,
      λ k x at runs. one.ticked k (ticked k x at runs),
      λ k mail there waits. none_of b.copies none k mail there waits,
      omega (arith, now_is),
      in_timely_turns until finish step (turn.1 - 19999) turns b c last short (omega (arith, short, now_is)) more,
    )

heard_lately : (finish step heard : ℕ) (turns : List (List Traced × ℕ)) (a c : Parts) → GoesRuns finish step a turns c → a.moment < heard + 20000 → c.moment < heard_after heard turns + 20000
heard_lately finish step heard [] a c is lately = subst (λ (w : Parts). w.moment < heard + 20000) (sym is) lately
heard_lately finish step heard (turn ∷ turns) a c (b, goes, ticked, none, now_is, within, in_time, more) lately =
    heard_lately finish step (turn.1 - 19999) turns b c more (omega (arith, now_is))

-- ---- all rounds together, and the last

timely_more : (until heard since : ℕ) (ts more : List Traced) (a b c : Parts) → GoesTimely until heard since a ts b → GoesTimely until heard since b more c
    → GoesTimely until heard since a (ts ++ more) c
timely_more until heard since [] more a b c is goes = subst (λ (w : Parts). GoesTimely until heard since w more c) is goes
timely_more until heard since (t ∷ ts) more a b c (m, step, timely, rest) goes = (m, step, timely, timely_more until heard since ts more m b c rest goes)

-- timely events until the last round, which ends so, and in which each running router ticks
record EndsInARound (until heard since finish : ℕ) (a c : Parts) : Type 0 where
  pub ts : List Traced
  pub middle : Parts
  pub goes : GoesTimely until heard since a ts middle
  pub now : ℕ
  pub last : List Traced
  pub goes_last : GoesTimely until heard since middle last c
  pub ticked : (k : ℕ) (x : Member) → slice_get middle.members k ≡ Some x → x.running ≡ true → TicksAmong now k until heard since middle last c goes_last
  pub none : first_waiting c.copies ≡ None
  pub now_is : now ≡ c.moment
  pub in_time : now ≤ finish

ends_in_a_round : (until finish step heard since : ℕ) → finish ≤ until → finish < heard + 42000 → (turn : List Traced × ℕ) (turns : List (List Traced × ℕ)) (a c : Parts)
    → GoesRuns finish step a (turn ∷ turns) c → EndsInARound until heard since finish a c
ends_in_a_round until finish step heard since last soon turn [] a c (b, goes, ticked, none, now_is, within, in_time, is) =
    let one = in_time_by until heard since turn.1 (omega (arith, soon, in_time)) (omega (arith, last, in_time)) turn.0 a b goes in
    subst (EndsInARound until heard since finish a) (sym is) (record {
      ts = [];
      middle = a;
      goes = refl;
      now = turn.1;
      last = turn.0;
      goes_last = one.goes;
      ticked = λ k x at runs. one.ticked k (ticked k x at runs);
      none = none;
      now_is = now_is;
      in_time = in_time;
    })
ends_in_a_round until finish step heard since last soon turn (next ∷ turns) a c (b, goes, ticked, none, now_is, within, in_time, more) =
    let one = in_time_by until heard since turn.1 (omega (arith, soon, in_time)) (omega (arith, last, in_time)) turn.0 a b goes in
    let rest = ends_in_a_round until finish step heard since last soon next turns b c more in
    record {
      ts = turn.0 ++ rest.ts;
      middle = rest.middle;
      goes = timely_more until heard since turn.0 rest.ts a b rest.middle one.goes rest.goes;
      now = rest.now;
      last = rest.last;
      goes_last = rest.goes_last;
      ticked = rest.ticked;
      none = rest.none;
      now_is = rest.now_is;
      in_time = rest.in_time;
    }

-- ---- a line

pub run_keeps_calm : RunLaws → RunKeepsCalm
run_keeps_calm laws finish step heard place before after r route loss replays at calm short soon (inl refused) way = absurd cc
run_keeps_calm laws finish step heard place before after r route loss replays at calm short soon (inr (le, (n, times, ends))) way =
    let (turns, goes) = rounds_go laws finish step n before after route loss replays times in
    let in_them = in_turns before.world after.world place way finish step heard turns before.world short soon goes [] refl in
    let (next, here, calm_then, keeps) = laws.turns turns heard place before.world after.world r replays at calm in_them in
    (next, heard_after heard turns, here, calm_then, keeps, heard_lately finish step heard turns before.world after.world goes)

pub lasting_run_keeps_calm : RunLaws → LastingRunKeepsCalm
lasting_run_keeps_calm laws until finish step heard place before after r route loss replays at calm home last short soon (inl refused) = absurd cc
lasting_run_keeps_calm laws until finish step heard place before after r route loss replays at calm home last short soon (inr (le, (n, times, ends))) =
    let (turns, goes) = rounds_go laws finish step n before after route loss replays times in
    let timely = in_timely_turns until finish step heard turns before.world after.world last short soon goes in
    let (next, here, calm_then, keeps, home_then) = laws.lasting.lasts before.world replays turns until heard place after.world r at calm home timely in
    (next, heard_after heard turns, here, calm_then, keeps, home_then, heard_lately finish step heard turns before.world after.world goes)

brings_calm : RunLaws → (until finish step heard place : ℕ) (turns : List (List Traced × ℕ)) (a c : Parts) (r : Member) → IsReplayed a → slice_get a.members place ≡ Some r
    → IsNearlyCalmSince heard a r → IsLastingHome until a r → finish ≤ until → a.moment + 20000 ≤ finish → finish < heard + 42000 → (c.moment < finish → ⊥)
    → GoesRuns finish step a turns c
    → (next : Member) × (since : ℕ) × IsMemberAt place a c r next × IsCalmSince since c next × KeepAssignments a c r next × IsLastingHome until c next × (c.moment < since + 20000)
brings_calm laws until finish step heard place [] a c r replays at nearly home last long soon ends is =
    let moment : c.moment ≡ a.moment = ap (λ (w : Parts). w.moment) is in
    absurd (ends (omega (arith, long, moment)))
brings_calm laws until finish step heard place (turn ∷ turns) a c r replays at nearly home last long soon ends goes =
    let all = ends_in_a_round until finish step heard (length a.copies) last soon turn turns a c goes in
    let now_is = all.now_is in
    let in_time = all.in_time in
    let over : finish ≤ all.now = not_below c.moment finish all.now (sym now_is) ends in
    let (next, here, calm, keeps, home_then) = laws.lasting.comes all.ts all.last all.now until heard place a all.middle c r replays at nearly home all.goes all.goes_last all.ticked
    (λ k mail there waits. none_of c.copies all.none k mail there waits) (omega (arith, long, over)) (omega (arith, now_is)) in
    (next, all.now - 19999, here, calm, keeps, home_then, omega (arith, now_is))
  where
    not_below : (x y z : ℕ) → x ≡ z → (x < y → ⊥) → y ≤ z
    not_below x y z same fails = elim (cases_lt z y) [ inl less ↦ absurd (fails (omega (arith, same, less))) | inr le ↦ le ]

pub run_brings_calm : RunLaws → RunBringsCalm
run_brings_calm laws until finish step heard place before after r route loss replays at nearly home last long soon (inl refused) = absurd cc
run_brings_calm laws until finish step heard place before after r route loss replays at nearly home last long soon (inr (le, (n, times, ends))) =
    let (turns, goes) = rounds_go laws finish step n before after route loss replays times in
    brings_calm laws until finish step heard place turns before.world after.world r replays at nearly home last long soon ends goes
