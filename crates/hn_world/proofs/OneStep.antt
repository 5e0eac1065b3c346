-- An event over one stream of words has at most one result, and a trace leads to at most one world.
use Rattle.hn_base.proofs.Names.{◌≡◌, ◌∙◌, ◌+◌, ℕ, true, List, [], ◌∷◌, ◌++◌, length, Option, Some, None, refl, sym, subst, ap, append_assoc, zero-add, slice_index, slice_get, arith, append-nil}
use Rattle.hn_base.proofs.Names.{same_Some}
use Rattle.hn_world.proofs.Names.{NodeId, Name, Done, Note, State, PlainEvent, Happened, MailCopy, WEvent, Traced, Version, Member, Parts, table_limit, routed, ActsAt, RouterActs, RouterBegins, Stops}
use Rattle.hn_world.proofs.Names.{DoesElse, DoesAt, Step, IsStep, acted, beside, entered, with_member, stopped, taken, empty_world, Goes}
use Rattle.hn_base.specs.Words as drawn
use Rattle.hn_router.specs.Laws.{OneResult, NewIsUnique}
use Rattle.hn_world.specs.declared.event.WEvent.TheVariants as event
use Rattle.hn_world.specs.Step.{Quietly}
use Rattle.hn_world.specs.Replay.{Replays}

-- an event, whatever was noted
abbrev pub Any : Traced → Parts → Parts → Type 0
Any t before after = (notes : List Note) × Step t notes before after

-- ---- an event

-- the laws of the crates below on which it rests
pub record HasLaws : Type 0 where
  pub one_result : OneResult
  pub one_new : NewIsUnique

-- two results are one: the words that were taken, what was noted, and the world after it
record AreOne (v w : List ℕ) (m n : List Note) (a b : Parts) : Type 0 where
  words : v ≡ w
  notes : m ≡ n
  world : a ≡ b

one_quiet : (given other : Parts) (v w : List ℕ) (m n : List Note) (a b : Parts) → given ≡ other → Quietly given v m a → Quietly other w n b → AreOne v w m n a b
one_quiet given other v w m n a b same h k = record { words = h.took ∙ sym k.took; notes = h.noted ∙ sym k.noted; world = h.gives ∙ same ∙ sym k.gives }

-- over one stream of words
module _ (laws : HasLaws) (stream : ℕ → ℕ) where
  one_acts_at : (change : Member → Member) (place : ℕ) (event : PlainEvent) (v w : List ℕ) (m n : List Note) (before a b : Parts) → drawn.Begins v stream → drawn.Begins w stream
      → ActsAt change place event v m before a → ActsAt change place event w n before b → AreOne v w m n a b
  one_acts_at change place event v w m n before a b begins begun h k =
      let member : h.member ≡ k.member = same_Some h.member k.member (sym h.is_member ∙ k.is_member) in
      let happened : Happened before.moment event h.member.router k.next k.done = subst (λ (x : Member). Happened before.moment event x.router k.next k.done) (sym member) k.happened in
      let first : drawn.Begins h.done.words stream = subst (λ (ws : List ℕ). drawn.Begins ws stream) h.took begins in
      let second : drawn.Begins k.done.words stream = subst (λ (ws : List ℕ). drawn.Begins ws stream) k.took begun in
      let same = laws.one_result before.moment event h.member.router h.next k.next h.done k.done stream h.happened happened first second in
      let made : acted change place h.member h.next h.done before ≡ acted change place k.member k.next k.done before = λ i. acted change place (member i) (same.0 i) (same.1 i) before in
      record {
        words = h.took ∙ ap (λ (d : Done). d.words) same.1 ∙ sym k.took;
        notes = h.noted ∙ ap (λ (d : Done). d.notes) same.1 ∙ sym k.noted;
        world = h.gives ∙ made ∙ sym k.gives;
      }

  one_acts : (change : Member → Member) (name : Name) (event : PlainEvent) (v w : List ℕ) (m n : List Note) (before a b : Parts) → drawn.Begins v stream → drawn.Begins w stream
      → RouterActs change name event v m before a → RouterActs change name event w n before b → AreOne v w m n a b
  one_acts change name event v w m n before a b begins begun h k =
      let place : h.place ≡ k.place = same_Some h.place k.place (sym h.is_place ∙ k.is_place) in
      one_acts_at change h.place event v w m n before a b begins begun h.acts (subst (λ (at : ℕ). ActsAt change at event w n before b) (sym place) k.acts)

  one_begun : (name : Name) (id : NodeId) (v w : List ℕ) (m n : List Note) (before a b : Parts) → RouterBegins name id v m before a → RouterBegins name id w n before b → AreOne v w m n a b
  one_begun name id v w m n before a b h k =
      let router : h.router ≡ k.router = laws.one_new id (table_limit before.version) before.moment h.router k.router h.is_new k.is_new in
      let made = ap (λ (s : State). record before {
        members = before.members ++ record { name = name; running = true; router = s; attachments = [] } ∷ [];
        published = before.published ++ record { id = id; number = 1; body = s.own.body } ∷ [];
      }) router in
      one_quiet _ _ v w m n a b made h.quietly k.quietly

  one_stopped : (name : Name) (v w : List ℕ) (m n : List Note) (before a b : Parts) → Stops name v m before a → Stops name w n before b → AreOne v w m n a b
  one_stopped name v w m n before a b h k =
      let place : h.place ≡ k.place = same_Some h.place k.place (sym h.is_place ∙ k.is_place) in
      let there : slice_get before.members h.place ≡ Some k.member = subst (λ (at : ℕ). slice_get before.members at ≡ Some k.member) (sym place) k.is_member in
      let member : h.member ≡ k.member = same_Some h.member k.member (sym h.is_member ∙ there) in
      let made : with_member h.place (stopped h.member) before ≡ with_member k.place (stopped k.member) before = λ i. with_member (place i) (stopped (member i)) before in
      one_quiet _ _ v w m n a b made h.quietly k.quietly

  one_else : (event : WEvent) (v w : List ℕ) (m n : List Note) (before a b : Parts) → drawn.Begins v stream → drawn.Begins w stream
      → DoesElse event v m before a → DoesElse event w n before b → AreOne v w m n a b
  one_else (event.Router name id) v w m n before a b begins begun h k = one_begun name id v w m n before a b h k
  one_else (event.Link name) v w m n before a b begins begun h k = one_quiet _ _ v w m n a b refl h k
  one_else (event.Stop name) v w m n before a b begins begun h k = one_stopped name v w m n before a b h k
  one_else (event.Time moment) v w m n before a b begins begun h k = one_quiet _ _ v w m n a b refl h k
  one_else (event.Deliver copy) v w m n before a b begins begun h k =
      let mail : h.mail ≡ k.mail = same_Some h.mail k.mail (sym h.is_copy ∙ k.is_copy) in
      let same = one_acts_at (λ m. m) h.mail.to.place _ v w m n before h.between k.between begins begun h.acts (rw mail k.acts) in
      let made : taken copy h.mail h.between ≡ taken copy k.mail k.between = λ i. taken copy (mail i) (same.world i) in
      record { words = same.words; notes = same.notes; world = h.gives ∙ made ∙ sym k.gives }
  one_else (event.Drop copy) v w m n before a b begins begun h k =
      let mail : h.mail ≡ k.mail = same_Some h.mail k.mail (sym h.is_copy ∙ k.is_copy) in
      one_quiet _ _ v w m n a b (ap (λ (c : MailCopy). taken copy c before) mail) h.quietly k.quietly
  one_else _ v w m n before a b begins begun h k = absurd h

  one_at : (event : WEvent) (own : Option (Name × PlainEvent)) (v w : List ℕ) (m n : List Note) (before a b : Parts) → drawn.Begins v stream → drawn.Begins w stream
      → DoesAt event own v m before a → DoesAt event own w n before b → AreOne v w m n a b
  one_at event (Some own) v w m n before a b begins begun h k = one_acts (beside event before) own.0 own.1 v w m n before a b begins begun h k
  one_at event None v w m n before a b begins begun h k = one_else event v w m n before a b begins begun h k

  -- and its entry in the trace
  one_step : (event : WEvent) (v w : List ℕ) (m n : List Note) (before a b : Parts) → drawn.Begins v stream → drawn.Begins w stream
      → Step (record { event = event; words = v }) m before a → Step (record { event = event; words = w }) n before b → AreOne v w m n a b
  one_step event v w m n before a b begins begun h k =
      let same = one_at event (routed event) v w m n before h.between k.between begins begun h.does k.does in
      let made : entered (record { event = event; words = v }) h.between ≡ entered (record { event = event; words = w }) k.between =
      λ i. entered (record { event = event; words = same.words i }) (same.world i) in
      record { words = same.words; notes = same.notes; world = h.gives ∙ made ∙ sym k.gives }

-- ---- from a draw that tells its words

told : (f g : ℕ → ℕ) (words : List ℕ) → drawn.Took (Some f) words (Some g) → drawn.IsAt (Some g) f words
told f g words drew = drew [] f (record { begins = λ i within. absurd (omega arith); rest = ap Some (simp zero-add) })

pub one_told : HasLaws → (event : WEvent) (f g h : ℕ → ℕ) (m n : List Note) (before a b : Parts) → IsStep event m (Some f) (Some g) before a
    → IsStep event n (Some f) (Some h) before b → (a ≡ b) × (m ≡ n) × (g ≡ h)
one_told laws event f g h m n before a b x y =
    let left = told f g x.words x.drew in
    let right = told f h y.words y.drew in
    let same = one_step laws f event x.words y.words m n before a b left.begins right.begins x.step y.step in
    let rest : _ = ap (λ (words : List ℕ). Some (λ (place : ℕ). f (length words + place))) same.words in
    (same.world, same.notes, same_Some g h (left.rest ∙ rest ∙ sym right.rest))

-- ---- events one after another

one_way : HasLaws → (before a b : Parts) (ts : List Traced) → Goes before ts a → Goes before ts b → a ≡ b
one_way laws before a b [] h k = h ∙ sym k
one_way laws before a b (t ∷ ts) h k =
    let own : drawn.Begins t.words (slice_index t.words) = λ i within. refl in
    let same = one_step laws (slice_index t.words) t.event t.words t.words h.1.0 k.1.0 before h.0 k.0 own own h.1.1 k.1.1 in
    one_way laws h.0 a b ts h.2 (subst (λ (w : Parts). Goes w ts b) (sym same.world) k.2)

pub one_world : HasLaws → (version : Version) (ts : List Traced) (a b : Parts) → Replays version ts a → Replays version ts b → a ≡ b
unfolding Replays
one_world laws version ts a b h k = one_way laws (empty_world version) a b ts h k

-- ---- what an event leaves as it was: the version, and the trace before the event is entered

abbrev pub past_of : Parts → Version × List Traced
past_of w = (w.version, w.trace)

past_of_else : (event : WEvent) (words : List ℕ) (notes : List Note) (before after : Parts) → DoesElse event words notes before after → past_of after ≡ past_of before
past_of_else (event.Router name id) words notes before after h = ap past_of h.quietly.gives
past_of_else (event.Link name) words notes before after h = ap past_of h.gives
past_of_else (event.Stop name) words notes before after h = ap past_of h.quietly.gives
past_of_else (event.Time moment) words notes before after h = ap past_of h.gives
past_of_else (event.Deliver copy) words notes before after h = ap past_of h.gives ∙ ap past_of h.acts.gives
past_of_else (event.Drop copy) words notes before after h = ap past_of h.quietly.gives
past_of_else _ words notes before after h = absurd h

past_of_event : (event : WEvent) (own : Option (Name × PlainEvent)) (words : List ℕ) (notes : List Note) (before after : Parts)
    → DoesAt event own words notes before after → past_of after ≡ past_of before
past_of_event event (Some own) words notes before after h = ap past_of h.acts.gives
past_of_event event None words notes before after h = past_of_else event words notes before after h

pub past_of_step : (t : Traced) (before after : Parts) → Any t before after → past_of after ≡ (before.version, before.trace ++ t ∷ [])
past_of_step t before after h =
    let kept = past_of_event t.event (routed t.event) t.words h.0 before h.1.between h.1.does in
    ap past_of h.1.gives ∙ ap (λ (past : Version × List Traced). (past.0, past.1 ++ t ∷ [])) kept

pub trace_of_step : (t : Traced) (before after : Parts) → Any t before after → after.trace ≡ before.trace ++ t ∷ []
trace_of_step t before after h = ap (λ (past : Version × List Traced). past.1) (past_of_step t before after h)

trace_of_goes : (before after : Parts) (ts : List Traced) → Goes before ts after → after.trace ≡ before.trace ++ ts
trace_of_goes before after [] is = ap (λ (w : Parts). w.trace) is ∙ sym (append-nil before.trace)
trace_of_goes before after (t ∷ ts) h =
    trace_of_goes h.0 after ts h.2 ∙ ap (λ (us : List Traced). us ++ ts) (trace_of_step t before h.0 h.1) ∙ append_assoc before.trace (t ∷ []) ts

pub trace_of_replay : (version : Version) (ts : List Traced) (w : Parts) → Replays version ts w → w.trace ≡ ts
unfolding Replays
trace_of_replay version ts w h = trace_of_goes (empty_world version) w ts h

version_of_goes : (before after : Parts) (ts : List Traced) → Goes before ts after → after.version ≡ before.version
version_of_goes before after [] is = ap (λ (w : Parts). w.version) is
version_of_goes before after (t ∷ ts) h = version_of_goes h.0 after ts h.2 ∙ ap (λ (past : Version × List Traced). past.0) (past_of_step t before h.0 h.1)

pub version_of_replay : (version : Version) (ts : List Traced) (w : Parts) → Replays version ts w → w.version ≡ version
unfolding Replays
version_of_replay version ts w h = version_of_goes (empty_world version) w ts h
