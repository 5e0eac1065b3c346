-- An exchange ends: it cannot be that it does not.
use Rattle.hn_base.proofs.Names.{◌≡◌, ◌<◌, ◌≤◌, ◌+◌, ◌-◌, ℕ, zero, suc, List, [], ◌∷◌, length, Option, Some, None, refl, sym, ap, subst, inl, inr, arith, cases_lt, length_push, IsByte, Some!, Begins}
use Rattle.hn_base.proofs.Names.{Took}
use Rattle.hn_sync.proofs.Names.{All, EpId, NodeId, Name, datagram_of, sender_tlv, WordsJoin, Note, ListIsOfBytes, RequestNetwork, tlv_of, Traced, WEvent, Parts, EachEventIsEntered, WorldHasItsTrace}
use Rattle.hn_sync.proofs.Names.{WorldHasItsVersion, refusal, IsReplayed, words_of_trace, routed, IsStep, Step, request, CopiesAreDelivered, ExchangeEnds, IsQuestion, AsksOrIsRefused}
use Rattle.hn_base.proofs.SomeExists.{some_then}
use Rattle.hn_world.specs.declared.event.WEvent.TheVariants as event
use Rattle.hn_world.specs.Existing.{HasAStep, IsOfBytesAt, Outcome, ReplayedStepExists}
use Rattle.hn_world.specs.Step.{FitsAt, IsWorldEventInRange}
use Rattle.hn_sync.specs.Exchange.{EndOfExchange, HasAnEnd}
use Rattle.hn_sync.specs.Laws.{ExchangeExists}
use Rattle.hn_sync.proofs.Between.{replayed_then}
use Rattle.hn_sync.proofs.Delivered.{Came, came_none, came_more, came_all, came_refused, stops_first, whole_after, stops_after}
use Rattle.hn_sync.proofs.Sayings.{can_say_request, endpoint_is_tlv}
use Rattle.hn_sync.proofs.WordsOfStream.{took_first}

-- the laws on which it rests
pub record EndLaws : Type 0 where
  pub steps : ReplayedStepExists
  pub enters : EachEventIsEntered
  pub room : (t : Traced) (notes : List Note) (before after : Parts) → Step t notes before after → length before.trace < 1000000
  pub trace : WorldHasItsTrace
  pub version : WorldHasItsVersion
  pub asks : AsksOrIsRefused
  pub join : WordsJoin
  pub of_bytes : ListIsOfBytes

-- ---- one event

-- an event led to this, with the first words of the stream
abbrev LedTo : WEvent → (ℕ → ℕ) → Parts → Outcome → Type 0
LedTo event f w o = Step (record { event = event; words = o.words }) o.notes w o.world × Begins o.words f

led_to_some : (event : WEvent) (f : ℕ → ℕ) (w : Parts) → HasAStep event w → Some! (LedTo event f w)
unfolding HasAStep
led_to_some event f w exists = exists f

-- what the stream tells then
abbrev rest_of : (ℕ → ℕ) → Outcome → ℕ → ℕ
rest_of f o place = f (length o.words + place)

step_of : (event : WEvent) (f : ℕ → ℕ) (w : Parts) (o : Outcome) → LedTo event f w o → IsStep event o.notes (Some f) (Some (rest_of f o)) w o.world
step_of event f w o h = record { words = o.words; step = h.0; drew = took_first o.words f h.1 }

-- ---- deliveries

-- they go on until every copy was delivered, or one is refused
abbrev DeliveriesEnd : ℕ → Option ℕ → Option (ℕ → ℕ) → Option (ℕ → ℕ) → Parts → Parts → Type 0
DeliveriesEnd copies None told told_after before after =
    (ts : List Traced) × CopiesAreDelivered (copies + 1) ts None before after × Took told (words_of_trace ts) told_after
DeliveriesEnd copies (Some code) told told_after before after =
    (ts : List Traced) × (next : WEvent) × CopiesAreDelivered (copies + 1) ts (Some next) before after × (refusal after next ≡ Some code) × Took told (words_of_trace ts) told_after

abbrev TheyEnd : ℕ → (ℕ → ℕ) → Parts → EndOfExchange → Type 0
TheyEnd copies f before e = DeliveriesEnd copies e.code (Some f) (Some e.rest) before e.world

module _ (laws : EndLaws) where
  -- they end, if they end after one more
  if_more_end : (copies delivered : ℕ) (f g : ℕ → ℕ) (before then : Parts) → IsReplayed then → Came copies delivered (Some f) (Some g) before then
      → ((o : Outcome) → LedTo (event.Deliver (delivered + 1)) g then o → Some! (TheyEnd copies f before)) → Some! (TheyEnd copies f before)
  if_more_end copies delivered f g before then replayed came more = elim (cases_lt delivered (length then.copies)) [
    | inl there ↦ by_refusal there (refusal then (event.Deliver (delivered + 1))) refl
    | inr all ↦ λ none. none (record { code = None; rest = g; world = then }) (came_all copies delivered (Some f) (Some g) before then came all)
  ]
    where
      by_refusal : delivered < length then.copies → (r : Option ℕ) → refusal then (event.Deliver (delivered + 1)) ≡ r → Some! (TheyEnd copies f before)
      by_refusal there (Some code) is = λ none. none (record { code = Some code; rest = g; world = then })
          (came_refused copies delivered (Some f) (Some g) before then came code there is)
      by_refusal there None is = some_then (led_to_some (event.Deliver (delivered + 1)) g then (laws.steps (event.Deliver (delivered + 1)) then replayed is tt tt tt)) more

  -- and the trace has no room for more
  they_end : (room copies delivered : ℕ) (f g : ℕ → ℕ) (before then : Parts) → 1000000 ≤ length then.trace + room → IsReplayed then
      → Came copies delivered (Some f) (Some g) before then → Some! (TheyEnd copies f before)
  they_end zero copies delivered f g before then full replayed came =
      if_more_end copies delivered f g before then replayed came (λ o h.
      let less = laws.room (record { event = event.Deliver (delivered + 1); words = o.words }) o.notes then o.world h.0 in
      absurd (omega (arith, full, less)))
  they_end (suc room) copies delivered f g before then full replayed came =
      if_more_end copies delivered f g before then replayed came (λ o h.
      let t : Traced = record { event = event.Deliver (delivered + 1); words = o.words } in
      let longer = ap length (laws.enters t o.notes then o.world h.0) in
      let by_one = length_push then.trace t in
      they_end room copies (delivered + 1) f (rest_of g o) before o.world (omega (arith, full, longer, by_one))
      (replayed_then laws.trace laws.version t then o.world replayed (o.notes, h.0))
      (came_more laws.join copies delivered (Some f) (Some g) (Some (rest_of g o)) before then o.world o.notes came (step_of (event.Deliver (delivered + 1)) g then o h)))

  -- ---- an exchange

  question_of_bytes : (own : NodeId) (endpoint : EpId) → All IsByte (datagram_of own endpoint (request ∷ []))
  question_of_bytes own endpoint =
      laws.of_bytes (sender_tlv own endpoint ∷ tlv_of (RequestNetwork []) ∷ []) (datagram_of own endpoint (request ∷ []))
      (_, endpoint_is_tlv own.0 endpoint.0, refl, (_, can_say_request.is_tlv, refl, refl))

  module _ (a b : Name) (w : Parts) (replayed : IsReplayed w) (question : WEvent) (asks : IsQuestion a b w question) (f : ℕ → ℕ) where
    abbrev ItEnds : EndOfExchange → Type 0
    ItEnds e = ExchangeEnds a b e.code (Some f) (Some e.rest) w e.world

    -- the question and what follows
    ends_with : (o : Outcome) (code : Option ℕ) (rest : ℕ → ℕ) (after : Parts) → LedTo question f w o
        → DeliveriesEnd (length w.copies) code (Some (rest_of f o)) (Some rest) o.world after → ExchangeEnds a b code (Some f) (Some rest) w after
    ends_with o None rest after h ends =
        whole_after laws.join a b (length w.copies) (Some f) (Some (rest_of f o)) (Some rest) o.notes question w o.world after refl asks (step_of question f w o h) ends
    ends_with o (Some code) rest after h ends =
        stops_after laws.join a b (length w.copies) (Some f) (Some (rest_of f o)) (Some rest) o.notes question w o.world after refl asks (step_of question f w o h) code ends

    after_question : (o : Outcome) → LedTo question f w o → Some! ItEnds
    after_question o h =
        let then = o.world in
        let copies = length w.copies in
        let t : Traced = record { event = question; words = o.words } in
        some_then (they_end (1000000 - length then.trace) copies copies (rest_of f o) (rest_of f o) then then (omega arith)
        (replayed_then laws.trace laws.version t w then replayed (o.notes, h.0)) (came_none copies (Some (rest_of f o)) then))
        (λ e ends none. none e (ends_with o e.code e.rest e.world h ends))

    it_ends : (r : Option ℕ) → refusal w question ≡ r → Some! ItEnds
    it_ends (Some code) is = λ none. none (record { code = Some code; rest = f; world = w }) (stops_first a b w question asks code (Some f) is)
    it_ends None is =
        let in_range = subst IsWorldEventInRange (sym asks.gives) tt in
        let fits = subst (λ (q : WEvent). FitsAt (routed q)) (sym asks.gives) tt in
        let bytes = subst (λ (q : WEvent). IsOfBytesAt (routed q)) (sym asks.gives) (question_of_bytes asks.two.router.id asks.f) in
        some_then (led_to_some question f w (laws.steps question w replayed is in_range fits bytes)) after_question

  pub exchange_ends : ExchangeExists
  unfolding HasAnEnd
  exchange_ends a b w replayed none stream =
      let (question, asks) = (laws.asks a b w replayed).0 none in
      it_ends a b w replayed question asks stream (refusal w question) refl
