-- Each event has a result over each stream of words: it cannot be that there is none.
use Rattle.hn_base.proofs.Names.{◌≡◌, ◌^◌, ℕ, false, List, [], ◌∷◌, refl, inl, inr, arith, All, All-nil, All-cons, IsLinkLocal, IsByte, Some!, Then, Begins}
use Rattle.hn_router.proofs.Names.{IsTrue, EpId, some_then, some_by, PlainTlv, IsTlvList, Origin, Running, IsAttaching, IsRestarting, IsRefresh, IsWell, begun_at, noted, words_taken, IsTick, PlainEvent}
use Rattle.hn_router.proofs.Names.{Arrive, Tick, Attach, Restart, is_refused, IsEventInRange, IsEdit, IsEventRule, IsEvent, DidNothing, IsDueAfter}
use Rattle.hn_base.proofs.NextDue.{some_sooner}
use Rattle.hn_base.proofs.SomeResult.{total_given, total_plain, total_by, total_both, total_test}
use Rattle.hn_tlv.specs.Grammar.{IsTlv}
use Rattle.hn_tlv.specs.Laws.{ListOrFirstFault}
use Rattle.hn_rules.specs.declared.done.Note.TheVariants as note
use Rattle.hn_rules.specs.Due.{IsDueAt}
use Rattle.hn_rules.specs.Laws.{HasAResult, ArrivalHasAResult}
use Rattle.hn_rules.specs.Rules.{IsTotal}
use Rattle.hn_router.specs.Act.{IsOfBytes, Happened, HasResults}
use Rattle.hn_router.specs.Laws.{EventHasAResult}
use Rattle.hn_router.proofs.Edits.{plain_edit}
use Rattle.hn_router.proofs.Stays.{StayLaws, keeps_edit}

-- what the laws say of lists of TLVs and of the rules
pub record SomeEventLaws : Type 0 where
  pub list_or_fault : ListOrFirstFault
  pub refresh : HasAResult IsRefresh
  pub arrival : ArrivalHasAResult
  pub tick : HasAResult IsTick
  pub attaching : (at : EpId) → HasAResult (IsAttaching at)
  pub restarting : HasAResult IsRestarting
  pub stays : StayLaws

-- what holds before
abbrev Well : Running → Type 0
Well r = IsWell r.state

-- and the event is not refused
abbrev IsTaken : PlainEvent → Running → Type 0
IsTaken event r = Well r × (is_refused event r.state ≡ false)

-- ---- a datagram

all_tlvs : (tlvs : List PlainTlv) (bytes : List ℕ) → IsTlvList tlvs bytes → All IsTlv tlvs
all_tlvs [] bytes list = All-nil IsTlv
all_tlvs (tlv ∷ tlvs) bytes list = All-cons IsTlv tlv tlvs list.1 (all_tlvs tlvs list.0 list.3)

abbrev HasArrived : Origin → List ℕ → (ℕ → ℕ) → Running → Type 0
HasArrived from bytes stream r = Some! (λ (a : Running). IsEventRule (Arrive from bytes) r a × Begins (words_taken a) stream)

total_arrive : SomeEventLaws → (from : Origin) (bytes : List ℕ) → All IsByte bytes → IsTotal Well (IsEventRule (Arrive from bytes))
total_arrive laws from bytes are stream r is begins = some_by (IsLinkLocal from.from.ip) near far
  where
    far : ¬ (IsLinkLocal from.from.ip) → HasArrived from bytes stream r
    far not none = none (noted note.Far r) (inl (record { far = not; gives = refl }), begins)

    near : IsLinkLocal from.from.ip → HasArrived from bytes stream r
    near local none = elim (laws.list_or_fault bytes are) [
      | inl (tlvs, list) ↦ laws.arrival from tlvs (all_tlvs tlvs bytes list) stream r is begins (λ a arrives.
          none a (inr (inr (record { near = local; tlvs = tlvs; list = list; arrives = arrives.0 })), arrives.1))
      | inr (place, why, fault) ↦ none (noted (note.Malformed place why) r) (inr (inl (record { near = local; place = place; why = why; fault = fault; gives = refl })), begins)
    ]

-- ---- the other events

module _ (laws : SomeEventLaws) where
  total_edit : (event : PlainEvent) → IsTotal Well (IsEdit event)
  total_edit (Attach at) = laws.attaching at
  total_edit Restart = laws.restarting
  total_edit event = total_given words_taken Well (IsEdit event) (λ r a h. (plain_edit event r a h).0) (λ r is none. none _ refl)

  -- the edit of an event, and then a refresh
  total_then : (event : PlainEvent) → IsEventInRange event → IsTotal (IsTaken event) (Then (IsEdit event) IsRefresh)
  total_then event fits =
      total_both words_taken (IsTaken event) Well (IsEdit event) IsRefresh (total_by words_taken (IsTaken event) Well (IsEdit event) (λ r is. is.0) (total_edit event))
      (λ r a is holds. keeps_edit laws.stays event r a fits is.1 holds is.0) laws.refresh

  total_rule : (event : PlainEvent) → IsEventInRange event → IsOfBytes event → IsTotal (IsTaken event) (IsEventRule event)
  total_rule (Arrive from bytes) fits are =
      total_by words_taken (IsTaken (Arrive from bytes)) Well (IsEventRule (Arrive from bytes)) (λ r is. is.0) (total_arrive laws from bytes are)
  total_rule Tick fits are = total_by words_taken (IsTaken Tick) Well IsTick (λ r is. is.0) laws.tick
  total_rule event fits are = total_then event fits

  total_event : (event : PlainEvent) → IsEventInRange event → IsOfBytes event → IsTotal Well (IsEvent event)
  total_event event fits are =
      total_test words_taken Well (λ r. is_refused event r.state) (λ r a. a ≡ noted note.Refused r) (IsEventRule event)
      (total_plain words_taken (λ r. Well r × IsTrue (is_refused event r.state)) (noted note.Refused) (λ r. refl)) (total_rule event fits are)

  -- ---- the moment that is kept, and an event that happens

  some_due : (event : PlainEvent) (begun after : Running) → Some! (IsDueAfter event begun after)
  some_due event begun after =
      some_by (DidNothing event begun after)
      (λ idle. some_then (some_sooner (IsDueAt after.state) after.state.moment (2 ^ 49)) (λ due next none. none due (inl (idle, next))))
      (λ not none. none 0 (inr (not, refl)))

pub some_event : SomeEventLaws → EventHasAResult
unfolding Happened HasResults
some_event laws now event s router rises fits are stream =
    let begun = begun_at now s in
    some_then (total_event laws event fits are stream begun (laws.stays.later now s router rises).well (λ i within. absurd (omega (arith, within)))) (λ after ran.
    some_then (some_due laws event begun after) (λ due is_due none. none (record after.state { due = due }, after.done) ((after, ran.0, (due, is_due, refl), refl), ran.1)))
