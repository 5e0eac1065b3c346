-- What an event leaves of a router is one.
use Rattle.hn_base.proofs.Names.{◌≡◌, ℕ, false, List, Option, inl, inr, refl, sym, subst, PlainPrefix, Then}
use Rattle.hn_router.proofs.Names.{Caps, EpId, PlainTlv, Running, Origin, IsArrival, withdrawing, ending, IsPrivateLength, detaching, setting_caps, setting_private, IsRestarting, KeepsWell}
use Rattle.hn_router.proofs.Names.{AttachingKeeps, RouterStaysLater, IsWell, IsRouter, IsRefresh, begun_at, IsExpiry, forgetting, IsPortsTick, PlainEvent, Arrive, Tick, is_refused, IsEventInRange}
use Rattle.hn_router.proofs.Names.{IsEdit, IsEventRule, IsEvent, IsTick}
use Rattle.hn_rules.specs.Laws.{KeepsRouter, RefreshMakesRouter, AssigningKeeps, DelegatingKeeps, AddressingKeeps}
use Rattle.hn_router.specs.Act.{Happened}
use Rattle.hn_router.specs.Laws.{RouterStays}
use Rattle.hn_router.proofs.Edits.{EndpointsKeep, GivenKeep, OthersKeep, edit_keeps}
use Rattle.hn_router.proofs.Keeping.{router_due}

-- what the laws say of the rules
pub record StayLaws : Type 0 where
  pub later : RouterStaysLater
  pub refreshes : RefreshMakesRouter
  pub arrives : (from : Origin) (tlvs : List PlainTlv) → KeepsRouter (IsArrival from tlvs)
  pub forgets : KeepsRouter (λ b a. a ≡ forgetting b)
  pub ticks : KeepsRouter IsPortsTick
  pub expires : KeepsWell IsExpiry
  pub ends : KeepsWell (λ b a. a ≡ ending b)
  pub assigns : AssigningKeeps
  pub delegates : DelegatingKeeps
  pub withdraws : (prefix : PlainPrefix) → KeepsWell (λ b a. a ≡ withdrawing prefix b)
  pub attaches : AttachingKeeps
  pub detaches : (at : EpId) → KeepsWell (λ b a. a ≡ detaching at b)
  pub sets_caps : (caps : Caps) → KeepsWell (λ b a. a ≡ setting_caps caps b)
  pub sets_private : (private : Option ℕ) → IsPrivateLength private → KeepsWell (λ b a. a ≡ setting_private private b)
  pub addresses : AddressingKeeps
  pub restarts : KeepsWell IsRestarting

module _ (laws : StayLaws) where
  keeps_tick : KeepsRouter IsTick
  keeps_tick r a (lost, (expired, expires, (ended, ends, refreshes)), (left, forgets, (settled, (assigned, assigns, settles), ticks))) router =
      let well_ended = laws.ends expired ended ends (laws.expires r expired expires router.well) in
      let router_lost = laws.refreshes ended lost refreshes well_ended in
      let router_left = laws.forgets lost left forgets router_lost in
      let router_settled = laws.refreshes assigned settled settles (laws.assigns left assigned assigns router_left) in
      laws.ticks settled a ticks router_settled

  -- the edit of an event keeps what holds of a router beside what a refresh makes
  well_ends : EndpointsKeep IsEventInRange (λ r. IsWell r.state)
  well_ends = record {
    attaching = λ at r a fits some room attaches well. laws.attaches at r a some fits room attaches well;
    detaching = λ at r well. laws.detaches at r (detaching at r) refl well;
  }

  well_given : GivenKeep IsEventInRange (λ r. IsWell r.state)
  well_given = record {
    delegating = λ prefix valid preferred r fits may well. laws.delegates prefix valid preferred r fits may well;
    private = λ length r fits well. laws.sets_private length fits r (setting_private length r) refl well;
    addressing = λ list r fits may well. laws.addresses list r fits may well;
  }

  well_others : OthersKeep (λ r. IsWell r.state)
  well_others = record {
    withdrawing = λ prefix r well. laws.withdraws prefix r (withdrawing prefix r) refl well;
    caps = λ caps r well. laws.sets_caps caps r (setting_caps caps r) refl well;
    restarting = λ r a restarts well. laws.restarts r a restarts well;
  }

  pub keeps_edit : (event : PlainEvent) (r a : Running) → IsEventInRange event → is_refused event r.state ≡ false → IsEdit event r a → IsWell r.state → IsWell a.state
  keeps_edit = edit_keeps IsEventInRange (λ r. IsWell r.state) well_ends well_given well_others

  keeps_then : (event : PlainEvent) (r a : Running) → IsEventInRange event → is_refused event r.state ≡ false → Then (IsEdit event) IsRefresh r a → IsRouter r.state → IsRouter a.state
  keeps_then event r a fits accepted (between, edits, refreshes) router = laws.refreshes between a refreshes (keeps_edit event r between fits accepted edits router.well)

  keeps_event_rule : (event : PlainEvent) (r a : Running) → IsEventInRange event → is_refused event r.state ≡ false → IsEventRule event r a → IsRouter r.state → IsRouter a.state
  keeps_event_rule (Arrive from bytes) r a fits accepted (inl far) router = subst (λ (x : Running). IsRouter x.state) (sym far.gives) router
  keeps_event_rule (Arrive from bytes) r a fits accepted (inr (inl malformed)) router = subst (λ (x : Running). IsRouter x.state) (sym malformed.gives) router
  keeps_event_rule (Arrive from bytes) r a fits accepted (inr (inr read)) router = laws.arrives from read.tlvs r a read.arrives router
  keeps_event_rule Tick r a fits accepted holds router = keeps_tick r a holds router
  keeps_event_rule event r a fits accepted holds router = keeps_then event r a fits accepted holds router

  keeps_event : (event : PlainEvent) → IsEventInRange event → KeepsRouter (IsEvent event)
  keeps_event event fits r a (inl (refused, is)) router = subst (λ (x : Running). IsRouter x.state) (sym is) router
  keeps_event event fits r a (inr (accepted, holds)) router = keeps_event_rule event r a fits accepted holds router

  pub stays : RouterStays
  unfolding Happened
  stays now event s next done router rises fits (after, holds, (due, is_due, is_next), is_done) =
      subst IsRouter (sym is_next) (router_due due after.state (keeps_event event fits (begun_at now s) after holds (laws.later now s router rises)))
