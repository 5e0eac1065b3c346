-- A refresh makes a router, and what keeps one.
use Rattle.hn_base.proofs.Names.{◌≡◌, ℕ, List, [], ◌∷◌, Option, refl, sym, subst, arith, PlainPrefix, Then}
use Rattle.hn_rules.proofs.Names.{Caps, EpId, ReachabilityStays, PlainTlv, AddressesStay, Running, Origin, State, IsTlvRule, IsTlvs, IsArrival, EachKeeps, IsPrivateLength, withdrawing, ending}
use Rattle.hn_rules.proofs.Names.{detaching, setting_caps, setting_private, IsRestarting, ChangesKeepWell, KeepsRouter, KeepsWell, RefreshMakesRouter, RouterStaysLater, AssigningKeeps, IsRefresh}
use Rattle.hn_rules.proofs.Names.{IsRefreshed, Rule, IsExpiry, forgetting, IsPortsTick}
use Rattle.hn_rules.specs.Laws.{DelegatingKeeps, AttachingKeeps, AddressingKeeps}
use Rattle.hn_rules.proofs.Forgetting.{refreshed_forgetting}
use Rattle.hn_rules.proofs.Leads.{Keeps, keeps_plain, keeps_each}
use Rattle.hn_rules.proofs.PartsOfRouters.{made_from, well_from, made-later}
use Rattle.hn_rules.proofs.Refreshes.{Router, Well, router_refresh, router_ticks, refreshed-later}
use Rattle.hn_rules.proofs.Walk.{tlv_walk, expiry_walk, ending_walk, forgetting_walk, assigning_walk, delegating_walk, withdrawing_walk, caps_walk, private_walk, addressing_walk, restarting_walk}
use Rattle.hn_rules.proofs.RangedParts.{ranged_from, ranged_later, ranged_attaching, ranged_detaching}
use Rattle.hn_rules.proofs.Wells.{keeps_attaching, made_detaching}

-- ---- time passes

pub stays_later : RouterStaysLater
stays_later now s router rises =
    let later : State = record s { moment = now } in
    let well = well_from later (made-later now s rises (made_from s router.well)) (ranged_later now s rises (ranged_from s router.well)) in
    record { well = well; refreshed = refreshed-later now s rises router.refreshed }

module _ (keeps : ChangesKeepWell) where
  each : EachKeeps [] Well
  each = keeps []

  -- ---- a refresh

  pub makes_router : RefreshMakesRouter
  makes_router = router_refresh each

  -- ---- an arrival

  -- what keeps the facts but for those that a refresh makes, and then a refresh
  refreshed : (rule : Rule) → Keeps Well rule → Keeps Router (Then rule IsRefresh)
  refreshed rule one r a (between, holds, refreshes) router = router_refresh each between a refreshes (one r between holds router.well)

  keeps_tlvs : (from : Origin) (tlvs : List PlainTlv) → Keeps Router (IsTlvs from tlvs)
  keeps_tlvs from tlvs = keeps_each Router (λ tlv. Then (IsTlvRule from tlv) IsRefresh)
      (λ tlv. refreshed (IsTlvRule from tlv) (tlv_walk (tlv ∷ []) Well (keeps (tlv ∷ [])) from tlv (0, omega arith, refl))) tlvs

  pub arrival_keeps : (from : Origin) (tlvs : List PlainTlv) → KeepsRouter (IsArrival from tlvs)
  arrival_keeps from tlvs r a (between, arrive, answers) router = subst Router (sym answers.gives) (keeps_tlvs from tlvs r between arrive router)

  -- ---- parts of a tick

  pub forgetting_keeps : ReachabilityStays → KeepsRouter (λ b a. a ≡ forgetting b)
  forgetting_keeps stays r a is router = record {
    well = forgetting_walk [] Well each r a is router.well;
    refreshed = subst (λ (x : Running). IsRefreshed x.state) (sym is) (refreshed_forgetting stays r router.refreshed);
  }

  pub ports_keep : KeepsRouter IsPortsTick
  ports_keep = router_ticks each

  -- ---- what keeps a router but for what a refresh makes

  pub expiry_keeps : KeepsWell IsExpiry
  expiry_keeps = expiry_walk [] Well each

  pub ending_keeps : KeepsWell (λ b a. a ≡ ending b)
  ending_keeps = ending_walk [] Well each

  pub assigning_keeps : AssigningKeeps
  assigning_keeps before after is router = assigning_walk [] Well each before after is router.well

  pub delegating_keeps : DelegatingKeeps
  delegating_keeps = delegating_walk [] Well each

  pub withdrawing_keeps : (prefix : PlainPrefix) → KeepsWell (λ b a. a ≡ withdrawing prefix b)
  withdrawing_keeps = withdrawing_walk [] Well each

  pub caps_keep : (caps : Caps) → KeepsWell (λ b a. a ≡ setting_caps caps b)
  caps_keep = caps_walk [] Well each

  pub private_keeps : (private : Option ℕ) → IsPrivateLength private → KeepsWell (λ b a. a ≡ setting_private private b)
  private_keeps = private_walk [] Well each

  pub addressing_keeps : AddressingKeeps
  addressing_keeps = addressing_walk [] Well each

  pub restarting_keeps : KeepsWell IsRestarting
  restarting_keeps = restarting_walk [] Well each

-- ---- endpoints come and go

pub attaching_keeps : AttachingKeeps
attaching_keeps at before after some fits room is well =
    well_from after.state (keeps_attaching at before after some fits room is (made_from before.state well)) (ranged_attaching at before after is (ranged_from before.state well))

pub detaching_keeps : AddressesStay → (at : EpId) → KeepsWell (λ b a. a ≡ detaching at b)
detaching_keeps stay at =
    keeps_plain Well (detaching at) (λ r well. well_from (detaching at r).state (made_detaching stay at r (made_from r.state well)) (ranged_detaching at r (ranged_from r.state well)))
