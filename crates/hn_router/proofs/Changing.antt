-- Each event is a list of elementary changes, but for endpoints that come and go; what it gives has to fit.
use Rattle.hn_base.proofs.Names.{◌≡◌, ◌⊎◌, ℕ, false, List, [], ◌∷◌, Option, inl, inr, refl, sym, subst, PlainPrefix, Then}
use Rattle.hn_router.proofs.Names.{Caps, PlainTlv, IsTlvList, Running, Origin, IsArrival, IsAssigning, EachKeeps, delegating, withdrawing, ending, IsPrivateLength, setting_caps, setting_private}
use Rattle.hn_router.proofs.Names.{setting_addresses, IsRestarting, IsRefresh, Rule, IsExpiry, forgetting, IsPortsTick, PlainEvent, Arrive, Tick, is_refused, IsEventInRange, IsEdit, IsEventRule}
use Rattle.hn_router.proofs.Names.{IsEvent, IsTick}
use Rattle.hn_rules.specs.declared.done.Note.TheVariants as note
use Rattle.hn_rules.specs.Changes.{Change, TakeNote, Leads, change}
use Rattle.hn_rules.specs.Laws.{MakesChanges, DelegatingMakesChanges, AddressingMakesChanges}
use Rattle.hn_router.proofs.Edits.{EndpointsKeep, GivenKeep, OthersKeep, edit_keeps}

-- a rule keeps a fact
abbrev pub Keeps : (Running → Type 0) → Rule → Type 0
Keeps P rule = (r a : Running) → rule r a → P r → P a

-- a fact that each change keeps, changes one after another keep
leads_keep : (tlvs : List PlainTlv) (P : Running → Type 0) → EachKeeps tlvs P → (cs : List Change) (r a : Running) → Leads tlvs cs r a → P r → P a
leads_keep tlvs P each [] r a is p = subst P (sym is) p
leads_keep tlvs P each (c ∷ cs) r a (allowed, leads) p = leads_keep tlvs P each cs (change c r) a leads (each c r allowed p)

-- the rules that are lists of changes
pub record ChangeLaws : Type 0 where
  pub refresh : MakesChanges [] IsRefresh
  pub arrival : (from : Origin) (tlvs : List PlainTlv) → MakesChanges tlvs (IsArrival from tlvs)
  pub expiry : MakesChanges [] IsExpiry
  pub ending : MakesChanges [] (λ b a. a ≡ ending b)
  pub forgetting : MakesChanges [] (λ b a. a ≡ forgetting b)
  pub assigning : MakesChanges [] IsAssigning
  pub ports : MakesChanges [] IsPortsTick
  pub delegating : DelegatingMakesChanges
  pub withdrawing : (prefix : PlainPrefix) → MakesChanges [] (λ b a. a ≡ withdrawing prefix b)
  pub caps : (caps : Caps) → MakesChanges [] (λ b a. a ≡ setting_caps caps b)
  pub private : (private : Option ℕ) → IsPrivateLength private → MakesChanges [] (λ b a. a ≡ setting_private private b)
  pub addressing : AddressingMakesChanges
  pub restarting : MakesChanges [] IsRestarting

-- the TLVs from which the changes of an event take: those of the datagram that arrives, or none
abbrev pub IsFrom : PlainEvent → List PlainTlv → Type 0
IsFrom (Arrive from bytes) tlvs = (tlvs ≡ []) ⊎ IsTlvList tlvs bytes
IsFrom _ tlvs = tlvs ≡ []

-- what each change keeps, they keep where they fit
pub given_keep : ChangeLaws → (P : Running → Type 0) → EachKeeps [] P → GivenKeep IsEventInRange P
given_keep laws P each = record {
  delegating = λ prefix valid preferred r fits may.
      let made = laws.delegating prefix valid preferred r fits may in leads_keep [] P each made.0 r (delegating prefix valid preferred r) made.1;
  private = λ length r fits. let made = laws.private length fits r (setting_private length r) refl in leads_keep [] P each made.0 r (setting_private length r) made.1;
  addressing = λ list r fit may. let made = laws.addressing list r fit may in leads_keep [] P each made.0 r (setting_addresses list r) made.1;
}

module _ (laws : ChangeLaws) (May : PlainEvent → Type 0) (P : Running → Type 0) where
  -- changes that take from these TLVs
  by_changes : (tlvs : List PlainTlv) → EachKeeps tlvs P → (rule : Rule) → MakesChanges tlvs rule → Keeps P rule
  by_changes tlvs each rule makes r a holds = let made = makes r a holds in leads_keep tlvs P each made.0 r a made.1

  module _ (each : EachKeeps [] P) where
    plain : (rule : Rule) → MakesChanges [] rule → Keeps P rule
    plain = by_changes [] each

    refreshes : Keeps P IsRefresh
    refreshes = plain IsRefresh laws.refresh

    tick_keeps : Keeps P IsTick
    tick_keeps r a (lost, (expired, expires, (ended, ends, refreshed)), (left, forgets, (settled, (assigned, assigns, settles), ticks))) p =
        let p_expired = plain IsExpiry laws.expiry r expired expires p in
        let p_ended = plain (λ b a. a ≡ ending b) laws.ending expired ended ends p_expired in
        let p_lost = refreshes ended lost refreshed p_ended in
        let p_left = plain (λ b a. a ≡ forgetting b) laws.forgetting lost left forgets p_lost in
        let p_assigned = plain IsAssigning laws.assigning left assigned assigns p_left in
        plain IsPortsTick laws.ports settled a ticks (refreshes assigned settled settles p_assigned)

    others_keep : OthersKeep P
    others_keep = record {
      withdrawing = λ prefix r. plain (λ b a. a ≡ withdrawing prefix b) (laws.withdrawing prefix) r (withdrawing prefix r) refl;
      caps = λ caps r. plain (λ b a. a ≡ setting_caps caps b) (laws.caps caps) r (setting_caps caps r) refl;
      restarting = plain IsRestarting laws.restarting;
    }

    then_keeps : EndpointsKeep May P → GivenKeep May P → (event : PlainEvent) (r a : Running) → May event → is_refused event r.state ≡ false
        → Then (IsEdit event) IsRefresh r a → P r → P a
    then_keeps ends given event r a may accepted (between, edits, refreshed) p =
        refreshes between a refreshed (edit_keeps May P ends given others_keep event r between may accepted edits p)

  -- an event that is not refused, and one that is
  event_rule_keeps : EndpointsKeep May P → GivenKeep May P → (event : PlainEvent) → May event → ((tlvs : List PlainTlv) → IsFrom event tlvs → EachKeeps tlvs P)
      → (r a : Running) → is_refused event r.state ≡ false → IsEventRule event r a → P r → P a
  event_rule_keeps ends given (Arrive from bytes) ranged each r a accepted (inl far) p = subst P (sym far.gives) (each [] (inl refl) (TakeNote note.Far) r tt p)
  event_rule_keeps ends given (Arrive from bytes) ranged each r a accepted (inr (inl bad)) p =
      subst P (sym bad.gives) (each [] (inl refl) (TakeNote (note.Malformed bad.place bad.why)) r tt p)
  event_rule_keeps ends given (Arrive from bytes) ranged each r a accepted (inr (inr read)) p =
      by_changes read.tlvs (each read.tlvs (inr read.list)) (IsArrival from read.tlvs) (laws.arrival from read.tlvs) r a read.arrives p
  event_rule_keeps ends given Tick ranged each r a accepted holds p = tick_keeps (each [] refl) r a holds p
  event_rule_keeps ends given event ranged each r a accepted holds p = then_keeps (each [] refl) ends given event r a ranged accepted holds p

  none_keeps : (event : PlainEvent) → ((tlvs : List PlainTlv) → IsFrom event tlvs → EachKeeps tlvs P) → EachKeeps [] P
  none_keeps (Arrive from bytes) each = each [] (inl refl)
  none_keeps _ each = each [] refl

  -- what each change keeps, and endpoints that come and go, each event keeps
  pub event_keeps : EndpointsKeep May P → GivenKeep May P → (event : PlainEvent) → May event → ((tlvs : List PlainTlv) → IsFrom event tlvs → EachKeeps tlvs P) → Keeps P (IsEvent event)
  event_keeps ends given event ranged each r a (inl (refused, is)) p = subst P (sym is) (none_keeps event each (TakeNote note.Refused) r tt p)
  event_keeps ends given event ranged each r a (inr (accepted, holds)) p = event_rule_keeps ends given event ranged each r a accepted holds p
