-- What hosts are told is what the routers of a sound link hold.
use Rattle.hn_base.proofs.Names.{◌≡◌, ◌≢◌, ◌∙◌, ◌<◌, ◌^◌, ℕ, List, Contains, inl, inr, refl, sym, ap, subst, arith, All-contains, recursion_from_All, PlainPrefix, IsPrefix, IsWithin, Overlaps}
use Rattle.hn_base.proofs.Elements.{all_of}
use Rattle.hn_base.specs.declared.ids.EpId.{EpId}
use Rattle.hn_base.specs.declared.version.Version.{Version}
use Rattle.hn_advert.specs.Advert.{IsAdvert, IsInfo, IsInRange, advert_bytes}
use Rattle.hn_advert.specs.declared.advert.Advert.{Advert}
use Rattle.hn_advert.specs.declared.advert.Info.{Info}
use Rattle.hn_pair.specs.declared.assigned.Assigned.{Assigned}
use Rattle.hn_deleg.specs.declared.delegated.Delegated.{Delegated}
use Rattle.hn_deleg.specs.Laws.{LifetimesFit, UsableIsUnique, UsableNeverOverlap}
use Rattle.hn_deleg.specs.Used.{AreUsable, HasLifetimes, prefixes_of}
use Rattle.hn_own.specs.Ranges.{IsRangedHeld}
use Rattle.hn_rules.specs.Router.{IsRouter}
use Rattle.hn_rules.specs.Seen.{seen_by}
use Rattle.hn_rules.specs.declared.state.State.{State}
use Rattle.hn_router.specs.Advertising.{IsInfoOf, IsLifetime, IsAdvertAt}
use Rattle.hn_world.specs.declared.event.Traced.{Traced}
use Rattle.hn_world.specs.declared.member.Member.{Member}
use Rattle.hn_world.specs.declared.parts.Parts.{Parts}
use Rattle.hn_world.specs.Laws.{WorldHasItsTrace, WorldHasItsVersion, WorldIsSound}
use Rattle.hn_world.specs.Replay.{IsReplayed, IsSoundMember, Replays}
use Rattle.hn_audit.specs.Reached.{IsRunning}
use Rattle.hn_audit.specs.Sound.{Link, Joint, Private, HasAssignment}
use Rattle.hn_plain.specs.Plain.{HasOnePrefix, IsSound, IsThere, Uses}
use Rattle.hn_plain.specs.Same.{AlwaysPlainlySound, UsesTheSame}
use Rattle.hn_told.specs.Told.{IsTold, IsToldHeld, AlwaysToldApart}

-- the laws of the crates below on which it rests
pub record TellLaws : Type 0 where
  pub sound : AlwaysPlainlySound
  pub routers : WorldIsSound
  pub trace : WorldHasItsTrace
  pub version : WorldHasItsVersion
  pub used : UsesTheSame
  pub unique : UsableIsUnique
  pub apart : UsableNeverOverlap
  pub fit : LifetimesFit
  pub read : (advert : Advert) → IsInRange advert → IsAdvert (advert_bytes advert) advert
  pub one_read : (bytes : List ℕ) (a b : Advert) → IsAdvert bytes a → IsAdvert bytes b → a ≡ b

-- ---- a world of another's past

replayed : WorldHasItsTrace → WorldHasItsVersion → (version : Version) (past : List Traced) (then : Parts) → Replays version past then → IsReplayed then
replayed trace version v past then leads =
    subst (λ (x : Version). Replays x then.trace then) (sym (version v past then leads))
    (subst (λ (ts : List Traced). Replays v ts then) (sym (trace v past then leads)) leads)

-- ---- what a router advertises fits its fields

info_fits : LifetimesFit → (s : State) (usable : List Delegated) (e : EpId) (i : Info) → IsRouter s → AreUsable (seen_by s) usable → IsInfoOf s usable e i → IsInfo i
info_fits fit s usable e i router are of =
    let seconds = fit (seen_by s) of.delegated (All-contains (HasLifetimes (seen_by s)) usable of.delegated are.lifetimes of.is_used) in
    record {
      prefix = subst IsPrefix (sym of.prefix) (All-contains IsRangedHeld s.held.assigned of.assignment router.well.ranged.assigned of.held).prefix;
      valid = subst (λ (n : ℕ). n < 2 ^ 32) (sym of.valid) seconds.0;
      preferred = subst (λ (n : ℕ). n < 2 ^ 32) (sym of.preferred) seconds.1;
    }

lifetime_fits : (s : State) (n : ℕ) → IsLifetime s n → n < 2 ^ 16
lifetime_fits s n is = elim is [
  | inl (_, long) ↦ subst (λ (m : ℕ). m < 2 ^ 16) (sym long) (omega arith)
  | inr (_, none) ↦ subst (λ (m : ℕ). m < 2 ^ 16) (sym none) (omega arith)
]

in_range : LifetimesFit → (s : State) (e : EpId) (a : Advert) → IsRouter s → IsAdvertAt s e a → IsInRange a
in_range fit s e a router at = record {
  lifetime = lifetime_fits s a.lifetime at.lifetime;
  infos = recursion_from_All IsInfo a.infos
      (all_of IsInfo a.infos (λ i there. info_fits fit s at.infos.usable e i router at.infos.are_usable ((at.infos.each i).0 there)));
}

-- ---- places of links

number_of : Link → ℕ
number_of (Joint place) = place
number_of (Private router) = 0

one_place : (place other : ℕ) → Joint place ≡ Joint other → place ≡ other
unfolding number_of
one_place place other same = ap number_of same

-- ---- an assignment of what is told

-- what a router holds for the endpoint, with that prefix
pub record IsOfTold (s : State) (e : EpId) (p : PlainPrefix) : Type 0 where
  pub assignment : Assigned
  pub held : Contains s.held.assigned assignment
  pub of_endpoint : assignment.endpoint ≡ e
  pub prefix : assignment.prefix ≡ p

module _ (laws : TellLaws) (w : Parts) (r : Member) (replays : IsReplayed w) (is : IsSound w r) where
  router_there : (s : Member) → IsRunning w s → IsRouter s.router
  router_there s runs = (All-contains (IsSoundMember w.moment) w.members s (laws.routers w replays) runs.there).router

  of_told : (place : ℕ) (p : PlainPrefix) (told : IsTold w r place p) → IsOfTold told.router.router told.endpoint p
  of_told place p told =
      let s = told.router.router in
      let (a, at, are) = told.advertised in
      let fits = in_range laws.fit s told.endpoint a (router_there told.router told.there.0.runs) at in
      let written : IsAdvert told.bytes a = subst (λ (bytes : List ℕ). IsAdvert bytes a) (sym are) (laws.read a fits) in
      let same : told.says.advert ≡ a = laws.one_read told.bytes told.says.advert a told.says.is_read written in
      let info : Contains a.infos told.says.info = subst (λ (b : Advert). Contains b.infos told.says.info) same told.says.among in
      let of = (at.infos.each told.says.info).0 info in
      record { assignment = of.assignment; held = of.held; of_endpoint = of.of_endpoint; prefix = sym of.prefix ∙ told.says.prefix }

  inside_told : (place : ℕ) (p : PlainPrefix) (told : IsTold w r place p)
      → Uses r.router (of_told place p told).assignment.delegated × IsWithin p (of_told place p told).assignment.delegated
  inside_told place p told =
      let of = of_told place p told in
      let both = is.inside told.router of.assignment told.there.0 of.held in
      (both.0, subst (λ (x : PlainPrefix). IsWithin x of.assignment.delegated) of.prefix both.1)

  has_told : (place : ℕ) (p : PlainPrefix) (told : IsTold w r place p)
      → HasAssignment told.router.router told.endpoint (of_told place p told).assignment.delegated (of_told place p told).assignment
  has_told place p told = let of = of_told place p told in record { held = of.held; of_endpoint = of.of_endpoint; of_delegated = refl }

  -- the link is served inside the delegated prefix of what is told, with that
  served_told : (place : ℕ) (p : PlainPrefix) (told : IsTold w r place p) → HasOnePrefix w r (Joint place) (of_told place p told).assignment.delegated
  served_told place p told =
      elim (is.each_link (Joint place) told.router told.endpoint (of_told place p told).assignment.delegated told.there (inside_told place p told).0) [
        | inl served ↦ served
        | inr without ↦ absurd ((without told.router told.endpoint told.there).0 (of_told place p told).assignment (has_told place p told))
      ]

  its_prefix : (place : ℕ) (p : PlainPrefix) (told : IsTold w r place p) → (served_told place p told).prefix ≡ p
  its_prefix place p told =
      let of = of_told place p told in
      sym ((served_told place p told).one_prefix told.router told.endpoint of.assignment told.there (has_told place p told)) ∙ of.prefix

  held_told : (place : ℕ) (p : PlainPrefix) → IsTold w r place p → IsToldHeld w r place p
  held_told place p told = record {
    delegated = (of_told place p told).assignment.delegated;
    used = (inside_told place p told).0;
    inside = (inside_told place p told).1;
    held = λ s e there.
        let served = served_told place p told in
        let every = served.every s e there in
        (every.0, every.1, served.one_prefix s e every.0 there every.1 ∙ its_prefix place p told);
  }

  -- ---- on different links

  -- what a host is told, with the router that holds it
  record IsHeldOn (place : ℕ) (p : PlainPrefix) : Type 0 where
    pub router : Member
    pub assignment : Assigned
    pub there : IsThere w r (Joint place) router assignment.endpoint
    pub held : Contains router.router.held.assigned assignment
    pub prefix : assignment.prefix ≡ p

  held_on : (place : ℕ) (p : PlainPrefix) → IsTold w r place p → IsHeldOn place p
  held_on place p told =
      let of = of_told place p told in
      record {
        router = told.router;
        assignment = of.assignment;
        there = subst (λ (e : EpId). IsThere w r (Joint place) told.router e) (sym of.of_endpoint) told.there;
        held = of.held;
        prefix = of.prefix;
      }

  apart_told : (place other : ℕ) (p q : PlainPrefix) → IsTold w r place p → IsTold w r other q → place ≢ other → ¬ Overlaps p q
  apart_told place other p q told too differ =
      let a = held_on place p told in
      let b = held_on other q too in
      let links : Joint place ≢ Joint other = λ same. differ (one_place place other same) in
      let apart = is.links_apart (Joint place) (Joint other) a.router b.router a.assignment b.assignment a.there b.there a.held b.held links in
      subst (λ (x : PlainPrefix). ¬ Overlaps x q) a.prefix (subst (λ (x : PlainPrefix). ¬ Overlaps a.assignment.prefix x) b.prefix apart)

  -- ---- on one link

  one_used : (d f : PlainPrefix) → Uses r.router d → Uses r.router f → Overlaps d f → d ≡ f
  one_used d f plainly plainly_too overlap =
      let uses = (laws.used r.router d).0 plainly in
      let too = (laws.used r.router f).0 plainly_too in
      let same : too.usable ≡ uses.usable = laws.unique (seen_by r.router) too.usable uses.usable too.are_usable uses.are_usable in
      laws.apart (seen_by r.router) uses.usable d f uses.are_usable uses.there
      (subst (λ (list : List Delegated). Contains (prefixes_of list) f) same too.there) overlap

  alike_told : (place : ℕ) (p q : PlainPrefix) → IsTold w r place p → IsTold w r place q → Overlaps p q → p ≡ q
  alike_told place p q told too (address, in_p, in_q) =
      let d = (of_told place p told).assignment.delegated in
      let f = (of_told place q too).assignment.delegated in
      let both = inside_told place p told in
      let both_too = inside_told place q too in
      let same : f ≡ d = sym (one_used d f both.0 both_too.0 (address, both.1 address in_p, both_too.1 address in_q)) in
      let has : HasAssignment too.router.router too.endpoint d (of_told place q too).assignment =
      subst (λ (x : PlainPrefix). HasAssignment too.router.router too.endpoint x (of_told place q too).assignment) same (has_told place q too) in
      sym (its_prefix place p told) ∙ sym ((served_told place p told).one_prefix too.router too.endpoint (of_told place q too).assignment too.there has)
      ∙ (of_told place q too).prefix

pub told_apart : TellLaws → AlwaysToldApart
told_apart laws w replays past future split =
    let (then, leads, sound) = laws.sound w replays past future split in
    let replays_then = replayed laws.trace laws.version w.version past then leads in (
      then,
      leads,
      λ r runs settled quiet.
          let is = sound r runs settled quiet in
          record { apart = apart_told laws then r replays_then is; alike = alike_told laws then r replays_then is; held = held_told laws then r replays_then is },
    )
