-- The same settled routers are sound.
use Rattle.hn_base.proofs.Names.{◌≡◌, ◌≢◌, ◌∙◌, ◌⊎◌, List, IsSome, inl, inr, refl, sym, subst, PlainPrefix, Overlaps}
use Rattle.hn_plain.proofs.Names.{one_of_ascending, EpId, assigned_pair, pair_cmp, Assigned, IsReplayed, WorldIsSound, Member, Parts, IsReached, IsSettledByRules, HasAssignment, UsesByRules, SettledAlike}
use Rattle.hn_plain.proofs.Names.{QuietAlike}
use Rattle.hn_base.proofs.Keys.{id_is_found, found_is_id}
use Rattle.hn_base.specs.declared.version.Version.{Version}
use Rattle.hn_dncp.specs.declared.port.Port.{Port}
use Rattle.hn_world.specs.Replay.{Replays}
use Rattle.hn_world.specs.Laws.{WorldHasItsTrace, WorldHasItsVersion}
use Rattle.hn_world.specs.declared.event.Traced.{Traced}
use Rattle.hn_audit.specs.Laws.{ElectAlike, ReplayedElectAlike, AlwaysSettledAreSound}
use Rattle.hn_audit.specs.Sound.{Link, Joint, Private, IsPostOn, IsThereByRules, IsServedLink, IsWithout, IsHeldOn, IsSoundByRules}
use Rattle.hn_plain.specs.Plain as plain
use Rattle.hn_plain.specs.Same.{SoundAlike, AlwaysPlainlySound}
use Rattle.hn_plain.proofs.PlainLaws.{PlainLaws}
use Rattle.hn_plain.proofs.WhatIsSeen.{sees_the_same_free}
use Rattle.hn_plain.proofs.WhatIsUsed.{uses_the_same, wants_the_same}
use Rattle.hn_plain.proofs.WhoIsSettled.{router_of}

-- ---- posts on links

to_on : (link : Link) (s : Member) (e : EpId) → plain.HasPost link s e → IsPostOn link s e
to_on (Joint place) s e on = (id_is_found (λ (p : Port). p.id) s.router.ports e on.0, on.1)
to_on (Private router) s e on = on

from_on : (link : Link) (s : Member) (e : EpId) → IsPostOn link s e → plain.HasPost link s e
from_on (Joint place) s e on = (found_is_id (λ (p : Port). p.id) s.router.ports e on.0, on.1)
from_on (Private router) s e on = on

module _ (laws : PlainLaws) (routers : WorldIsSound) (w : Parts) (r : Member) (replayed : IsReplayed w) (settled : IsSettledByRules w r) where
  to_there : (link : Link) (s : Member) (e : EpId) → plain.IsThere w r link s e → IsThereByRules w r link s e
  to_there link s e there = record {
    runs = there.0.runs;
    on_link = to_on link s e there.1;
    of_set = record { router = s; reached = there.0; post = e; on_link = to_on link s e there.1 };
  }

  -- who is on a link of a settled set is of the set
  reached_there : (link : Link) (s : Member) (e : EpId) → IsThereByRules w r link s e → IsReached w r s
  reached_there (Joint place) s e there =
      let set = there.of_set in
      settled.no_strangers s set.router e set.post there.runs set.reached (record { link = place; one = there.on_link.1; other = set.on_link.1 })
  reached_there (Private router) s e there =
      let set = there.of_set in
      let same : set.router ≡ s = set.on_link.0 ∙ sym there.on_link.0 in
      subst (IsReached w r) same set.reached

  from_there : (link : Link) (s : Member) (e : EpId) → IsThereByRules w r link s e → plain.IsThere w r link s e
  from_there link s e there = (reached_there link s e there, from_on link s e there.on_link)

  -- ---- assignments

  one_each : (s : Member) (e : EpId) (d : PlainPrefix) (b c : Assigned) → IsReached w r s → HasAssignment s.router e d b → HasAssignment s.router e d c → b ≡ c
  one_each s e d b c s_in has also =
      one_of_ascending assigned_pair pair_cmp laws.pairs_total s.router.held.assigned (router_of laws routers w replayed s s_in.runs).well.pairs.assigned b c has.held also.held
      (λ i. record { delegated = (has.of_delegated ∙ sym also.of_delegated) i; endpoint = (has.of_endpoint ∙ sym also.of_endpoint) i })

  -- ---- links that are served

  to_served : (link : Link) (d : PlainPrefix) → plain.HasOnePrefix w r link d → IsServedLink w r link d
  to_served link d is =
      let its = is.every is.publisher is.post is.there in
      record {
        every = λ s e there. is.every s e (from_there link s e there);
        prefix = is.prefix;
        one_prefix = λ s e c there has. is.one_prefix s e c (from_there link s e there) has;
        publisher = is.publisher;
        post = is.post;
        there = to_there link is.publisher is.post is.there;
        assignment = its.0;
        has = its.1;
        published = is.publishes its.0 its.1;
        no_other = λ s e c there has some.
            let both = is.no_other s e c (from_there link s e there) has some in
            let moved : HasAssignment is.publisher.router is.post d c =
            subst (λ (m : Member). HasAssignment m.router is.post d c) both.0 (subst (λ (f : EpId). HasAssignment s.router f d c) both.1 has) in
            (both.0, both.1, one_each is.publisher is.post d c its.0 is.there.0 moved its.1);
      }

  from_served : (link : Link) (d : PlainPrefix) → IsServedLink w r link d → plain.HasOnePrefix w r link d
  from_served link d is = record {
    prefix = is.prefix;
    every = λ s e there. is.every s e (to_there link s e there);
    one_prefix = λ s e c there has. is.one_prefix s e c (to_there link s e there) has;
    publisher = is.publisher;
    post = is.post;
    there = from_there link is.publisher is.post is.there;
    publishes = λ c has.
        let same : is.assignment ≡ c =
        one_each is.publisher is.post d is.assignment c (reached_there link is.publisher is.post is.there) is.has has in
        subst (λ (b : Assigned). IsSome b.published) same is.published;
    no_other = λ s e c there has some. let all = is.no_other s e c (to_there link s e there) has some in (all.0, all.1);
  }

  -- ---- links that have no use of a prefix

  abbrev AreWithout : Link → PlainPrefix → Type 0
  AreWithout link d = (s : Member) (e : EpId) → plain.IsThere w r link s e → plain.GoesWithout s.router e d

  to_without : (link : Link) (d : PlainPrefix) → AreWithout link d → IsWithout w r link d
  to_without link d is = record {
    none = λ s e c there has. (is s e (from_there link s e there)).0 c has;
    no_use = λ s e there. elim (is s e (from_there link s e there)).1 [
      | inl un ↦ inl ((wants_the_same laws s.router d).0 un)
      | inr none ↦ inr ((sees_the_same_free laws s.router e d (router_of laws routers w replayed s (reached_there link s e there).runs)).0 none)
    ];
  }

  from_without : (link : Link) (d : PlainPrefix) → IsWithout w r link d → AreWithout link d
  from_without link d is s e there = (
    λ c has. is.none s e c (to_there link s e there) has,
    elim (is.no_use s e (to_there link s e there)) [
      | inl un ↦ inl ((wants_the_same laws s.router d).1 un)
      | inr none ↦ inr ((sees_the_same_free laws s.router e d (router_of laws routers w replayed s there.0.runs)).1 none)
    ],
  )

  -- ---- sound

  from_sound : IsSoundByRules w r → plain.IsSound w r
  from_sound is = record {
    inside = λ s c s_in held. let both = is.inside s c s_in held in ((uses_the_same laws r.router c.delegated).1 both.0, both.1);
    each_link = λ link t f d there uses.
        elim (is.each_link link t f d (to_there link t f there) ((uses_the_same laws r.router d).0 uses)) [
          | inl served ↦ inl (from_served link d served)
          | inr without ↦ inr (from_without link d without)
        ];
    links_apart = λ link other s u b c there also held held_too differ.
        is.links_apart link other b.prefix c.prefix
        (record { router = s; assignment = b; there = to_there link s b.endpoint there; held = held; prefix = refl })
        (record { router = u; assignment = c; there = to_there other u c.endpoint also; held = held_too; prefix = refl })
        differ;
  }

  module _ (is : plain.IsSound w r) where
    each_link : (link : Link) (s : Member) (e : EpId) (d : PlainPrefix) → IsThereByRules w r link s e → UsesByRules r.router d → IsServedLink w r link d ⊎ IsWithout w r link d
    each_link link s e d there uses =
        elim (is.each_link link s e d (from_there link s e there) ((uses_the_same laws r.router d).1 uses)) [
          | inl served ↦ inl (to_served link d served)
          | inr without ↦ inr (to_without link d without)
        ]

    links_apart : (link other : Link) (p q : PlainPrefix) → IsHeldOn w r link p → IsHeldOn w r other q → link ≢ other → ¬ Overlaps p q
    links_apart link other p q one two differ =
        subst (λ (x : PlainPrefix). ¬ Overlaps x q) one.prefix
        (subst (λ (x : PlainPrefix). ¬ Overlaps one.assignment.prefix x) two.prefix
        (is.links_apart link other one.router two.router one.assignment two.assignment (from_there link one.router one.assignment.endpoint one.there)
        (from_there other two.router two.assignment.endpoint two.there) one.held two.held differ))

    to_sound : ElectAlike w r → IsSoundByRules w r
    to_sound elects = record {
      inside = λ s c s_in held. let both = is.inside s c s_in held in ((uses_the_same laws r.router c.delegated).0 both.0, both.1);
      each_link = each_link;
      links_apart = links_apart;
      one_elected = elects;
    }

pub sound_alike : PlainLaws → WorldIsSound → ReplayedElectAlike → SoundAlike
sound_alike laws routers elects w r replayed runs settled = (
  λ is. to_sound laws routers w r replayed settled is (elects w replayed r runs settled),
  from_sound laws routers w r replayed settled,
)

-- ---- at each moment of a world's past

replayed : WorldHasItsTrace → WorldHasItsVersion → (version : Version) (past : List Traced) (then : Parts) → Replays version past then → IsReplayed then
replayed trace version v past then leads =
    subst (λ (x : Version). Replays x then.trace then) (sym (version v past then leads))
    (subst (λ (ts : List Traced). Replays v ts then) (sym (trace v past then leads)) leads)

pub always_plainly_sound : SettledAlike → QuietAlike → SoundAlike → WorldHasItsTrace → WorldHasItsVersion → AlwaysSettledAreSound → AlwaysPlainlySound
always_plainly_sound settled_same quiet_same sound_same trace version always w is past future split =
    let (then, leads, sound) = always w is past future split in
    let replays = replayed trace version w.version past then leads in (
      then,
      leads,
      λ r runs plainly quietly.
          let settled = (settled_same then r replays runs).0 plainly in
          let quiet = (quiet_same then r replays).0 quietly in
          (sound_same then r replays runs settled).1 (sound r runs settled quiet),
    )
