-- A running router of a replayed world that is settled and quiet is sound, and where it is settled its set is sound alike.
use Rattle.hn_base.proofs.Names.{List, [], sym, subst, IsTotalOrder, append-nil, All-contains, IsExact}
use Rattle.hn_audit.proofs.Names.{pair_cmp, ItemsAreUnique, Delegated, UsableIsUnique, UsableNeverOverlap, AreUsable, CommonLinkExists, AssignedIsPublished, ViewIsNetwork, EntriesAreAsKnown}
use Rattle.hn_audit.proofs.Names.{OwnPeersAreOfEndpoints, PrivatePostIsAlone, seen_by, AdvertisedIsExact, CommonLinkIsExact, Member, Parts, IsReplayed, IsAttachedMember, IsSoundMember, IsQuietByRules}
use Rattle.hn_audit.proofs.Names.{IsRunning, IsSettledByRules, Joint, IsSoundByRules}
use Rattle.hn_deleg.specs.Laws.{UsableExists}
use Rattle.hn_sound.specs.Laws.{HomeRestsAsSeen, HomeAtRestIsSound}
use Rattle.hn_sound.specs.Sound as home
use Rattle.hn_world.specs.Replay.{AreAttached}
use Rattle.hn_world.specs.Laws.{AtMostOneWorld, WorldIsSound, AlwaysAttached}
use Rattle.hn_audit.specs.Laws.{SettledAndQuietIsSound, ReplayedElectAlike, SetIsSoundAlike}
use Rattle.hn_audit.proofs.BridgeSets.{IsKnown, OwnVersions, itself}
use Rattle.hn_audit.proofs.BridgeHomes.{home_of}
use Rattle.hn_audit.proofs.BridgePremises.{IsCase, is_home}
use Rattle.hn_audit.proofs.BridgeRest.{rests_as_seen}
use Rattle.hn_audit.proofs.BridgeSounds.{inside, each_link, links_apart}
use Rattle.hn_audit.proofs.BridgeElections.{one_elected}
use Rattle.hn_audit.proofs.BridgeAlike.{sound_alike}

-- the laws of worlds and of their routers on which it rests
pub record WorldLaws : Type 0 where
  pub one_world : AtMostOneWorld
  pub sound : WorldIsSound
  pub attached : AlwaysAttached
  pub network : ViewIsNetwork
  pub entries : EntriesAreAsKnown

-- and the other laws of the crates below
pub record BridgeLaws : Type 0 where
  pub worlds : WorldLaws
  pub published : AssignedIsPublished
  pub versions : OwnVersions
  pub peers : OwnPeersAreOfEndpoints
  pub alone : PrivatePostIsAlone
  pub pairs_total : IsTotalOrder pair_cmp
  pub pairs_exact : IsExact pair_cmp
  pub links : CommonLinkExists
  pub unique : UsableIsUnique
  pub apart : UsableNeverOverlap
  pub one_items : ItemsAreUnique
  pub advertised_exact : AdvertisedIsExact
  pub links_exact : CommonLinkIsExact
  pub rests : HomeRestsAsSeen
  pub home_sound : HomeAtRestIsSound

-- the routers of a replayed world have the endpoints that are attached
attached_now : WorldLaws → (w : Parts) → IsReplayed w → AreAttached w
attached_now laws w replayed =
    let found = laws.attached w replayed w.trace [] (sym (append-nil w.trace)) in
    subst AreAttached (laws.one_world w.version w.trace found.0 w found.1 replayed) found.2

pub known_of : WorldLaws → (w : Parts) (r : Member) → IsReplayed w → IsRunning w r → IsSettledByRules w r → IsKnown w r
known_of laws w r replayed runs settled = record {
  routers = λ m there. (All-contains (IsSoundMember w.moment) w.members m (laws.sound w replayed) there).router;
  attached = λ m there. All-contains IsAttachedMember w.members m (attached_now laws w replayed) there;
  network = laws.network;
  entries = laws.entries;
  runs = runs;
  settled = settled;
}

sound_case : BridgeLaws → (w : Parts) (r : Member) (usable : List Delegated) → IsCase w r usable → IsQuietByRules w r → IsSoundByRules w r
sound_case laws w r usable case quiet =
    let is_sound : home.IsSoundHome (home_of w r usable) =
    laws.home_sound (home_of w r usable) (is_home w r usable case quiet) (laws.rests (home_of w r usable) (rests_as_seen w r usable case quiet)) in
    record {
      inside = inside w r usable case quiet laws.advertised_exact is_sound;
      each_link = each_link w r usable case quiet laws.advertised_exact is_sound;
      links_apart = links_apart w r usable case quiet laws.advertised_exact is_sound;
      one_elected = λ letter place. one_elected w r usable case laws.one_items laws.links_exact letter (Joint place);
    }

-- a settled router with what it uses
case_of : BridgeLaws → (w : Parts) (r : Member) (usable : List Delegated) → IsKnown w r → AreUsable (seen_by r.router) usable → IsCase w r usable
case_of laws w r usable known are = record {
  known = known;
  are_usable = are;
  unique = laws.unique;
  apart = laws.apart;
  published = laws.published;
  versions = laws.versions;
  peers = laws.peers;
  alone = laws.alone;
  pairs_total = laws.pairs_total;
  pairs_exact = laws.pairs_exact;
  links = laws.links;
}

pub sound_where_quiet : BridgeLaws → SettledAndQuietIsSound
sound_where_quiet laws w r replayed runs settled quiet =
    let known = known_of laws.worlds w r replayed runs settled in
    let rest = quiet r (itself w r known) in
    sound_case laws w r rest.usable (case_of laws w r rest.usable known rest.are_usable) quiet

pub elect_where_settled : BridgeLaws → UsableExists → ReplayedElectAlike
elect_where_settled laws exists w replayed r runs settled letter place =
    let (usable, are) = exists (seen_by r.router) in
    one_elected w r usable (case_of laws w r usable (known_of laws.worlds w r replayed runs settled) are) laws.one_items laws.links_exact letter (Joint place)

pub alike_where_settled : UsableIsUnique → WorldLaws → SetIsSoundAlike
alike_where_settled unique laws w r replayed runs settled = sound_alike unique w r (known_of laws w r replayed runs settled)
