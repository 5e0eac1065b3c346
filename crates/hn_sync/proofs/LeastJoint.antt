-- The least endpoints by which two routers are joined.
use Rattle.hn_base.proofs.Names.{◌≡◌, ◌∙◌, ℕ, Bool, true, false, List, Option, Some, None, Contains, ap, refl, arith, option_map_or, eqb-true, eq-eqb}
use Rattle.hn_sync.proofs.Names.{◌==◌, ◌&&◌, EpId, NodeId, found_passes, Port, has_peer, ArePorts, is_port, port_at, State, Member, link_of, HasPeerAt, AreLeast, joint_of}
use Rattle.hn_sync.specs.Joined.{AreJoined, has_peer_at, are_joined}
use Rattle.hn_sync.specs.Laws.{JointIsLeast, NoJointWhereNoneJoined}
use Rattle.hn_sync.proofs.LeastPair.{Passes, same_endpoint, no_joint, joint_passes, joint_is_first}

-- ---- what the tests say

both : (p q : Bool) → (p && q) ≡ true → (p ≡ true) × (q ≡ true)
both true q h = (refl, h)
both false q h = absurd (cc)

peer_from : (s : State) (e : EpId) (node : NodeId) (f : EpId) → has_peer_at s e node f ≡ true → HasPeerAt s e node f
peer_from s e node f h = by_port (port_at e s.ports) refl h
  where
    by_port : (o : Option Port) → port_at e s.ports ≡ o → option_map_or (λ port. has_peer node f port.peers) o false ≡ true → HasPeerAt s e node f
    by_port None is none = absurd (cc)
    by_port (Some port) is peer = record { port = port; is_port = is; peer = peer }

pub peer_to : (s : State) (e : EpId) (node : NodeId) (f : EpId) → HasPeerAt s e node f → has_peer_at s e node f ≡ true
peer_to s e node f h = ap (λ (o : Option Port). option_map_or (λ port. has_peer node f port.peers) o false) h.is_port ∙ h.peer

module _ (a b : Member) (e f : EpId) where
  abbrev on_one_link : Option ℕ → Option ℕ → Bool
  on_one_link here there = option_map_or (λ link. option_map_or (λ l. l == link) there false) here false

  joined_from : are_joined a e b f ≡ true → AreJoined a e b f
  joined_from h =
      let last = both (on_one_link (link_of e a) (link_of f b) && has_peer_at a.router e b.router.id f) (has_peer_at b.router f a.router.id e) h in
      let first = both (on_one_link (link_of e a) (link_of f b)) (has_peer_at a.router e b.router.id f) last.0 in
      by_links (link_of e a) (link_of f b) refl refl first.0 (peer_from a.router e b.router.id f first.1) (peer_from b.router f a.router.id e last.1)
    where
      by_links : (here there : Option ℕ) → link_of e a ≡ here → link_of f b ≡ there → on_one_link here there ≡ true
          → HasPeerAt a.router e b.router.id f → HasPeerAt b.router f a.router.id e → AreJoined a e b f
      by_links None there is_here is_there same one other = absurd (cc)
      by_links (Some link) None is_here is_there same one other = absurd (cc)
      by_links (Some link) (Some l) is_here is_there same one other =
          record { link = link; here = is_here; there = is_there ∙ ap Some (eqb-true l link same); of_one = one; of_other = other }

  joined_to : AreJoined a e b f → are_joined a e b f ≡ true
  joined_to h =
      let here : on_one_link (link_of e a) (link_of f b) ≡ (h.link == h.link) = (λ i. on_one_link (h.here i) (h.there i)) in
      let links : on_one_link (link_of e a) (link_of f b) ≡ true = here ∙ eq-eqb h.link h.link refl in
      let one = peer_to a.router e b.router.id f h.of_one in
      let other = peer_to b.router f a.router.id e h.of_other in
      λ i. (links i && one i) && other i

-- ---- the endpoints of the two

abbrev id_of : Port → EpId
id_of port = port.id

abbrev Pair : Member → Member → EpId → EpId → Type 0
Pair a b e f = Passes id_of (λ x y. are_joined a x b y) a.router.ports b.router.ports e f

pub port_there : (e : EpId) (ports : List Port) (port : Port) → port_at e ports ≡ Some port → Contains ports port × (port.id ≡ e)
port_there e ports port is =
    let passes = found_passes (is_port e) ports port is in
    (passes.0, same_endpoint port.id e (eqb-true port.id.0 e.0 passes.1))

pair_from : (a b : Member) (e f : EpId) → AreJoined a e b f → Pair a b e f
pair_from a b e f h =
    let one = port_there e a.router.ports h.of_one.port h.of_one.is_port in
    let other = port_there f b.router.ports h.of_other.port h.of_other.is_port in
    record { x = h.of_one.port; y = h.of_other.port; here = one.0; there = other.0; is_one = one.1; is_other = other.1; passes = joined_to a b e f h }

-- ---- the least

pub least_from : (a b : Member) (e f : EpId) → ArePorts a.router.ports → ArePorts b.router.ports → joint_of a b ≡ Some (e, f) → AreLeast a e b f
least_from a b e f up_a up_b is =
    let pair = joint_passes id_of (λ x y. are_joined a x b y) a.router.ports b.router.ports e f is in
    record {
      joined = joined_from a b e f pair.passes;
      least = λ x y joined. joint_is_first id_of (λ u v. are_joined a u b v) a.router.ports b.router.ports e f x y up_a.ascending up_b.ascending is (pair_from a b x y joined);
    }

-- two least pairs are one
pub least_is_one : (a b : Member) (e f x y : EpId) → AreLeast a e b f → AreLeast a x b y → (e ≡ x) × (f ≡ y)
least_is_one a b e f x y h k =
    let one = h.least x y k.joined in
    let other = k.least e f h.joined in
    (same_endpoint e x (omega (arith, one, other)), same_endpoint f y (omega (arith, one, other)))

none_joined : (a b : Member) → joint_of a b ≡ None → (e f : EpId) → ¬ (AreJoined a e b f)
none_joined a b none e f joined = no_joint id_of (λ x y. are_joined a x b y) a.router.ports b.router.ports none e f (pair_from a b e f joined)

pub joint_is : (a b : Member) (e f : EpId) → ArePorts a.router.ports → ArePorts b.router.ports → AreLeast a e b f → joint_of a b ≡ Some (e, f)
joint_is a b e f up_a up_b least = by_joint (joint_of a b) refl
  where
    by_joint : (o : Option (EpId × EpId)) → joint_of a b ≡ o → joint_of a b ≡ Some (e, f)
    by_joint None is = absurd (none_joined a b is e f least.joined)
    by_joint (Some (x, y)) is =
        let same = least_is_one a b x y e f (least_from a b x y up_a up_b is) least in
        is ∙ (λ i. Some (same.0 i, same.1 i))

pub is_least : JointIsLeast
is_least a b e f up_a up_b = (least_from a b e f up_a up_b, joint_is a b e f up_a up_b)

pub is_none : NoJointWhereNoneJoined
is_none a b up_a up_b = (none_joined a b, λ apart. by_joint apart (joint_of a b) refl)
  where
    by_joint : ((e f : EpId) → ¬ (AreJoined a e b f)) → (o : Option (EpId × EpId)) → joint_of a b ≡ o → joint_of a b ≡ None
    by_joint apart None is = is
    by_joint apart (Some (x, y)) is = absurd (apart x y (least_from a b x y up_a up_b is).joined)
