-- The home of a settled set: its posts on links, and its assignments.
use Rattle.hn_base.proofs.Names.{◌≡◌, ◌≢◌, ◌∙◌, ◌<◌, ◌^◌, ◌+◌, ◌*◌, ℕ, Bool, List, [], ◌++◌, Option, Some, None, IsSome, Contains, IsTrue, filter, map, not, inl, inr, refl, sym, ap, subst, arith}
use Rattle.hn_base.proofs.Names.{option_map, option_map_or, filter_map, flat_map, and_from, and_parts, eqb-true, eq-eqb, All-contains, Contains-append_left, Contains-append_right}
use Rattle.hn_base.proofs.Names.{Contains-append_cases, same_Some, PlainPrefix}
use Rattle.hn_audit.proofs.Names.{◌==◌, find, Contains-head, Contains-one, Contains-map, Contains-from_map, nothing_in, same_node, same_id, NodeId, EpId, Assigned, Delegated, prefixes_of, Port}
use Rattle.hn_audit.proofs.Names.{endpoints_of, is_attached, length_at, posts_of, private_posts, IsRouter, Endpoint, EndpointHasAssignment, Attachment, Member, Parts, is_of, link_of, IsAttachedMember}
use Rattle.hn_audit.proofs.Names.{IsReached, runs_as, Link, Joint, Private, IsPostOn, in_filter, from_filter, in_filter_map, from_filter_map, found_passes, one_of_apart}
use Rattle.hn_base.proofs.Keys.{id_is_found, found_is_id}
use Rattle.hn_own.specs.Posts.{private_post}
use Rattle.hn_sound.specs.Home.{Home, Held}
use Rattle.hn_audit.specs.Sound as said
use Rattle.hn_base.proofs.Elements.{passing_found}
use Rattle.hn_audit.proofs.ElementsOfLists.{in_flat_map, from_flat_map}
use Rattle.hn_audit.proofs.BridgeSets.{IsKnown, one_member}
use Rattle.hn_audit.proofs.BridgeUsed.{is_unwanted}

-- ---- the attachments of a router

-- the attachment of an endpoint that is on a link
pub record IsAttachedBy (m : Member) (e : EpId) (link : ℕ) (a : Attachment) : Type 0 where
  pub there : Contains m.attachments a
  pub of_endpoint : a.endpoint ≡ e
  pub to_link : a.link ≡ link

pub attached_by : (m : Member) (e : EpId) (link : ℕ) → link_of e m ≡ Some link → (a : Attachment) × IsAttachedBy m e link a
attached_by m e link is = go (find (is_of e) m.attachments) refl is
  where
    go : (o : Option Attachment) → find (is_of e) m.attachments ≡ o → option_map (λ (a : Attachment). a.link) o ≡ Some link → (a : Attachment) × IsAttachedBy m e link a
    go None found is = absurd cc
    go (Some a) found is =
        let passes = found_passes (is_of e) m.attachments a found in
        (a, record { there = passes.0; of_endpoint = same_id a.endpoint e (eqb-true a.endpoint.0 e.0 passes.1); to_link = same_Some a.link link is })

-- an endpoint that is on a link is one of the router's, and attached
on_link_is_port : (m : Member) (e : EpId) (link : ℕ) → IsAttachedMember m → 0 < e.0 → link_of e m ≡ Some link → Contains (endpoints_of m.router.ports) e
on_link_is_port m e link attached positive on =
    let by = attached_by m e link on in
    (attached.endpoints e positive).1 (subst (Contains (map (λ (a : Attachment). a.endpoint) m.attachments)) by.1.of_endpoint
    (Contains-map (λ (a : Attachment). a.endpoint) m.attachments by.0 by.1.there))

pub on_link_is_attached : (m : Member) (e : EpId) (link : ℕ) → IsAttachedMember m → 0 < e.0 → link_of e m ≡ Some link → IsTrue (is_attached e m.router.ports)
on_link_is_attached m e link attached positive on = id_is_found (λ (p : Port). p.id) m.router.ports e (on_link_is_port m e link attached positive on)

-- endpoints are numbered from 1
pub port_is_numbered : (m : Member) (e : EpId) → IsRouter m.router → Contains (endpoints_of m.router.ports) e → 0 < e.0
port_is_numbered m e router there =
    let from = Contains-from_map (λ (p : Port). p.id) m.router.ports e there in
    subst (λ (id : EpId). 0 < id.0) from.2 (All-contains (λ (p : Port). (0 < p.id.0) × (p.id.0 < 2 ^ 32)) m.router.ports from.0 router.well.ports.numbered from.1).0

-- an attached endpoint is one of the router's
attached_is_port : (m : Member) (e : EpId) → IsTrue (is_attached e m.router.ports) → Contains (endpoints_of m.router.ports) e
attached_is_port m e attached = found_is_id (λ (p : Port). p.id) m.router.ports e attached

-- ---- posts on links

-- the post of a private link is one
private_is_there : (private : Option ℕ) → IsSome private → Contains (private_posts private) private_post
private_is_there (Some length) some = Contains-head private_post []
private_is_there None some = absurd cc

-- and where there is one, the router has such a link
there_is_private : (private : Option ℕ) (e : EpId) → Contains (private_posts private) e → (e ≡ private_post) × IsSome private
there_is_private (Some length) e there = (sym (Contains-one private_post e there), refl)
there_is_private None e there = absurd (nothing_in e there)

-- a post that is on a link is one of the router's
pub on_link_is_post : (link : Link) (m : Member) (e : EpId) → IsPostOn link m e → Contains (posts_of m.router.private m.router.ports) e
on_link_is_post (Joint place) m e on = Contains-append_right (private_posts m.router.private) (endpoints_of m.router.ports) e (attached_is_port m e on.0)
on_link_is_post (Private n) m e on =
    Contains-append_left (private_posts m.router.private) (endpoints_of m.router.ports) e (subst (Contains (private_posts m.router.private)) (sym on.1) (private_is_there m.router.private on.2))

-- the private post is not attached
not_both : (m n : Member) (e : EpId) (place : ℕ) → IsRouter m.router → IsPostOn (Joint place) m e → IsPostOn (Private n) m e → ⊥
not_both m n e place router joint own =
    let positive : 0 < e.0 = port_is_numbered m e router (attached_is_port m e joint.0) in
    let zero : e.0 ≡ 0 = ap (λ (x : EpId). x.0) own.1 in
    omega arith

-- a post is on one link
pub one_link_of : (a b : Link) (m : Member) (e : EpId) → IsRouter m.router → IsPostOn a m e → IsPostOn b m e → a ≡ b
one_link_of (Joint place) (Joint other) m e router one two = ap Joint (same_Some place other (sym one.1 ∙ two.1))
one_link_of (Joint place) (Private n) m e router one two = absurd (not_both m n e place router one two)
one_link_of (Private n) (Joint place) m e router one two = absurd (not_both m n e place router two one)
one_link_of (Private n) (Private k) m e router one two = ap Private (sym one.0 ∙ two.0)

-- no two posts of a router are on one link
pub one_on_link : (link : Link) (m : Member) (e f : EpId) → IsAttachedMember m → IsPostOn link m e → IsPostOn link m f → e ≡ f
one_on_link (Private n) m e f attached e_on f_on = e_on.1 ∙ sym f_on.1
one_on_link (Joint place) m e f attached e_on f_on =
    let a = attached_by m e place e_on.1 in
    let b = attached_by m f place f_on.1 in
    let one : a.0.link ≡ b.0.link = a.1.to_link ∙ sym b.1.to_link in
    let same : a.0 ≡ b.0 =
    one_of_apart (λ (x y : Attachment). x.link ≢ y.link) m.attachments attached.apart a.0 b.0 a.1.there b.1.there (λ differ. differ one) (λ differ. differ (sym one)) in
    sym a.1.of_endpoint ∙ (ap (λ (x : Attachment). x.endpoint) same ∙ b.1.of_endpoint)

-- ---- the home

-- the routers of the set
abbrev pub set_of : Parts → Member → List Member
set_of w r = flat_map (λ (id : NodeId). filter (runs_as id) w.members) r.router.reach

-- the number of a link in the home: even for those of the world, odd for private ones
abbrev pub number_of : Link → ℕ
number_of (Joint place) = 2 * place
number_of (Private m) = 2 * m.router.id.0 + 1

-- a post of a router, on a link
abbrev pub end_on : Link → Member → EpId → Endpoint
end_on link m e = record { node = m.router.id; id = e; link = number_of link }

-- the endpoint of a router, where it is on a link
abbrev pub end_at : Member → EpId → Option Endpoint
end_at m e = option_map (λ link. end_on (Joint link) m e) (link_of e m)

-- the posts and the assignments of a router
abbrev pub ends_of : Member → List Endpoint
ends_of m = map (end_on (Private m) m) (private_posts m.router.private) ++ filter_map (end_at m) (endpoints_of m.router.ports)

abbrev pub held_of : Member → List Held
held_of m = map (λ (c : Assigned). record { node = m.router.id; assigned = c }) m.router.held.assigned

-- whether a router has that identifier
abbrev pub has_id : NodeId → Member → Bool
has_id id m = m.router.id.0 == id.0

-- the length of the prefixes that a post gets, by the router of its identifier
abbrev pub length_in : List Member → Endpoint → ℕ
length_in set x = option_map_or (λ m. length_at m.router.private x.id) (find (has_id x.node) set) 64

-- the home of a set that uses these delegated prefixes
abbrev pub home_of : Parts → Member → List Delegated → Home
home_of w r usable = record {
  endpoints = flat_map ends_of (set_of w r);
  length = length_in (set_of w r);
  used = prefixes_of usable;
  wants = λ node d. not (is_unwanted usable d);
  assignments = flat_map held_of (set_of w r);
}

-- a post of a router of the set
pub record IsEndOf (w : Parts) (r m : Member) (x : Endpoint) : Type 0 where
  pub reached : IsReached w r m
  pub of_node : x.node ≡ m.router.id
  pub link : Link
  pub on_link : IsPostOn link m x.id
  pub number : x.link ≡ number_of link

module _ (w : Parts) (r : Member) (known : IsKnown w r) where
  pub in_set : (m : Member) → IsReached w r m → Contains (set_of w r) m
  in_set m reached =
      in_flat_map (λ (id : NodeId). filter (runs_as id) w.members) r.router.reach m.router.id m reached.reached
      (in_filter (runs_as m.router.id) w.members m reached.runs.there (and_from m.running _ reached.runs.running (eq-eqb m.router.id.0 m.router.id.0 refl)))

  pub of_set : (m : Member) → Contains (set_of w r) m → IsReached w r m
  of_set m there =
      let found = from_flat_map (λ (id : NodeId). filter (runs_as id) w.members) r.router.reach m there in
      let passes = from_filter (runs_as found.0) w.members m found.2 in
      let is = and_parts m.running _ passes.1 in
      let same : found.0 ≡ m.router.id = sym (same_node m.router.id found.0 (eqb-true m.router.id.0 found.0.0 is.1)) in
      record { runs = record { there = passes.0; running = is.0 }; reached = subst (Contains r.router.reach) same found.1 }

  -- ---- its links

  -- links with posts in the set that have one number are one
  pub same_link : (a b : Link) (m n : Member) (e f : EpId) → IsReached w r m → IsReached w r n → IsPostOn a m e → IsPostOn b n f → number_of a ≡ number_of b → a ≡ b
  same_link (Joint place) (Joint other) m n e f m_in n_in one two is = let same : place ≡ other = omega arith in ap Joint same
  same_link (Joint place) (Private k) m n e f m_in n_in one two is = absurd (omega arith)
  same_link (Private k) (Joint place) m n e f m_in n_in one two is = absurd (omega arith)
  same_link (Private k) (Private l) m n e f m_in n_in one two is =
      let number : k.router.id.0 ≡ l.router.id.0 = omega arith in
      let id : m.router.id ≡ n.router.id = ap (λ (x : Member). x.router.id) one.0 ∙ same_node k.router.id l.router.id number ∙ ap (λ (x : Member). x.router.id) (sym two.0) in
      ap Private (sym one.0 ∙ one_member w r known m n m_in n_in id ∙ two.0)

  -- ---- its posts

  pub to_end : (usable : List Delegated) (link : Link) (m : Member) (e : EpId) → IsReached w r m → IsPostOn link m e
      → Contains (home_of w r usable).endpoints (end_on link m e)
  to_end usable (Joint place) m e reached on =
      in_flat_map ends_of (set_of w r) m (end_on (Joint place) m e) (in_set m reached)
      (Contains-append_right (map (end_on (Private m) m) (private_posts m.router.private)) (filter_map (end_at m) (endpoints_of m.router.ports)) (end_on (Joint place) m e)
      (in_filter_map (end_at m) (endpoints_of m.router.ports) e (end_on (Joint place) m e) (attached_is_port m e on.0) (ap (option_map (λ l. end_on (Joint l) m e)) on.1)))
  to_end usable (Private n) m e reached on =
      let same : end_on (Private m) m private_post ≡ end_on (Private n) m e = λ i. end_on (Private (on.0 i)) m (sym on.1 i) in
      subst (Contains (home_of w r usable).endpoints) same
      (in_flat_map ends_of (set_of w r) m (end_on (Private m) m private_post) (in_set m reached)
      (Contains-append_left (map (end_on (Private m) m) (private_posts m.router.private)) (filter_map (end_at m) (endpoints_of m.router.ports)) (end_on (Private m) m private_post)
      (Contains-map (end_on (Private m) m) (private_posts m.router.private) private_post (private_is_there m.router.private on.2))))

  -- the end of a post is one of its router
  pub an_end : (link : Link) (m : Member) (e : EpId) → IsReached w r m → IsPostOn link m e → IsEndOf w r m (end_on link m e)
  an_end link m e reached on = record { reached = reached; of_node = refl; link = link; on_link = on; number = refl }

  end_found : (m : Member) (e : EpId) (x : Endpoint) → IsReached w r m → Contains (endpoints_of m.router.ports) e → end_at m e ≡ Some x → IsEndOf w r m x
  end_found m e x reached port is = go (link_of e m) refl is
    where
      go : (o : Option ℕ) → link_of e m ≡ o → option_map (λ link. end_on (Joint link) m e) o ≡ Some x → IsEndOf w r m x
      go None at is = absurd cc
      go (Some link) at is =
          let same : end_on (Joint link) m e ≡ x = same_Some (end_on (Joint link) m e) x is in
          subst (IsEndOf w r m) same (an_end (Joint link) m e reached (id_is_found (λ (p : Port). p.id) m.router.ports e port, at))

  of_ends : (m : Member) (x : Endpoint) → IsReached w r m → Contains (ends_of m) x → IsEndOf w r m x
  of_ends m x reached there =
      elim (Contains-append_cases (map (end_on (Private m) m) (private_posts m.router.private)) (filter_map (end_at m) (endpoints_of m.router.ports)) x there) [
        | inl own ↦
            let from = Contains-from_map (end_on (Private m) m) (private_posts m.router.private) x own in
            let is = there_is_private m.router.private from.0 from.1 in
            subst (IsEndOf w r m) from.2 (an_end (Private m) m from.0 reached (refl, is.0, is.1))
        | inr port ↦
            let from = from_filter_map (end_at m) (endpoints_of m.router.ports) x port in
            end_found m from.0 x reached from.1 from.2
      ]

  pub of_end : (usable : List Delegated) (x : Endpoint) → Contains (home_of w r usable).endpoints x → (m : Member) × IsEndOf w r m x
  of_end usable x there =
      let found = from_flat_map ends_of (set_of w r) x there in
      (found.0, of_ends found.0 x (of_set found.0 found.1) found.2)

  -- an end is what is said of it
  end_is : (m : Member) (x : Endpoint) (end : IsEndOf w r m x) → end_on end.link m x.id ≡ x
  end_is m x end = λ i. record { node = sym end.of_node i; id = x.id; link = sym end.number i }

  pub end_there : (usable : List Delegated) (m : Member) (x : Endpoint) → IsEndOf w r m x → Contains (home_of w r usable).endpoints x
  end_there usable m x end = subst (Contains (home_of w r usable).endpoints) (end_is m x end) (to_end usable end.link m x.id end.reached end.on_link)

  -- the length of its prefixes is that of the post
  pub length_is : (m : Member) (x : Endpoint) → IsEndOf w r m x → length_in (set_of w r) x ≡ length_at m.router.private x.id
  length_is m x end =
      let found = passing_found (has_id x.node) (set_of w r) m (in_set m end.reached) (eq-eqb m.router.id.0 x.node.0 (ap (λ (id : NodeId). id.0) (sym end.of_node))) in
      let passes = found_passes (has_id x.node) (set_of w r) found.0 found.1 in
      let id : found.0.router.id ≡ m.router.id = same_node found.0.router.id x.node (eqb-true found.0.router.id.0 x.node.0 passes.1) ∙ end.of_node in
      let same : found.0 ≡ m = one_member w r known found.0 m (of_set found.0 passes.0) end.reached id in
      ap (λ (o : Option Member). option_map_or (λ (n : Member). length_at n.router.private x.id) o 64) (found.1 ∙ ap Some same)

  -- ---- its assignments

  pub to_held : (usable : List Delegated) (m : Member) (c : Assigned) → IsReached w r m → Contains m.router.held.assigned c
      → Contains (home_of w r usable).assignments (record { node = m.router.id; assigned = c })
  to_held usable m c reached there =
      in_flat_map held_of (set_of w r) m (record { node = m.router.id; assigned = c }) (in_set m reached)
      (Contains-map (λ (k : Assigned). record { node = m.router.id; assigned = k }) m.router.held.assigned c there)

  -- the assignment is one of a router of the set
  pub record IsHeldBy (h : Held) (m : Member) : Type 0 where
    pub reached : IsReached w r m
    pub of_node : h.node ≡ m.router.id
    pub held : Contains m.router.held.assigned h.assigned

  pub of_held : (usable : List Delegated) (h : Held) → Contains (home_of w r usable).assignments h → (m : Member) × IsHeldBy h m
  of_held usable h there =
      let found = from_flat_map held_of (set_of w r) h there in
      let from = Contains-from_map (λ (k : Assigned). record { node = found.0.router.id; assigned = k }) found.0.router.held.assigned h found.2 in
      let node : h.node ≡ found.0.router.id = sym (ap (λ (x : Held). x.node) from.2) in
      (found.0, record { reached = of_set found.0 found.1; of_node = node; held = subst (Contains found.0.router.held.assigned) (ap (λ (x : Held). x.assigned) from.2) from.1 })

  -- what a post has is what its router holds for it
  pub to_has : (usable : List Delegated) (m : Member) (x : Endpoint) (d : PlainPrefix) (c : Assigned) → IsEndOf w r m x
      → said.HasAssignment m.router x.id d c → EndpointHasAssignment (home_of w r usable) x d c
  to_has usable m x d c end has = record {
    there = end_there usable m x end;
    held = subst (λ (node : NodeId). Contains (home_of w r usable).assignments (record { node = node; assigned = c })) (sym end.of_node) (to_held usable m c end.reached has.held);
    of_endpoint = has.of_endpoint;
    of_delegated = has.of_delegated;
  }

  pub of_has : (usable : List Delegated) (m : Member) (x : Endpoint) (d : PlainPrefix) (c : Assigned) → IsEndOf w r m x
      → EndpointHasAssignment (home_of w r usable) x d c → said.HasAssignment m.router x.id d c
  of_has usable m x d c end has =
      let by = of_held usable (record { node = x.node; assigned = c }) has.held in
      let same : by.0 ≡ m = one_member w r known by.0 m by.1.reached end.reached (sym by.1.of_node ∙ end.of_node) in
      record {
        held = subst (λ (u : Member). Contains u.router.held.assigned c) same by.1.held;
        of_endpoint = has.of_endpoint;
        of_delegated = has.of_delegated;
      }
