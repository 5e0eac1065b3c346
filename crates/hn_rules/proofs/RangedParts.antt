-- The numbers of what a router has of its own fit, and still do after one part is changed.
use Rattle.hn_base.proofs.Names.{◌<◌, ◌≤◌, ◌+◌, ◌*◌, ◌^◌, ℕ, cond, not, List, [], ◌∷◌, ◌++◌, length, map, filter, get_or, Option, Some, None, sym, subst, ⊎_elim, arith, All, ◌==◌, bytes_eq, cond_both}
use Rattle.hn_base.proofs.Names.{All-nil, All-cons, All-append, All-push, All-filter, All-map, All-weaker, All-contains, Contains-append_cases, IsPrefix}
use Rattle.hn_rules.proofs.Names.{Contains, nat_lt, EpId, NodeId, Contains-from_map, Contains-one, nothing_in, PlainTlv, Assigned, Backoff, Pair, AssignedAreWished, SubroutineKeepsPrefixes}
use Rattle.hn_rules.proofs.Names.{SubroutineKeepsSoon, IsWished, assigned_pair, Neighbour, Port, peers_heard, contacted, is_peer, has_peer, attached_port, OwnPrefix, OwnAddress, has_ended, is_prefix}
use Rattle.hn_rules.proofs.Names.{own_prefix, ArePorts, is_port, put_port, attached, endpoints_of, private_post, posts_of, IsRangedAddress, Running, State, IsRunAssigned, PortChange, Reset, Meet, Ask}
use Rattle.hn_rules.proofs.Names.{Hear, Expire, Move, Begin, port_after, MayChangePort, PrefixChange, Delegate, Withdraw, End, prefixes_after, MayChangePrefixes, Change, ChangePort, ChangePrefixes}
use Rattle.hn_rules.proofs.Names.{PutPairs, ForgetPairs, PutPrivate, PutAddresses, change, IsAllowed, IsAttaching, detaching, IsPrivateLength, IfThere, IsWell, seen_by, IsExpired}
use Rattle.hn_assign.specs.declared.ran.Ran.{Ran}
use Rattle.hn_pair.specs.Facts.{IsSoonDue}
use Rattle.hn_own.specs.Lifetimes.{end_after}
use Rattle.hn_own.specs.OwnPrefixes.{is_before}
use Rattle.hn_own.specs.Posts.{private_posts}
use Rattle.hn_own.specs.Ranges.{IsRangedPeer, IsRangedHeld, IsRangedOwn}
use Rattle.hn_rules.specs.Router.{EndsInRange, IsNear}
use Rattle.hn_rules.proofs.Finding.{find_all, without-all}

-- the numbers of a router
abbrev pub IsRangedState : State → Type 0
IsRangedState s = IsRangedOwn s.ports s.delegated s.held s.addresses × IsPrivateLength s.private × IsNear s.moment s.delegated s.held

pub ranged_from : (s : State) → IsWell s → IsRangedState s
ranged_from s well = (well.ranged, well.private, well.near)

-- ---- an endpoint

abbrev ArePeersRanged : Port → Type 0
ArePeersRanged port = All IsRangedPeer port.peers

heard_ranged : (peer : Neighbour) (peers : List Neighbour) → IsRangedPeer peer → All IsRangedPeer peers → All IsRangedPeer (peers_heard peer peers)
heard_ranged peer peers one all =
    let renewed = map (λ other. cond (is_peer peer.node peer.endpoint other) peer other) peers in
    cond_both (has_peer peer.node peer.endpoint peers) renewed (cond (length peers == 64) peers (peers ++ peer ∷ [])) (All IsRangedPeer)
    (λ _. All-map IsRangedPeer (λ other. cond (is_peer peer.node peer.endpoint other) peer other) peers
    (λ k d within. cond_both (is_peer peer.node peer.endpoint (get_or peers k d)) peer (get_or peers k d) IsRangedPeer (λ _. one) (λ _. all k d within)))
    (λ _. cond_both (length peers == 64) peers (peers ++ peer ∷ []) (All IsRangedPeer) (λ _. all) (λ _. All-push IsRangedPeer peers peer all one))

contacted_ranged : (sender : Option (NodeId × EpId)) (now : ℕ) (peers : List Neighbour) → All IsRangedPeer peers → All IsRangedPeer (contacted sender now peers)
contacted_ranged None now peers all = all
contacted_ranged (Some sender) now peers all =
    All-map IsRangedPeer (λ peer. cond (is_peer sender.0 sender.1 peer) (record peer { contact = now }) peer) peers
    (λ k d within. cond_both (is_peer sender.0 sender.1 (get_or peers k d)) (record (get_or peers k d) { contact = now }) (get_or peers k d) IsRangedPeer
    (λ _. let one = all k d within in record { node = one.node; endpoint = one.endpoint }) (λ _. all k d within))

module _ (tlvs : List PlainTlv) where
  port_ranged : (how : PortChange) (r : Running) (port : Port) → MayChangePort tlvs how r port → ArePeersRanged port → ArePeersRanged (port_after how r port)
  port_ranged (Reset word) r port may all = all
  port_ranged (Meet node endpoint from multicast) r port may all =
      let peer : Neighbour = record { node = node; endpoint = endpoint; contact = r.state.moment; addr = from } in
      let fits = may.said.2.in_range in
      cond_both multicast port.peers (peers_heard peer port.peers) (All IsRangedPeer) (λ _. all) (λ _. heard_ranged peer port.peers (record { node = fits.0; endpoint = fits.1 }) all)
  port_ranged Ask r port may all = all
  port_ranged (Hear hash) r port may all =
      cond_both (bytes_eq hash r.state.net) (contacted r.sender r.state.moment port.peers) port.peers (All IsRangedPeer) (λ _. contacted_ranged r.sender r.state.moment port.peers all) (λ _. all)
  port_ranged (Expire peers) r port may all = without-all (IsExpired r.state) IsRangedPeer port.peers peers may all
  port_ranged (Move words) r port may all = all
  port_ranged (Begin word) r port may all = All-nil IsRangedPeer

ports_put : (port : Port) (ports : List Port) → ArePeersRanged port → All ArePeersRanged ports → All ArePeersRanged (put_port port ports)
ports_put port ports one all =
    All-map ArePeersRanged (λ (p : Port). cond (is_port port.id p) port p) ports
    (λ k d within. cond_both (is_port port.id (get_or ports k d)) port (get_or ports k d) ArePeersRanged (λ _. one) (λ _. all k d within))

-- ---- own delegated prefixes

abbrev IsOfPrefix : OwnPrefix → Type 0
IsOfPrefix own = IsPrefix own.prefix

prefixes_ranged : (how : PrefixChange) (s : State) → MayChangePrefixes how s → All IsOfPrefix s.delegated → All IsOfPrefix (prefixes_after how s)
prefixes_ranged (Delegate prefix valid preferred) s (fits, may) all =
    let own : OwnPrefix = own_prefix s.moment prefix valid preferred in
    let before = λ (p : OwnPrefix). is_before p.prefix own.prefix in
    let behind = λ (p : OwnPrefix). is_before own.prefix p.prefix in
    All-append IsOfPrefix (filter before s.delegated) (own ∷ filter behind s.delegated) (All-filter before IsOfPrefix s.delegated all)
    (All-cons IsOfPrefix own (filter behind s.delegated) fits.prefix_is (All-filter behind IsOfPrefix s.delegated all))
prefixes_ranged (Withdraw prefix) s may all = All-filter (λ (p : OwnPrefix). not (is_prefix prefix p)) IsOfPrefix s.delegated all
prefixes_ranged End s may all = All-filter (λ (p : OwnPrefix). not (has_ended s.moment p.valid_until)) IsOfPrefix s.delegated all

-- ---- when their lifetimes end

end_near : (now seconds : ℕ) → seconds < 2 ^ 32 → IfThere (λ moment. moment ≤ now + 1000 * 2 ^ 32) (end_after now seconds)
end_near now seconds fits =
    cond_both (seconds == 4294967295) None (Some (now + 1000 * seconds)) (IfThere (λ moment. moment ≤ now + 1000 * 2 ^ 32)) (λ _. tt) (λ _. omega arith)

prefixes_near : (how : PrefixChange) (s : State) → MayChangePrefixes how s → All (EndsInRange s.moment) s.delegated → All (EndsInRange s.moment) (prefixes_after how s)
prefixes_near (Delegate prefix valid preferred) s (fits, may) all =
    let own : OwnPrefix = own_prefix s.moment prefix valid preferred in
    let before = λ (p : OwnPrefix). is_before p.prefix own.prefix in
    let behind = λ (p : OwnPrefix). is_before own.prefix p.prefix in
    let one : EndsInRange s.moment own = record { valid = end_near s.moment valid fits.valid_fits; preferred = end_near s.moment preferred fits.preferred_fits } in
    All-append (EndsInRange s.moment) (filter before s.delegated) (own ∷ filter behind s.delegated) (All-filter before (EndsInRange s.moment) s.delegated all)
    (All-cons (EndsInRange s.moment) own (filter behind s.delegated) one (All-filter behind (EndsInRange s.moment) s.delegated all))
prefixes_near (Withdraw prefix) s may all = All-filter (λ (p : OwnPrefix). not (is_prefix prefix p)) (EndsInRange s.moment) s.delegated all
prefixes_near End s may all = All-filter (λ (p : OwnPrefix). not (has_ended s.moment p.valid_until)) (EndsInRange s.moment) s.delegated all

-- while time passes they stay near
near_there : (moment now : ℕ) (o : Option ℕ) → moment ≤ now → IfThere (λ m. m ≤ moment + 1000 * 2 ^ 32) o → IfThere (λ m. m ≤ now + 1000 * 2 ^ 32) o
near_there moment now None rises near = tt
near_there moment now (Some m) rises near = omega arith

pub ranged_later : (now : ℕ) (s : State) → s.moment ≤ now → IsRangedState s → IsRangedState (record s { moment = now })
ranged_later now s rises (own, private, near) =
    let later : IsNear now s.delegated s.held = record {
      backoffs = All-weaker (IsSoonDue s.moment) (IsSoonDue now) (λ b soon. omega arith) s.held.backoffs near.backoffs;
      ends = All-weaker (EndsInRange s.moment) (EndsInRange now)
          (λ p ends. record { valid = near_there s.moment now p.valid_until rises ends.valid; preferred = near_there s.moment now p.preferred_until rises ends.preferred }) s.delegated near.ends;
    } in
    (own, private, later)

-- ---- assignments

-- a post has a number of 4 bytes
private_fits : (private : Option ℕ) (e : EpId) → Contains (private_posts private) e → e.0 < 2 ^ 32
private_fits None e there = absurd (nothing_in e there)
private_fits (Some bits) e there = subst (λ (x : EpId). x.0 < 2 ^ 32) (Contains-one private_post e there) (omega arith)

endpoint_fits : (ports : List Port) (e : EpId) → ArePorts ports → Contains (endpoints_of ports) e → e.0 < 2 ^ 32
endpoint_fits ports e are there =
    let from = Contains-from_map (λ (p : Port). p.id) ports e there in
    let number = All-contains (λ (p : Port). (0 < p.id.0) × (p.id.0 < 2 ^ 32)) ports from.0 are.numbered from.1 in
    subst (λ (x : EpId). x.0 < 2 ^ 32) from.2 number.1

post_fits : (private : Option ℕ) (ports : List Port) (e : EpId) → ArePorts ports → Contains (posts_of private ports) e → e.0 < 2 ^ 32
post_fits private ports e are there =
    ⊎_elim (private_fits private e) (endpoint_fits ports e are) (Contains-append_cases (private_posts private) (endpoints_of ports) e there)

-- the laws of the subroutine on which it rests
pub record AssignedLaws : Type 0 where
  pub prefix : SubroutineKeepsPrefixes
  pub wished : AssignedAreWished
  pub soon : SubroutineKeepsSoon

assigned_ranged : AssignedLaws → (s : State) (ran : Ran) → IsRunAssigned s ran → ArePorts s.ports → All IsRangedHeld s.held.assigned → All IsRangedHeld ran.held.assigned
assigned_ranged laws s ran is ports all =
    let prefixes = laws.prefix (seen_by s) is.wishes s.held ran is.is_subroutine (All-weaker IsRangedHeld (λ c. IsPrefix c.prefix) (λ c one. one.prefix) s.held.assigned all) in
    let wished = laws.wished (seen_by s) is.wishes s.held ran is.is_subroutine in
    λ k d within. record { endpoint = fits (get_or ran.held.assigned k d) (wished k d within); prefix = prefixes k d within }
  where
    fits : (c : Assigned) → IsWished is.wishes (assigned_pair c) → c.endpoint.0 < 2 ^ 32
    fits c (wish, there, pair) =
        let post = ((is.are_asked.exact wish).0 there).post in
        subst (λ (p : Pair). p.endpoint.0 < 2 ^ 32) pair (post_fits s.private s.ports wish.endpoint ports post)

-- ---- each change

pub each_ranged : AssignedLaws → (tlvs : List PlainTlv) (c : Change) (r : Running) → IsAllowed tlvs c r → ArePorts r.state.ports → IsRangedState r.state → IsRangedState (change c r).state
each_ranged laws tlvs (ChangePort port how) r (here, may) ports (own, private, near) =
    let one = port_ranged tlvs how r port may (find_all ArePeersRanged (is_port port.id) r.state.ports port own.peers here) in
    (record { peers = ports_put (port_after how r port) r.state.ports one own.peers; delegated = own.delegated; assigned = own.assigned; addresses = own.addresses }, private, near)
each_ranged laws tlvs (ChangePrefixes how) r may ports (own, private, near) =
    let ends = prefixes_near how r.state may near.ends in (
      record { peers = own.peers; delegated = prefixes_ranged how r.state may own.delegated; assigned = own.assigned; addresses = own.addresses },
      private,
      record { backoffs = near.backoffs; ends = ends },
    )
each_ranged laws tlvs (PutPairs ran) r is ports (own, private, near) =
    let soon = laws.soon (seen_by r.state) is.wishes r.state.held ran is.is_subroutine near.backoffs in (
      record { peers = own.peers; delegated = own.delegated; assigned = assigned_ranged laws r.state ran is ports own.assigned; addresses = own.addresses },
      private,
      record { backoffs = soon; ends = near.ends },
    )
each_ranged laws tlvs ForgetPairs r may ports (own, private, near) = (
  record { peers = own.peers; delegated = own.delegated; assigned = All-nil IsRangedHeld; addresses = own.addresses },
  private,
  record { backoffs = All-nil (IsSoonDue r.state.moment); ends = near.ends },
)
each_ranged laws tlvs (PutPrivate bits) r fits ports (own, private, near) =
    let stays = λ (c : Assigned). not (c.endpoint.0 == 0) in
    let waits = λ (b : Backoff). not (b.endpoint.0 == 0) in (
      record { peers = own.peers; delegated = own.delegated; assigned = All-filter stays IsRangedHeld r.state.held.assigned own.assigned; addresses = own.addresses },
      fits,
      record { backoffs = All-filter waits (IsSoonDue r.state.moment) r.state.held.backoffs near.backoffs; ends = near.ends },
    )
each_ranged laws tlvs (PutAddresses list) r (fit, may) ports (own, private, near) =
    (record { peers = own.peers; delegated = own.delegated; assigned = own.assigned; addresses = fit }, private, near)
each_ranged laws tlvs _ r may ports ranged = ranged

-- ---- endpoints come and go

pub ranged_attaching : (at : EpId) (r a : Running) → IsAttaching at r a → IsRangedState r.state → IsRangedState a.state
ranged_attaching at r a is (own, private, near) =
    subst (λ (x : Running). IsRangedState x.state) (sym is.gives)
    (record { peers = peers; delegated = own.delegated; assigned = own.assigned; addresses = own.addresses }, private, near)
  where
    port : Port
    port = attached_port at r.state.moment is.word

    peers : All ArePeersRanged (attached port r.state.ports)
    peers =
        let lower = λ (p : Port). nat_lt p.id.0 port.id.0 in
        let greater = λ (p : Port). nat_lt port.id.0 p.id.0 in
        All-append ArePeersRanged (filter lower r.state.ports) (port ∷ filter greater r.state.ports) (All-filter lower ArePeersRanged r.state.ports own.peers)
        (All-cons ArePeersRanged port (filter greater r.state.ports) (All-nil IsRangedPeer) (All-filter greater ArePeersRanged r.state.ports own.peers))

pub ranged_detaching : (at : EpId) (r : Running) → IsRangedState r.state → IsRangedState (detaching at r).state
ranged_detaching at r (own, private, near) = (
  record {
    peers = All-filter (λ (p : Port). not (is_port at p)) ArePeersRanged r.state.ports own.peers;
    delegated = own.delegated;
    assigned = own.assigned;
    addresses = All-filter (λ (a : OwnAddress). not (a.0.0 == at.0)) IsRangedAddress r.state.addresses own.addresses;
  },
  private,
  near,
)
