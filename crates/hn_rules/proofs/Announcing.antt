-- Two routers that say the same of their peers and of their own delegated prefixes, at whatever moments they published it,
-- and that hold the same: they reach the same nodes, and see the same announced.
use Rattle.hn_base.proofs.Names.{◌≡◌, ◌≢◌, ◌∙◌, ◌⊎◌, ◌-◌, ◌<◌, ℕ, List, ◌∷◌, filter, nat_lt, Option, Some, None, inl, inr, refl, sym, ap, subst, arith, ◌==◌, option_map, nat_cmp, cases_eq, cases_lt}
use Rattle.hn_base.proofs.Names.{eq-eqb, eqb-true, lt-ltb, nat_cmp_total, Contains-append_left, Contains-append_right, same_Some, PlainPrefix}
use Rattle.hn_rules.proofs.Names.{Contains, Contains-tail, Contains-map, sorted_parts, found_passes, in_filter, in_filter_map, from_filter_map, passing_found, same_node, one_of_ascending, NodeId}
use Rattle.hn_rules.proofs.Names.{HasPeer, Delegation, PeerLink, Entry, IsPreferred, remaining, IsAnnouncedPrefix, IsReachable, seconds_left, OwnPrefix, HeldIsOfAnEntry, held, HeldNode, Stored, State}
use Rattle.hn_rules.proofs.Names.{held_entry, own_entry, held_entries, nodes_of, entry_of, view_of, IsJustRefreshed, IsWell, IsRouter, seen_by}
use Rattle.hn_deleg.specs.Live.{IsAnnounced}
use Rattle.hn_graph.specs.Following.{SaysAsMuch, SayAsMuch, ReachabilityFollows}
use Rattle.hn_rules.proofs.Entries.{entry_own, entry_other, entry_held}
use Rattle.hn_rules.proofs.LawDelegated.{DelegationLaws, said_too}
use Rattle.hn_rules.proofs.LawPublished.{peer_from, peer_in}
use Rattle.hn_rules.proofs.LawSaid.{own_version}
use Rattle.hn_rules.proofs.RefreshChangesNothing.{own_there, own_or_held}

-- ---- what a router knows of a node of its table

module _ (s : State) (well : IsWell s) where
  held_there : (node : HeldNode) → Contains s.table.entries node → held s.table.entries node.id.0 ≡ Some node.stored
  held_there node there =
      let test = λ (n : HeldNode). n.id.0 == node.id.0 in
      let found = passing_found test s.table.entries node there (eq-eqb node.id.0 node.id.0 refl) in
      let passes = found_passes test s.table.entries found.0 found.1 in
      let up = (sorted_parts (λ (n : HeldNode). n.id.0) nat_cmp s.table.entries).1 well.table.ascending in
      let same : found.0 ≡ node = one_of_ascending (λ (n : HeldNode). n.id.0) nat_cmp nat_cmp_total s.table.entries up found.0 node passes.0 there (eqb-true (found.0).id.0 node.id.0 passes.1) in
      ap (option_map (λ (n : HeldNode). n.stored)) (found.1 ∙ ap Some same)

  other_there : (node : HeldNode) → Contains s.table.entries node → node.id.0 ≢ s.id.0
  other_there node there own =
      let holds = held_there node there in
      let nobody : held s.table.entries node.id.0 ≡ None = ap (held s.table.entries) own ∙ well.other in
      absurd cc

  entry_there : (node : HeldNode) → Contains s.table.entries node → entry_of s node.id ≡ Some (held_entry s.moment node)
  entry_there node there = entry_held s node.id node.stored (other_there node there) (held_there node there)

  node_there : (node : HeldNode) → Contains s.table.entries node → Contains (nodes_of s) (held_entry s.moment node)
  node_there node there =
      let n = held_entry s.moment node in
      let lower = λ (x : Entry). nat_lt x.id.0 s.id.0 in
      let greater = λ (x : Entry). nat_lt s.id.0 x.id.0 in
      let holds = Contains-map (held_entry s.moment) s.table.entries node there in
      elim (cases_lt node.id.0 s.id.0) [
        | inl below ↦ Contains-append_left (filter lower (held_entries s)) (own_entry s ∷ filter greater (held_entries s)) n (in_filter lower (held_entries s) n holds (lt-ltb node.id.0 s.id.0 below))
        | inr rest ↦
            let differs = other_there node there in
            let above : s.id.0 < node.id.0 = omega (arith, rest, differs) in
            Contains-append_right (filter lower (held_entries s)) (own_entry s ∷ filter greater (held_entries s)) n
            (Contains-tail (own_entry s) (filter greater (held_entries s)) n (in_filter greater (held_entries s) n holds (lt-ltb s.id.0 node.id.0 above)))
      ]

-- ---- two routers

-- for each node that the one holds, the other holds one that is seen as this
abbrev pub HoldsAsMuch : State → State → Type 0
HoldsAsMuch a b = (node : HeldNode) → Contains a.table.entries node → (other : HeldNode) × Contains b.table.entries other × (held_entry a.moment other ≡ held_entry a.moment node)

pub record AreTwins (a b : State) : Type 0 where
  pub router : IsRouter a
  pub other_router : IsRouter b
  pub fresh : IsJustRefreshed a
  pub other_refreshed : IsJustRefreshed b
  pub id : b.id ≡ a.id
  pub moment : b.moment ≡ a.moment
  pub links : b.own.items.links ≡ a.own.items.links
  pub delegated : b.own.items.delegated ≡ a.own.items.delegated
  pub holds : HoldsAsMuch a b

-- where a lifetime of an own delegated prefix has not ended by the data of the one, it has not by those of the other
abbrev pub Lives : (OwnPrefix → Option ℕ) → State → State → Type 0
Lives end a b =
    (own : OwnPrefix) → Contains a.own.items.delegated own
    → 0 < remaining (a.moment - a.own.born) (seconds_left a.own.born (end own)) → 0 < remaining (b.moment - b.own.born) (seconds_left b.own.born (end own))

pub record AnnouncingLaws : Type 0 where
  pub said : DelegationLaws
  pub known : HeldIsOfAnEntry
  pub follows : ReachabilityFollows

module _ (laws : AnnouncingLaws) (a b : State) (twins : AreTwins a b) where
  peers_too : (link : PeerLink) → HasPeer a.own.body link → HasPeer b.own.body link
  peers_too link said =
      let among = peer_from laws.said.read a.own twins.router.well.own link said in
      peer_in laws.said.read b.own twins.other_router.well.own link (subst (λ (links : List PeerLink). Contains links link) (sym twins.links) among)

  seen_as : (node other : HeldNode) → held_entry a.moment other ≡ held_entry a.moment node → held_entry b.moment other ≡ held_entry a.moment node
  seen_as node other same = ap (λ (now : ℕ). held_entry now other) twins.moment ∙ same

  say : SayAsMuch (nodes_of a) (nodes_of b)
  say x there = elim (own_or_held a a.moment a.moment x there) [
    | inl own ↦
        let young = twins.other_refreshed.young in
        let likes : SaysAsMuch (own_entry a) (own_entry b) = record { id = ap (λ (id : NodeId). id.0) twins.id; peers = peers_too; recent = λ _. omega (arith, young) } in
        (own_entry b, own_there b b.moment, subst (λ (n : Entry). SaysAsMuch n (own_entry b)) (sym own) likes)
    | inr (node, holds, is, _) ↦
        let (other, also, same) = twins.holds node holds in
        let seen : x ≡ held_entry b.moment other = sym (seen_as node other same ∙ is) in
        (held_entry b.moment other, node_there b twins.other_router.well other also, subst (SaysAsMuch x) seen (record { id = refl; peers = λ link said. said; recent = λ recent. recent }))
  ]

  reached_too : (id : NodeId) → Contains a.reach id → Contains b.reach id
  reached_too id there =
      let reachable = laws.follows a.id.0 (nodes_of a) (nodes_of b) say id.0 ((twins.fresh.reached.exactly id).0 there) in
      (twins.other_refreshed.reached.exactly id).1 (subst (λ (own : NodeId). IsReachable own.0 (nodes_of b) id.0) (sym twins.id) reachable)

  -- what the one sees the other sees; or it is the own node of each
  record IsSeenToo (n : Entry) : Type 0 where
    pub other : Entry
    pub there : Contains (view_of b) other
    pub seen : (other ≡ n) ⊎ ((n ≡ own_entry a) × (other ≡ own_entry b))

  seen_too : (n : Entry) → Contains (view_of a) n → IsSeenToo n
  seen_too n there = by_id (from_filter_map (entry_of a) a.reach n there)
    where
      by_id : (id : NodeId) × Contains a.reach id × (entry_of a id ≡ Some n) → IsSeenToo n
      by_id (id, id_there, is) =
          elim (cases_eq id.0 a.id.0) [
            | inl own ↦
                let n_is : own_entry a ≡ n = same_Some (own_entry a) n (sym (entry_own a id own) ∙ is) in
                let id_is : id.0 ≡ b.id.0 = own ∙ sym (ap (λ (x : NodeId). x.0) twins.id) in
                record { other = own_entry b; there = in_filter_map (entry_of b) b.reach id (own_entry b) (reached_too id id_there) (entry_own b id id_is); seen = inr (sym n_is, refl) }
            | inr differs ↦ by_held (held a.table.entries id.0) refl (sym (entry_other a id differs) ∙ is)
          ]
        where
          by_held : (o : Option Stored) → held a.table.entries id.0 ≡ o → option_map (λ (stored : Stored). held_entry a.moment (record { id = id; stored = stored })) o ≡ Some n → IsSeenToo n
          by_held None holds e = absurd cc
          by_held (Some stored) holds e =
              let n_is : held_entry a.moment (record { id = id; stored = stored }) ≡ n = same_Some _ n e in
              let (node, node_in, node_id, stored_is) = laws.known a.table.entries id.0 stored holds in
              let id_is : node.id ≡ id = same_node node.id id node_id in
              let node_is : held_entry a.moment node ≡ held_entry a.moment (record { id = id; stored = stored }) = λ i. held_entry a.moment (record { id = id_is i; stored = stored_is i }) in
              let (other, also, same) = twins.holds node node_in in
              let seen : held_entry b.moment other ≡ n = seen_as node other same ∙ node_is ∙ n_is in
              let other_id : other.id ≡ id = ap (λ (x : Entry). x.id) same ∙ id_is in
              let entry : entry_of b other.id ≡ Some n = entry_there b twins.other_router.well other also ∙ ap Some seen in
              record { other = n; there = in_filter_map (entry_of b) b.reach other.id n (subst (Contains b.reach) (sym other_id) (reached_too id id_there)) entry; seen = inl refl }

  -- ---- what is announced

  record IsAnnouncedToo (node : Entry) (d : Delegation) : Type 0 where
    pub other : Entry
    pub delegation : Delegation
    pub announced : IsAnnounced (seen_by b) other delegation
    pub prefix : delegation.prefix ≡ d.prefix
    pub preferred : Lives (λ own. own.preferred_until) a b → 0 < remaining node.age d.preferred → 0 < remaining other.age delegation.preferred

  announced_too : Lives (λ own. own.valid_until) a b → (node : Entry) (d : Delegation) → IsAnnounced (seen_by a) node d → IsAnnouncedToo node d
  announced_too lives node d is = by_node (seen_too node is.reachable)
    where
      by_node : IsSeenToo node → IsAnnouncedToo node d
      by_node seen = elim seen.seen [
        | inl same ↦ record {
          other = node;
          delegation = d;
          announced = record { reachable = subst (Contains (view_of b)) same seen.there; version = is.version; said = is.said; live = is.live };
          prefix = refl;
          preferred = λ _ left. left;
        }
        | inr (node_is, other_is) ↦
            let said_a = subst (λ (n : Entry). IsAnnounced (seen_by a) n d) node_is is in
            let too = said_too laws.said a.own b.own twins.router.well.own twins.other_router.well.own twins.delegated d said_a.said in
            let live_a : 0 < remaining (a.moment - a.own.born) (seconds_left a.own.born too.own.valid_until) =
            subst (λ (seconds : ℕ). 0 < remaining (a.moment - a.own.born) seconds) too.valid said_a.live in
            record {
              other = own_entry b;
              delegation = record { valid = seconds_left b.own.born too.own.valid_until; preferred = seconds_left b.own.born too.own.preferred_until; prefix = d.prefix };
              announced = record {
                reachable = subst (Contains (view_of b)) other_is seen.there;
                version = own_version laws.said.read b.own twins.other_router.well.own;
                said = too.other;
                live = lives too.own too.there live_a;
              };
              prefix = refl;
              preferred = λ lasts left.
                  lasts too.own too.there
                  (subst (λ (seconds : ℕ). 0 < remaining (a.moment - a.own.born) seconds) too.preferred (subst (λ (n : Entry). 0 < remaining n.age d.preferred) node_is left));
            }
      ]

  pub candidate_too : Lives (λ own. own.valid_until) a b → (p : PlainPrefix) → IsAnnouncedPrefix (seen_by a) p → IsAnnouncedPrefix (seen_by b) p
  candidate_too lives p c =
      let too = announced_too lives c.node c.delegation c.announced in
      record { short = c.short; node = too.other; delegation = too.delegation; announced = too.announced; is_it = too.prefix ∙ c.is_it }

  pub preferred_too : Lives (λ own. own.valid_until) a b → Lives (λ own. own.preferred_until) a b → (p : PlainPrefix) → IsPreferred (seen_by a) p → IsPreferred (seen_by b) p
  preferred_too lives lasts p is =
      let too = announced_too lives is.node is.delegation is.announced in
      record { node = too.other; delegation = too.delegation; announced = too.announced; is_it = too.prefix ∙ is.is_it; left = too.preferred lasts is.left }
