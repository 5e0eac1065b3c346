-- A router for which nothing is due stays so until something is.
use Rattle.hn_base.proofs.Names.{◌≡◌, ◌∙◌, ◌↔◌, ℕ, ◌+◌, ◌-◌, ◌*◌, ◌^◌, ◌<◌, ◌≤◌, Bool, true, false, List, [], map, Some, None, Contains, nat_lt, inl, inr, refl, sym, ap, arith, All, ◌==◌, list_any}
use Rattle.hn_base.proofs.Names.{option_map, nat_cmp, and_parts, cases_lt, eq-eqb, eqb-true, ltb-true, nat_cmp_total, All-contains}
use Rattle.hn_rules.proofs.Names.{nat_le, sorted_parts, all_of, found_passes, in_filter_map, passing_found, one_of_ascending, part_at, part_stands, PlainView, IsPortUndue, Neighbour, Port}
use Rattle.hn_rules.proofs.Names.{IsForgetting, HeldIsOfAnEntry, is_forgotten, held, HeldNode, IsLike, ReachabilityStays, IsLater, IsLifetimeEnd, Delegated, Wish, IsOwnEnd, has_ended_one, State}
use Rattle.hn_rules.proofs.Names.{IsWishAt, AreAsked, IsRunAssigned, IsDueAt, UndueStays, held_entry, entry_of, view_of, IsReach, IsWell, seen_by, at_moment, AreHeard, IsExpired}
use Rattle.hn_dncp.specs.Laws.{UnduePortStays}
use Rattle.hn_timers.specs.KeepAlive.{expires_at}
use Rattle.hn_timers.specs.Laws.{ExpiryIsAMoment}
use Rattle.hn_store.specs.Laws.{ForgettingIsAMoment}
use Rattle.hn_deleg.specs.Later.{aged_delegated}
use Rattle.hn_deleg.specs.Laws.{UsableOfLater, UnwantedOfLater}
use Rattle.hn_link.specs.Laws.{CommonLinkOfLater}
use Rattle.hn_assign.specs.Laws.{IdleRunStays}
use Rattle.hn_own.specs.Laws.{EndingIsAMoment}
use Rattle.hn_rules.specs.Laws.{KeptUndueReaches}
use Rattle.hn_rules.proofs.Entries.{entry_held}
use Rattle.hn_rules.proofs.SeenWhileTimePasses.{view_later}
use Rattle.hn_rules.proofs.RefreshChangesNothing.{reach_later, same_reach}

-- the laws of the crates below that it stands on
pub record UndueLaws : Type 0 where
  pub expiry : ExpiryIsAMoment
  pub port : UnduePortStays
  pub ending : EndingIsAMoment
  pub forgetting : ForgettingIsAMoment
  pub known : HeldIsOfAnEntry
  pub reach : ReachabilityStays
  pub usable : UsableOfLater
  pub unwanted : UnwantedOfLater
  pub common : CommonLinkOfLater
  pub run : IdleRunStays

-- ---- what a router keeps

-- a test that holds from some moments on
comes_later : (P : ℕ → Type 0) (test : ℕ → Bool) (now later : ℕ) → ((t : ℕ) → (test t ≡ true) ↔ ((m : ℕ) × P m × (m ≤ t)))
    → ((m : ℕ) → P m → now < m → later < m) → test now ≡ false → test later ≡ false
comes_later P test now later moment none is = by_test (test later) refl
  where
    by_test : (b : Bool) → test later ≡ b → b ≡ false
    by_test false same = refl
    by_test true same =
        let (m, p, come) = (moment later).0 same in
        elim (cases_lt now m) [
          | inl before ↦ let after = none m p before in absurd (omega (arith, after, come))
          | inr past ↦ let already = (moment now).1 (m, p, past) in absurd cc
        ]

module _ (laws : UndueLaws) (s : State) (now later : ℕ) (goes : now ≤ later) (none : (m : ℕ) → IsDueAt (at_moment now s) m → now < m → later < m) where
  peer_heard : (port : Port) (peer : Neighbour) → Contains s.ports port → Contains port.peers peer → ¬ (IsExpired (at_moment now s) peer) → ¬ (IsExpired (at_moment later s) peer)
  peer_heard port peer attached there heard (interval, promised, is) =
      let parts = and_parts (nat_lt 0 interval) (nat_le (21 * interval) (10 * (later - peer.contact))) is in
      let some : 0 < interval = ltb-true 0 interval parts.0 in
      let end = expires_at peer.contact interval in
      let come : end ≤ later = (laws.expiry peer.contact interval later some).0 is in
      elim (cases_lt now end) [
        | inl before ↦
            let after : later < end = none end (inl (port, attached, inl (peer, there, record { interval = interval; promised = promised; ends = (some, refl) }))) before in
            omega (arith, come, after)
        | inr past ↦ heard (interval, promised, (laws.expiry peer.contact interval now some).1 past)
      ]

  heard_stays : AreHeard now s → AreHeard later s
  heard_stays heard =
      all_of (λ (port : Port). All (λ (peer : Neighbour). ¬ (IsExpired (at_moment later s) peer)) port.peers) s.ports
      (λ port attached.
      let here : All (λ (peer : Neighbour). ¬ (IsExpired (at_moment now s) peer)) port.peers =
      All-contains (λ (p : Port). All (λ (peer : Neighbour). ¬ (IsExpired (at_moment now s) peer)) p.peers) s.ports port heard attached in
      all_of (λ (peer : Neighbour). ¬ (IsExpired (at_moment later s) peer)) port.peers
      (λ peer there. peer_heard port peer attached there (All-contains (λ (p : Neighbour). ¬ (IsExpired (at_moment now s) p)) port.peers peer here there)))

  nothing_came_stays : All (IsPortUndue now) s.ports → All (IsPortUndue later) s.ports
  nothing_came_stays came_none =
      all_of (IsPortUndue later) s.ports
      (λ port attached. laws.port port now later goes (All-contains (IsPortUndue now) s.ports port came_none attached) (λ m due. none m (inl (port, attached, inr due))))

  lasting_stays : has_ended_one now s.delegated ≡ false → has_ended_one later s.delegated ≡ false
  lasting_stays =
      comes_later (IsOwnEnd s.delegated) (λ t. has_ended_one t s.delegated) now later (λ t. laws.ending t s.delegated) (λ m end. none m (inr (inl (inl end))))

  kept_stays : list_any (is_forgotten now) s.table.entries ≡ false → list_any (is_forgotten later) s.table.entries ≡ false
  kept_stays =
      comes_later (IsForgetting s.table.entries) (λ t. list_any (is_forgotten t) s.table.entries) now later (λ t. laws.forgetting t s.table.entries)
      (λ m end. none m (inr (inl (inr (inr (inl end))))))

  ages_stay : now - s.own.born < 2 ^ 32 - 2 ^ 16 → later - s.own.born < 2 ^ 32 - 2 ^ 16
  ages_stay young =
      let after = none (s.own.born + (2 ^ 32 - 2 ^ 16)) (inr (inl (inr (inl refl)))) (omega (arith, young)) in
      omega (arith, after)

  -- ---- what is reachable

  module _ (well : IsWell s) where
    held_of : (node : HeldNode) → Contains s.table.entries node → held s.table.entries node.id.0 ≡ Some node.stored
    held_of node there =
        let test = λ (n : HeldNode). n.id.0 == node.id.0 in
        let found = passing_found test s.table.entries node there (eq-eqb node.id.0 node.id.0 refl) in
        let passes = found_passes test s.table.entries found.0 found.1 in
        let up = (sorted_parts (λ (n : HeldNode). n.id.0) nat_cmp s.table.entries).1 well.table.ascending in
        let same : found.0 ≡ node = one_of_ascending (λ (n : HeldNode). n.id.0) nat_cmp nat_cmp_total s.table.entries up found.0 node passes.0 there (eqb-true (found.0).id.0 node.id.0 passes.1) in
        ap (option_map (λ (n : HeldNode). n.stored)) (found.1 ∙ ap Some same)

    -- a held node is what a router sees of its identifier
    seen_of : (node : HeldNode) → Contains s.table.entries node → entry_of (at_moment now s) node.id ≡ Some (held_entry now node)
    seen_of node there =
        let holds = held_of node there in
        entry_held (at_moment now s) node.id node.stored (λ own. other node holds own) holds
      where
        other : (node : HeldNode) → held s.table.entries node.id.0 ≡ Some node.stored → node.id.0 ≡ s.id.0 → ⊥
        other node holds own =
            let nobody : held s.table.entries node.id.0 ≡ None = ap (held s.table.entries) own ∙ well.other in
            absurd cc

    reached_stays : IsReach (at_moment now s) s.reach → now - s.own.born < 2 ^ 32 - 2 ^ 16 → IsReach (at_moment later s) s.reach
    reached_stays is_reach young =
        reach_later s now later goes is_reach (record { id = refl; body = refl; recent = λ recent. let stays = ages_stay young in omega (arith, stays) }) node_like laws.reach
      where
        node_like : (node : HeldNode) → Contains s.table.entries node → Contains s.reach node.id → IsLike (held_entry now node) (held_entry later node)
        node_like node there reached = record {
          id = refl;
          body = refl;
          recent = λ recent.
              let seen : Contains (view_of (at_moment now s)) (held_entry now node) =
              in_filter_map (entry_of (at_moment now s)) s.reach node.id (held_entry now node) reached (seen_of node there) in
              let limit = now + (2 ^ 32 - 2 ^ 15 - (held_entry now node).age) in
              let after : later < limit = none limit (inr (inr (inr (held_entry now node, seen, refl)))) (omega (arith, recent)) in
              omega (arith, after, recent, goes);
        }

    -- ---- the assignment of prefixes

    module _ (begun : s.moment ≤ now) (assigned : IsRunAssigned (at_moment now s) (record { held = s.held; words = [] })) where
      abbrev before : PlainView
      before = seen_by (at_moment now s)

      abbrev after : PlainView
      after = seen_by (at_moment later s)

      passed : IsLater before after
      passed = view_later laws.known s now later well.past begun goes

      abbrev aged : List Delegated
      aged = map (aged_delegated passed.time) assigned.usable

      no_end : (m : ℕ) → IsLifetimeEnd before m → before.now < m → after.now < m
      no_end m end = none m (inr (inr (inl end)))

      -- a wish has no lifetime
      wish_stays : (place : ℕ) (wish : Wish) → IsWishAt s.private before assigned.usable place wish → IsWishAt s.private after aged place wish
      wish_stays place wish asked =
          let unwanted = laws.unwanted before after passed no_end assigned.usable assigned.are_usable place in
          record {
            delegated = aged_delegated passed.time asked.delegated;
            at = part_stands (aged_delegated passed.time) assigned.usable place asked.delegated asked.at;
            prefix = asked.prefix;
            wanted = (λ is not. asked.wanted.0 is (unwanted.1 not), λ wanted. asked.wanted.1 (λ not. wanted (unwanted.0 not)));
            common = (laws.common before after wish.endpoint.0 wish.common passed).0 asked.common;
            length = asked.length;
          }

      wish_was : (place : ℕ) (wish : Wish) → IsWishAt s.private after aged place wish → IsWishAt s.private before assigned.usable place wish
      wish_was place wish asked =
          let unwanted = laws.unwanted before after passed no_end assigned.usable assigned.are_usable place in
          let young = part_at (aged_delegated passed.time) assigned.usable place asked.delegated asked.at in
          record {
            delegated = young.0;
            at = young.1;
            prefix = asked.prefix ∙ sym (ap (λ (u : Delegated). u.prefix) young.2);
            wanted = (λ is not. asked.wanted.0 is (unwanted.0 not), λ wanted. asked.wanted.1 (λ not. wanted (unwanted.1 not)));
            common = (laws.common before after wish.endpoint.0 wish.common passed).1 asked.common;
            length = asked.length;
          }

      asked_stays : AreAsked (at_moment later s) aged assigned.wishes
      asked_stays = record {
        ascending = assigned.are_asked.ascending;
        exact = λ wish. (
          λ there. let is = (assigned.are_asked.exact wish).0 there in record { place = is.place; asked = wish_stays is.place wish is.asked; post = is.post },
          λ is. (assigned.are_asked.exact wish).1 (record { place = is.place; asked = wish_was is.place wish is.asked; post = is.post }),
        );
      }

      rests_stays : IsRunAssigned (at_moment later s) (record { held = s.held; words = [] })
      rests_stays = record {
        usable = aged;
        are_usable = laws.usable before after passed no_end assigned.usable assigned.are_usable;
        wishes = assigned.wishes;
        are_asked = asked_stays;
        is_subroutine = laws.run before after assigned.wishes s.held passed assigned.are_asked.ascending assigned.is_subroutine (λ m due. none m (inr (inl (inr (inr (inr due))))));
      }

pub undue_stays : UndueLaws → UndueStays
undue_stays laws s now later router begun goes still none = record {
  heard = heard_stays laws s now later goes none still.heard;
  lasting = lasting_stays laws s now later goes none still.lasting;
  young = ages_stay laws s now later goes none still.young;
  reached = reached_stays laws s now later goes none router.well still.reached still.young;
  kept = kept_stays laws s now later goes none still.kept;
  rests = rests_stays laws s now later goes none router.well begun still.rests;
  ports = nothing_came_stays laws s now later goes none still.ports;
}

pub reached_while_undue : ReachabilityStays → KeptUndueReaches
reached_while_undue reach s now router begun quiet =
    let was = router.refreshed.reached in
    let past : was.moment ≤ now = (let before = was.past in omega (arith, before, begun)) in
    same_reach (at_moment now s) was.moment past was.was router.refreshed.lost quiet.young quiet.leads reach
