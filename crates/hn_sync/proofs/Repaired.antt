-- One exchange repairs.
use Rattle.hn_base.proofs.Names.{◌≡◌, ◌≢◌, ◌∙◌, ◌<◌, ◌≤◌, ◌+◌, ℕ, suc, Bool, true, false, cond, List, [], ◌∷◌, ◌++◌, length, map, position, slice_get, Contains, Option, Some, None, sym, ap, subst}
use Rattle.hn_base.proofs.Names.{refl, inl, inr, arith, length-append, option_map, cases_eq, leb-false, length-map, All-contains, find_at, same_Some, bytes_eq-Decides, name_text}
use Rattle.hn_sync.proofs.Names.{◌==◌, find, nothing_in, found_passes, same_node, contains_at, NodeId, Name, Version, Entry, datagram_of, Arrive, Happened, Note, State, held_entry, own_entry}
use Rattle.hn_sync.proofs.Names.{entry_of, IsRouter, held, Stored, Target, Traced, WEvent, Member, Parts, EachEventIsEntered, address_of_target, is_named, member_named, router_place, Goes, Replays}
use Rattle.hn_sync.proofs.Names.{IsReplayed, IsSoundMember, RouterActs, Does, Step, acted, entered, request, IsQuestion, AreDeliveries, delivery, HasRoomFor, IsRepaired}
use Rattle.std.proofs.Common.{nat_le}
use Rattle.hn_base.proofs.Elements.{from_filter_map}
use Rattle.hn_rules.specs.Nodes.{view_of}
use Rattle.hn_world.specs.declared.event.WEvent.TheVariants as event
use Rattle.hn_sync.proofs.AfterTheQuestion.{IsAsking, questioned, pair_of, begun}
use Rattle.hn_sync.proofs.Between.{endpoint_fits, endpoint_there, replays_step, replayed_more}
use Rattle.hn_sync.proofs.Delivered.{goes_enters}
use Rattle.hn_sync.proofs.Deliveries.{along, going_entered}
use Rattle.hn_sync.proofs.NodeStatesSaid.{Knows, knows_from}
use Rattle.hn_sync.proofs.BeforeEachDelivery.{GoingLaws, IsPair, IsGoing}
use Rattle.hn_sync.proofs.Holding.{settled_same}
use Rattle.hn_sync.proofs.LeastJoint.{peer_to}
use Rattle.hn_sync.proofs.AskerLearns.{IsGiven}
use Rattle.hn_sync.proofs.WhatCopiesSay.{Letter, copy_of}
use Rattle.hn_sync.proofs.ListsFromLists.{set_is, position_is, stands}
use Rattle.hn_sync.proofs.CopiesToDeliver.{no_answers}
use Rattle.hn_sync.proofs.Sayings.{Saying}
use Rattle.hn_sync.specs.Exchange.{IsExchange}
use Rattle.hn_sync.specs.Repairs.{HoldsAs, IsNamedAlways, Repairs}

pub record RepairLaws : Type 0 where
  pub going : GoingLaws
  pub entered : EachEventIsEntered

-- ---- lists of members

there_found : (text : List ℕ) (ms : List Member) (place : ℕ) (m : Member) → position (is_named text) ms ≡ Some place → slice_get ms place ≡ Some m → find (is_named text) ms ≡ Some m
there_found text ms place m at is = find_at (is_named text) ms ∙ (ap (slice_get ms) (position_is (is_named text) ms place at) ∙ is)

-- ---- where the two are one, it holds what it knows

known_held : (s : State) (id : NodeId) (n : Entry) → entry_of s id ≡ Some n → n.id ≢ s.id → HoldsAs s n
known_held s id n is other = by_test (id.0 == s.id.0) refl is
  where
    by_held : (o : Option Stored) → held s.table.entries id.0 ≡ o → option_map (λ stored. held_entry s.moment (record { id = id; stored = stored })) o ≡ Some n → HoldsAs s n
    by_held None none e = absurd (cc)
    by_held (Some stored) some e =
        let same : held_entry s.moment (record { id = id; stored = stored }) ≡ n = same_Some _ n e in
        subst (HoldsAs s) same (record { stored = stored; is_held = some; number = refl; body = refl })

    by_test : (b : Bool) → (id.0 == s.id.0) ≡ b → cond b (Some (own_entry s)) (option_map (λ stored. held_entry s.moment (record { id = id; stored = stored })) (held s.table.entries id.0)) ≡ Some n
        → HoldsAs s n
    by_test true own e = absurd (let same : own_entry s ≡ n = same_Some (own_entry s) n e in other (sym (ap (λ (x : Entry). x.id) same)))
    by_test false apart e = by_held (held s.table.entries id.0) refl e

one_repaired : (before s : State) (n : Entry) → Contains (view_of s) n → n.id ≢ s.id → IsRepaired before s n
one_repaired before s n seen other =
    let from = from_filter_map (entry_of s) s.reach n seen in
    inl (known_held s from.0 n from.2 other)

-- ---- the end of an exchange

none_left : (copy : ℕ) (w : Parts) → None ≡ delivery copy w → length w.copies < copy
none_left copy w none = by_test (nat_le copy (length w.copies)) refl none
  where
    by_test : (b : Bool) → nat_le copy (length w.copies) ≡ b → None ≡ cond b (Some (event.Deliver copy)) None → length w.copies < copy
    by_test true is e = absurd (cc)
    by_test false is e = leb-false copy (length w.copies) is

empty_queue : (queue : List Letter) → length queue ≡ 0 → queue ≡ []
empty_queue [] is = refl
empty_queue (l ∷ queue) is = absurd (omega (arith, is))

version_along : (laws : GoingLaws) (rest : List Traced) (x after : Parts) → IsReplayed x → Goes x rest after → (after.version ≡ x.version) × IsReplayed after
version_along laws [] x after replayed goes = (ap (λ (w : Parts). w.version) goes, subst IsReplayed (sym goes) replayed)
version_along laws (t ∷ rest) x after replayed goes =
    let then = replays_step x.version x.trace t x goes.0 replayed goes.1 in
    let same = laws.world.version x.version (x.trace ++ t ∷ []) goes.0 then in
    let more = version_along laws rest goes.0 after (replayed_more laws.world (record { place = 0; endpoint = record { 0 = 0 } })
    (record { place = 0; endpoint = record { 0 = 0 } }) 0 t x goes.0 replayed goes.1) goes.2 in
    (more.0 ∙ same, more.1)

module _ (laws : RepairLaws) (a b : Name) (before after : Parts) (replayed : IsReplayed before) (question : WEvent) (asks : IsQuestion a b before question) where
  -- the routers and the links before it
  asking_of : (place : ℕ) → router_place (name_text a) before ≡ Some place → place ≢ asks.place
      → IsAsking (record { place = place; endpoint = asks.e }) (record { place = asks.place; endpoint = asks.f }) asks.least.joined.link asks.one asks.two before
  asking_of place is_place apart =
      let at_one = stands (is_named (name_text a)) before.members place asks.one is_place asks.is_one in
      let at_two = stands (is_named (name_text b)) before.members asks.place asks.two asks.is_place asks.is_two in
      let router_one : IsRouter asks.one.router = (All-contains (IsSoundMember before.moment) before.members asks.one
      (laws.going.world.sound before replayed) (contains_at before.members place asks.one at_one)).router in
      let router_two : IsRouter asks.two.router = (All-contains (IsSoundMember before.moment) before.members asks.two
      (laws.going.world.sound before replayed) (contains_at before.members asks.place asks.two at_two)).router in
      record {
        apart = apart;
        replayed = replayed;
        is_one = at_one;
        is_two = at_two;
        link_one = asks.least.joined.here;
        link_two = asks.least.joined.there;
        router_one = router_one;
        router_two = router_two;
        here_fits = endpoint_fits asks.one asks.e router_one.well.ports (endpoint_there asks.one.router asks.e asks.two.router.id asks.f asks.least.joined.of_one);
        there_fits = endpoint_fits asks.two asks.f router_two.well.ports (endpoint_there asks.two.router asks.f asks.one.router.id asks.e asks.least.joined.of_other);
        knows_one = peer_to asks.one.router asks.e asks.two.router.id asks.f asks.least.joined.of_one;
        knows_other = peer_to asks.two.router asks.f asks.one.router.id asks.e asks.least.joined.of_other;
      }

  module _ (t : Traced) (rest : List Traced) (notes : List Note) (then : Parts) (is : t.event ≡ question) (step : Step t notes before then)
      (goes : Goes then rest after) (are : AreDeliveries (suc (length before.copies)) rest)
      (ends : None ≡ delivery (length before.copies + suc (length rest)) after) where
    does_ask : RouterActs (λ m. m) a (Arrive (record { endpoint = asks.e; from = address_of_target (record { place = asks.place; endpoint = asks.f }); multicast = false })
        (datagram_of asks.two.router.id asks.f (request ∷ []))) t.words notes before step.between
    does_ask = subst (λ (e : WEvent). Does e t.words notes before step.between) (is ∙ asks.gives) step.does

    then_replayed : IsReplayed then
    then_replayed = replayed_more laws.going.world (record { place = 0; endpoint = record { 0 = 0 } }) (record { place = 0; endpoint = record { 0 = 0 } }) 0 t before then replayed (notes, step)

    repairs_apart : does_ask.place ≢ asks.place → Repairs a b before after
    repairs_apart apart two one_after two_after is_two is_one_after is_two_after room named n seen other =
        let here : Target = record { place = does_ask.place; endpoint = asks.e } in
        let there : Target = record { place = asks.place; endpoint = asks.f } in
        let link = asks.least.joined.link in
        let h = asking_of does_ask.place does_ask.is_place apart in
        let acts = does_ask.acts in
        let member : acts.member ≡ asks.one = same_Some acts.member asks.one (sym acts.is_member ∙ h.is_one) in
        let happened = subst (λ (m : Member). Happened before.moment
        (Arrive (record { endpoint = asks.e; from = address_of_target there; multicast = false }) (datagram_of asks.two.router.id asks.f (request ∷ []))) m.router acts.next acts.done)
        member acts.happened in
        let made : then ≡ entered t (acted (λ m. m) does_ask.place acts.member acts.next acts.done before) = step.gives ∙ ap (entered t) acts.gives in
        let at_next : slice_get then.members does_ask.place ≡ Some (record acts.member { router = acts.next })
        = ap (λ (w : Parts). slice_get w.members does_ask.place) made ∙ set_is before.members does_ask.place acts.member (record acts.member { router = acts.next }) acts.is_member in
        let next_router : IsRouter acts.next = (All-contains (IsSoundMember then.moment) then.members (record acts.member { router = acts.next })
        (laws.going.world.sound then then_replayed) (contains_at then.members does_ask.place (record acts.member { router = acts.next }) at_next)).router in
        let q = questioned laws.going here there link asks.one asks.two (name_text a) (name_text b) before h acts.next acts.done next_router happened in
        let pair = pair_of laws.going here there link asks.one asks.two (name_text a) (name_text b) before h acts.next acts.done q in
        let first = begun laws.going here there link asks.one asks.two (name_text a) (name_text b) before h t.words notes step.between acts does_ask.is_place asks.is_place q in
        let begins : IsGoing laws.going here there link q.start asks.two.router pair (name_text a) (name_text b) (suc (length before.copies)) then
        = subst (IsGoing laws.going here there link q.start asks.two.router pair (name_text a) (name_text b) (suc (length before.copies))) (sym made)
        (going_entered laws.going here there link q.start asks.two.router pair (name_text a) (name_text b) (suc (length before.copies)) t
        (acted (λ m. m) does_ask.place acts.member acts.next acts.done before) first) in
        let same_two : two ≡ asks.two = same_Some two asks.two (sym is_two ∙ asks.is_two) in
        let always : IsNamedAlways (name_text b) asks.two.router.id before after = subst (λ (m : Member). IsNamedAlways (name_text b) m.router.id before after) same_two named in
        let g = along laws.going here there link q.start asks.two.router pair (name_text a) (name_text b) rest
        (suc (length before.copies)) then after then_replayed begins goes are (each_named always) in
        finishes q.start pair two one_after two_after same_two is_one_after is_two_after room n seen other g
      where
        each_named : IsNamedAlways (name_text b) asks.two.router.id before after → (x : Parts) (past future : List Traced) → Goes then past x → Goes x future after → IsReplayed x → (m : Member)
            → position (is_named (name_text b)) x.members ≡ Some asks.place → slice_get x.members asks.place ≡ Some m → m.router.id ≡ asks.two.router.id
        each_named always x past future from to rep m place at =
            let enters = goes_enters laws.entered before x (t ∷ past) (then, (notes, step), from) in
            let later : length before.trace ≤ length x.trace =
            (let whole : length x.trace ≡ length (before.trace ++ t ∷ past) = ap length enters in let parts = length-append before.trace (t ∷ past) in omega (arith, whole, parts)) in
            let version = (version_along laws.going future x after rep to).0 in
            always x.trace future x m (goes_enters laws.entered x after future to) later
            (subst (λ (v : Version). Replays v x.trace x) (sym version) rep) (there_found (name_text b) x.members asks.place m place at)

        finishes : (start : State) (pair : IsPair (record { place = does_ask.place; endpoint = asks.e })
            (record { place = asks.place; endpoint = asks.f }) asks.least.joined.link start asks.two.router) (two one_after two_after : Member) → two ≡ asks.two
            → member_named (name_text a) after ≡ Some one_after → member_named (name_text b) after ≡ Some two_after
            → HasRoomFor two.router one_after.router.reach → (n : Entry) → Contains (view_of one_after.router) n → n.id ≢ two_after.router.id
            → IsGoing laws.going (record { place = does_ask.place; endpoint = asks.e })
            (record { place = asks.place; endpoint = asks.f }) asks.least.joined.link start asks.two.router pair (name_text a) (name_text b) (suc (length before.copies) + length rest) after
            → IsRepaired two.router two_after.router n
        finishes start pair two one_after two_after same_two is_one_after is_two_after room n seen other g =
            let one : one_after ≡ g.one = same_Some one_after g.one (sym (stands (is_named (name_text a)) after.members does_ask.place one_after g.place_one is_one_after) ∙ g.is_one) in
            let two_is : two_after ≡ g.two = same_Some two_after g.two (sym (stands (is_named (name_text b)) after.members asks.place two_after g.place_two is_two_after) ∙ g.is_two) in
            let reach : one_after.router.reach ≡ start.reach = ap (λ (m : Member). m.router.reach) one ∙ ap (λ (s : State). s.reach) g.still.gives in
            let roomy : HasRoomFor asks.two.router start.reach =
            (subst (λ (ids : List NodeId). HasRoomFor asks.two.router ids) reach (subst (λ (m : Member). HasRoomFor m.router one_after.router.reach) same_two room)) in
            let from = from_filter_map (entry_of one_after.router) one_after.router.reach n seen in
            let known : entry_of start from.0 ≡ Some n = sym (ap (λ (m : Member). entry_of m.router from.0) one ∙ ap (λ (s : State). entry_of s from.0) g.still.gives) ∙ from.2 in
            let knows = knows_from laws.going.turns.entries.of_entry start pair.fit from.0 n known in
            let at_id : from.0 ≡ n.id = sym knows.named in
            let given : IsGiven start n = record {
              reached = subst (Contains start.reach) at_id (subst (λ (ids : List NodeId). Contains ids from.0) reach from.1);
              knows = subst (λ (y : NodeId). Knows start y n) at_id knows;
            } in
            let named_two : two_after.router.id ≡ asks.two.router.id = ap (λ (m : Member). m.router.id) two_is ∙ g.learns.named in
            let apart : n.id.0 ≢ asks.two.router.id.0 = λ same. other (same_node n.id asks.two.router.id same ∙ sym named_two) in
            subst (λ (m : Member). IsRepaired m.router two_after.router n) (sym same_two)
            (subst (λ (m : Member). IsRepaired asks.two.router m.router n) (sym two_is) (settled start pair n given apart roomy g))
          where
            settled : (start : State) (pair : IsPair (record { place = does_ask.place; endpoint = asks.e })
                (record { place = asks.place; endpoint = asks.f }) asks.least.joined.link start asks.two.router) (n : Entry) → IsGiven start n → n.id.0 ≢ asks.two.router.id.0
                → HasRoomFor asks.two.router start.reach
                → (g : IsGoing laws.going (record { place = does_ask.place; endpoint = asks.e })
                (record { place = asks.place; endpoint = asks.f }) asks.least.joined.link start asks.two.router pair (name_text a) (name_text b) (suc (length before.copies) + length rest) after)
                → IsRepaired asks.two.router g.two.router n
            settled start pair n given apart roomy g = elim (g.learns.each roomy n given apart) [
              | inl done ↦ settled_same asks.two.router (record g.two.router { moment = after.moment }) g.two.router n refl done
              | inr (waits, inl (l, there_l, hope)) ↦ absurd (nothing_in l (subst (λ (ls : List Letter). Contains ls l) empty there_l))
              | inr (waits, inr (inl (x, there_x, about))) ↦ absurd (nothing_in x there_x)
              | inr (waits, inr (inr (x, there_x, about))) ↦ absurd (nothing_in x (subst (λ (xs : List Saying). Contains xs x) (no_answers g.learns.said g.learns.are) there_x))
            ]
              where
                empty : g.queue ≡ []
                empty =
                    let less = none_left (length before.copies + suc (length rest)) after ends in
                    let whole : length after.copies ≡ length (g.front ++ map copy_of g.queue) = ap length g.copies in
                    let parts = length-append g.front (map copy_of g.queue) in
                    let count = length-map g.queue copy_of in
                    let size = g.size in
                    empty_queue g.queue (omega (arith, less, whole, parts, count, size))

    -- where both names are one router's
    repairs_one : does_ask.place ≡ asks.place → Repairs a b before after
    repairs_one same two one_after two_after is_two is_one_after is_two_after room named n seen other =
        subst (λ (m : Member). Contains (view_of m.router) n → IsRepaired two.router two_after.router n) (sym one) (λ seen_by. one_repaired two.router two_after.router n seen_by other) seen
      where
        text : name_text a ≡ name_text b
        text =
            let at_one = stands (is_named (name_text a)) before.members does_ask.place asks.one does_ask.is_place asks.is_one in
            let at_two = stands (is_named (name_text b)) before.members asks.place asks.two asks.is_place asks.is_two in
            let one_member : asks.one ≡ asks.two = same_Some asks.one asks.two (sym at_one ∙ (ap (slice_get before.members) same ∙ at_two)) in
            let first = (bytes_eq-Decides (name_text asks.one.name) (name_text a)).0 (found_passes (is_named (name_text a)) before.members asks.one asks.is_one).1 in
            let second = (bytes_eq-Decides (name_text asks.two.name) (name_text b)).0 (found_passes (is_named (name_text b)) before.members asks.two asks.is_two).1 in
            sym first ∙ (ap (λ (m : Member). name_text m.name) one_member ∙ second)

        one : one_after ≡ two_after
        one = same_Some one_after two_after (sym is_one_after ∙ (ap (λ (x : List ℕ). member_named x after) text ∙ is_two_after))

    repairs_all : Repairs a b before after
    repairs_all = elim (cases_eq does_ask.place asks.place) [
      | inl same ↦ repairs_one same
      | inr apart ↦ repairs_apart apart
    ]

pub exchange_repairs : RepairLaws → (a b : Name) (ts : List Traced) (before after : Parts) → IsReplayed before → IsExchange a b ts before after → Repairs a b before after
exchange_repairs laws a b [] before after replayed h = absurd (let clash : None ≡ Some h.question = h.is_next in cc)
exchange_repairs laws a b (t ∷ ts) before after replayed h =
    repairs_all laws a b before after replayed h.question h.asks t ts h.goes.1.0 h.goes.0 h.events.0 h.goes.1.1 h.goes.2 h.events.1 h.is_next
