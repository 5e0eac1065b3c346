-- What an exchange is after the question.
use Rattle.hn_base.proofs.Names.{◌≡◌, ◌≢◌, ◌∙◌, ◌⊎◌, ◌<◌, ◌+◌, ◌^◌, ℕ, suc, Bool, true, false, List, [], ◌∷◌, ◌++◌, length, map, slice_get, position, Contains, Some, None, sym, ap, subst, refl, inl}
use Rattle.hn_base.proofs.Names.{inr, arith, list_any, eq-eqb, eqb-true, append-nil, All-nil, All-contains, same_Some, slice_get_within}
use Rattle.hn_sync.proofs.Names.{◌==◌, all_of, any_of, any_from, same_node, EpId, NodeId, Entry, datagram_of, sender_tlv, Arrive, Happened, NodeState, Done, Note, Origin, State, IsRouter, IsTlvList}
use Rattle.hn_sync.proofs.Names.{MailCopy, Target, Member, Parts, address_of_target, on_link, copies_of, is_named, link_of, IsReplayed, IsSoundMember, ActsAt, acted, request}
use Rattle.hn_sync.proofs.Arrivals.{has_arrived}
use Rattle.hn_sync.proofs.NodeStatesSaid.{IsFit, Knows, knows_or_not, Says}
use Rattle.hn_sync.proofs.BeforeEachDelivery.{GoingLaws, known_attached, known_there, on_from_link, IsPair, IsGoing}
use Rattle.hn_sync.proofs.Holding.{before_self, before_same}
use Rattle.hn_sync.proofs.AskerLearns.{IsGiven}
use Rattle.hn_sync.proofs.WhatCopiesSay.{copy_of, on_link_there, IsSent, sent}
use Rattle.hn_sync.proofs.ListsFromLists.{set_is, set_other}
use Rattle.hn_sync.proofs.FewRouters.{few_routers, near}
use Rattle.hn_sync.proofs.CopiesToDeliver.{place_set, IsLetterBy}
use Rattle.hn_sync.proofs.Replies.{ascends_part}
use Rattle.hn_sync.proofs.Sayings.{tlv_said, can_say_endpoint, can_say_request, in_whole}
use Rattle.hn_sync.proofs.PeersSaid.{knows_at, knows_from_signs}
use Rattle.hn_sync.proofs.TurnsOfExchange.{question, IsQuestioned, question_arrives}

-- the datagram of a question is read
question_read : (node : NodeId) (endpoint : EpId) → node.0 < 2 ^ 32 → endpoint.0 < 2 ^ 32
    → IsTlvList (sender_tlv node endpoint ∷ map tlv_said (question ∷ [])) (datagram_of node endpoint (request ∷ []))
question_read node endpoint fits too = (_, (can_say_endpoint node.0 endpoint.0 fits too).is_tlv, refl, (_, can_say_request.is_tlv, refl, refl))

-- the two routers are at these endpoints, and both run in a world before the question
pub record IsAsking (here there : Target) (link : ℕ) (one two : Member) (w : Parts) : Type 0 where
  pub apart : here.place ≢ there.place
  pub replayed : IsReplayed w
  pub is_one : slice_get w.members here.place ≡ Some one
  pub is_two : slice_get w.members there.place ≡ Some two
  pub link_one : link_of here.endpoint one ≡ Some link
  pub link_two : link_of there.endpoint two ≡ Some link
  pub router_one : IsRouter one.router
  pub router_two : IsRouter two.router
  pub here_fits : here.endpoint.0 < 2 ^ 32
  pub there_fits : there.endpoint.0 < 2 ^ 32
  pub knows_one : knows_at here.endpoint two.router.id there.endpoint one.router.ports ≡ true
  pub knows_other : knows_at there.endpoint one.router.id here.endpoint two.router.ports ≡ true

module _ (laws : GoingLaws) (here there : Target) (link : ℕ) (one two : Member) (name other_name : List ℕ) (w : Parts) (h : IsAsking here there link one two w) where
  abbrev origin : Origin
  origin = record { endpoint = here.endpoint; from = address_of_target there; multicast = false }

  pub questioned : (next : State) (done : Done) → IsRouter next
      → Happened w.moment (Arrive origin (datagram_of two.router.id there.endpoint (request ∷ []))) one.router next done → IsQuestioned w.moment origin one.router next done
  questioned next done router happened =
      let id_fits = h.router_two.well.numbered.own_id in
      let far = let within = slice_get_within w.members there.place two h.is_two in let few = few_routers w h.replayed in near there (omega (arith, within, few)) h.there_fits in
      question_arrives laws.turns w.moment origin two.router.id there.endpoint one.router next done id_fits h.there_fits refl h.router_one.well.ports h.knows_one
      (has_arrived laws.one_list laws.no_fault w.moment origin (datagram_of two.router.id there.endpoint (request ∷ [])) _ one.router next done far
      (known_attached here.endpoint two.router.id there.endpoint one.router.ports h.knows_one)
      (question_read two.router.id there.endpoint id_fits h.there_fits) happened) router

  pub pair_of : (next : State) (done : Done) (q : IsQuestioned w.moment origin one.router next done) → IsPair here there link q.start two.router
  pair_of next done q = record {
    apart = h.apart;
    fit = q.fit;
    quiet = q.quiet;
    table = h.router_two.well.table;
    up = h.router_two.well.ports.ascending;
    id_fits = h.router_two.well.numbered.own_id;
    here_fits = h.here_fits;
    there_fits = h.there_fits;
    knows_one = knows_from_signs here.endpoint two.router.id there.endpoint q.start.ports one.router.ports q.signed ∙ h.knows_one;
    knows_other = ap (λ (x : NodeId). knows_at there.endpoint x here.endpoint two.router.ports) q.named ∙ h.knows_other;
  }

  -- what is said of the own identifier
  own_said : (start : State) (fit : IsFit start) → ((x : NodeId) × ((n : Entry) × Contains start.reach x × Knows start x n × (x.0 ≡ two.router.id.0)))
      ⊎ ((n : Entry) → IsGiven start n → n.id.0 ≢ two.router.id.0)
  own_said start fit = by_any (list_any (λ (r : NodeId). r.0 == two.router.id.0) start.reach) refl
    where
      by_any : (b : Bool) → list_any (λ (r : NodeId). r.0 == two.router.id.0) start.reach ≡ b
          → ((x : NodeId) × ((n : Entry) × Contains start.reach x × Knows start x n × (x.0 ≡ two.router.id.0))) ⊎ ((n : Entry) → IsGiven start n → n.id.0 ≢ two.router.id.0)
      by_any true is =
          let found = any_of (λ (r : NodeId). r.0 == two.router.id.0) start.reach is in
          let own : found.0.0 ≡ two.router.id.0 = eqb-true found.0.0 two.router.id.0 found.2 in
          elim (knows_or_not laws.turns.entries.of_entry start fit found.0) [
            | inl some ↦ inl (found.0, (some.0, found.1, some.1, own))
            | inr none ↦ inr (λ n given same.
                let one_id : n.id ≡ found.0 = same_node n.id found.0 (same ∙ sym own) in
                let knows = subst (λ (y : NodeId). Knows start y n) one_id given.knows in
                let clash : None ≡ Some n = sym none.entry ∙ knows.entry in absurd (cc))
          ]
      by_any false is = inr (λ n given same. let clash : true ≡ false = sym (any_from (λ (r : NodeId). r.0 == two.router.id.0) start.reach n.id given.reached (eq-eqb n.id.0 two.router.id.0 same))
          ∙ is in absurd (cc))

  pub begun : (words : List ℕ) (notes : List Note) (between : Parts) (acts : ActsAt (λ m. m) here.place (Arrive origin (datagram_of two.router.id there.endpoint (request ∷ []))) words notes w between)
      → position (is_named name) w.members ≡ Some here.place → position (is_named other_name) w.members ≡ Some there.place
      → (q : IsQuestioned w.moment origin one.router acts.next acts.done)
      → IsGoing laws here there link q.start two.router (pair_of acts.next acts.done q) name other_name (suc (length w.copies)) (acted (λ m. m) here.place acts.member acts.next acts.done w)
  begun words notes between acts place_one place_two q =
      let member : acts.member ≡ one = same_Some acts.member one (sym acts.is_member ∙ h.is_one) in
      let ports = λ (x : Member). λ (there_x : Contains w.members x). (All-contains (IsSoundMember w.moment) w.members x (laws.world.sound w h.replayed) there_x).router.well.ports in
      let q_there : Contains (on_link link 0 w.members) there =
      (let got = on_link_there link 0 w.members there.place two there.endpoint h.is_two
      (known_there there.endpoint one.router.id here.endpoint two.router.ports h.knows_other) (on_from_link link two there.endpoint h.link_two) in
      let zero_place : 0 + there.place ≡ there.place = omega arith in
      subst (λ (k : ℕ). Contains (on_link link 0 w.members) (record { place = k; endpoint = there.endpoint })) zero_place got) in
      let mail : IsSent w.members here there one link true h.link_one q_there ports h.there_fits q.start.id q.said q.datagrams =
      sent w.members here there one link true h.link_one q_there ports h.there_fits q.start.id q.said q.datagrams q.are_said in
      let more : copies_of w.members here.place acts.member acts.done.sends ≡ map copy_of mail.letters = (λ i. copies_of w.members here.place (member i) (q.sends i)) ∙ mail.copies in
      record {
        moment = q.moment;
        place_one = place_set name w.members here.place acts.member acts.next acts.is_member ∙ place_one;
        place_two = place_set other_name w.members here.place acts.member acts.next acts.is_member ∙ place_two;
        one = record acts.member { router = acts.next };
        two = two;
        is_one = set_is w.members here.place acts.member (record acts.member { router = acts.next }) acts.is_member;
        is_two = set_other w.members here.place there.place (record acts.member { router = acts.next }) (λ e. h.apart (sym e)) ∙ h.is_two;
        link_one = ap (λ (m : Member). link_of here.endpoint m) member ∙ h.link_one;
        link_two = h.link_two;
        front = w.copies;
        size = refl;
        queue = mail.letters;
        copies = ap (λ (xs : List MailCopy). w.copies ++ xs) more;
        letters = λ x new.
            let good = mail.good x new in
            subst (λ (b : Bool). IsLetterBy here there q.start two.router b x) (sym good.side) (record {
              goes = good.goes;
              comes = good.comes;
              unicast = good.unicast;
              says = good.says;
              all = all_of (Says q.start) x.group (λ s there_s. All-contains (Says q.start) q.said s q.all (in_whole x.group q.said good.part s there_s));
            });
        still = q.still;
        learns = record {
          named = refl;
          signed = refl;
          table = h.router_two.well.table;
          limit = refl;
          both = λ id stored is. inl (stored, is);
          said = [];
          are = refl;
          all = All-nil _;
          each = λ roomy n given apart.
              let x = q.each n.id n given.reached given.knows in
              let put = mail.each x.0 x.1 in
              inr (
                before_same two.router two.router (record two.router { moment = w.moment }) n refl (before_self two.router n),
                inl (put.0, put.1, inl ((mail.good put.0 put.1).side, (x.0, put.2, inl x.2))),
              );
          owned = elim (own_said q.start q.fit) [
            | inl (x, (n, reached, knows, own)) ↦
                let got = q.each x n reached knows in
                let put = mail.each got.0 got.1 in
                let named : x ≡ n.id = sym knows.named in
                inr (
                  tt,
                  inr (record {
                    first = mail.letters;
                    second = [];
                    parts = sym (append-nil mail.letters);
                    lists = λ l new. ((mail.good l new).side, ascends_part l.group q.said (mail.good l new).part q.ascends);
                    one = put.0;
                    there_one = put.1;
                    own = (
                      n,
                      record { reached = subst (Contains q.start.reach) named reached; knows = subst (λ (y : NodeId). Knows q.start y n) named knows },
                      ap (λ (y : NodeId). y.0) knows.named
                          ∙ own,
                      (got.0, put.2, got.2 ∙ ap NodeState named),
                    );
                  }),
                )
            | inr none ↦ inl (λ n given own. absurd (none n given own))
          ];
        };
      }
