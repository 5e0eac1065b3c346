-- The router that asks, in the middle of an arrival from the one that is asked: what it has learnt, and what it may hope for.
use Rattle.hn_base.proofs.Names.{◌≡◌, ◌≢◌, ◌∙◌, ◌⊎◌, true, List, [], ◌∷◌, Contains, Option, Some, None, sym, ap, subst, refl, inl, inr, option_map}
use Rattle.hn_sync.proofs.Names.{All, Contains-cases, NodeId, Entry, Port, Part, Subject, NetworkRequest, NetworkState, NodeRequest, NodeState, NodeData, Running, State, with_answer, IsPublished}
use Rattle.hn_sync.proofs.Names.{IsRefresh, IsStale, HeldIsOfAnEntry, MarksKeepTable, loss_marked, Nodes, held, IsTable, Stored, PlainItem, state_of, HasRoomFor, IsRepaired, is_news}
use Rattle.hn_typed.specs.Item as item
use Rattle.hn_sync.proofs.Answered.{AnswersAre, with_more}
use Rattle.hn_sync.proofs.NodeStatesSaid.{Knows, IsAsked, Asks}
use Rattle.hn_sync.proofs.Greetings.{IsHeard, IsCompared}
use Rattle.hn_sync.proofs.Holding.{held_after, held_marked, AsBefore, before_same, settled_same, before_marked, settled_marked}
use Rattle.hn_sync.proofs.NothingToRefresh.{IsRefreshing, refresh_leaves}
use Rattle.hn_sync.proofs.Replies.{Ascends}
use Rattle.hn_sync.proofs.RoomForNodes.{AreOfBoth}
use Rattle.hn_sync.proofs.Sayings.{Saying}
use Rattle.hn_sync.proofs.PeersSaid.{signs, Ascend, ascend_from_signs, links_from_signs}

-- what is said of a node is in the list
abbrev pub InRest : List Saying → Entry → Type 0
InRest rest n = (x : Saying) × Contains rest x × ((x.about ≡ NodeState n.id) ⊎ (x.about ≡ NodeData n.id))

-- its data are asked for
abbrev pub InAsked : List Saying → Entry → Type 0
InAsked said n = (x : Saying) × Contains said x × (x.about ≡ NodeRequest n.id)

-- the own part of the network state
abbrev pub own_part : State → Part
own_part s = record { number = s.number; hash = s.own.hash }

-- a node that the router that is asked reaches
pub record IsGiven (start : State) (n : Entry) : Type 0 where
  pub reached : Contains start.reach n.id
  pub knows : Knows start n.id n

-- What is said of the own identifier is stale, and what the router published last is what it would publish.
abbrev pub IsSafe : State → State → State → Type 0
IsSafe start before s = (n : Entry) → IsGiven start n → n.id.0 ≡ before.id.0 → IsPublished s × IsStale (Some (own_part s)) (state_of n)

-- its own identifier is in the list, without data
abbrev pub OwnInRest : State → State → List Saying → Type 0
OwnInRest start before rest = (n : Entry) × IsGiven start n × (n.id.0 ≡ before.id.0) × ((x : Saying) × Contains rest x × (x.about ≡ NodeState n.id))

-- start is the router that is asked, ports those of the other one, before it as it was; what is said elsewhere of nodes, and
-- later of its own identifier
module _ (of_entry : HeldIsOfAnEntry) (marks : MarksKeepTable) (start before : State) (ports : List Port) (Elsewhere : Entry → Type 0) (Later : Type 0) where
  -- That is so, or it comes once, in a list in ascending order.
  abbrev pub IsOwned : State → List Saying → Type 0
  IsOwned s rest = IsSafe start before s ⊎ (Ascends rest × (OwnInRest start before rest ⊎ Later))

  pub record Learns (r : Running) (rest : List Saying) : Type 0 where
    pub named : r.state.id ≡ before.id
    pub signed : signs r.state.ports ≡ signs ports
    pub table : IsTable r.state.table
    pub limit : r.state.table.limit ≡ before.table.limit
    pub both : AreOfBoth of_entry before start.reach r.state
    pub said : List Saying
    pub are : AnswersAre r said
    pub all : All Asks said
    pub each : HasRoomFor before start.reach → (n : Entry) → IsGiven start n → n.id.0 ≢ before.id.0 → IsRepaired before r.state n
        ⊎ (AsBefore before r.state n × (Elsewhere n ⊎ (InRest rest n ⊎ InAsked said n)))
    pub owned : IsOwned r.state rest

  -- ---- a refresh

  marked_both : (reach : List NodeId) (s t : State) → t.table ≡ loss_marked reach s.moment s.table → AreOfBoth of_entry before start.reach s → AreOfBoth of_entry before start.reach t
  marked_both reach s t table both id stored is = by_held (held s.table.entries id) refl
    where
      there : option_map (held_after reach s.moment id) (held s.table.entries id) ≡ Some stored
      there = sym (ap (λ (x : Nodes). held x.entries id) table ∙ held_marked reach s.moment s.table.entries id) ∙ is

      by_held : (o : Option Stored) → held s.table.entries id ≡ o → ((old : Stored) × (held before.table.entries id ≡ Some old))
          ⊎ ((x : NodeId) × Contains start.reach x × (x.0 ≡ id) × (is_news before x ≡ true))
      by_held None none = absurd (let clash : None ≡ Some stored = sym (ap (option_map (held_after reach s.moment id)) none) ∙ there in cc)
      by_held (Some old) some = both id old some

  pub learns_refreshed : (b c : Running) (rest : List Saying) → Ascend ports → Learns b rest → IsRefresh b c → Learns c rest × IsPublished c.state
  learns_refreshed b c rest up h refresh = (
    record {
      named = ap (λ (x : Running). x.state.id) k.gives ∙ h.named;
      signed = k.signed ∙ h.signed;
      table = subst IsTable (sym table) (marks k.reach b.state.moment b.state.table h.table);
      limit = ap (λ (x : Nodes). x.limit) table ∙ h.limit;
      both = marked_both k.reach b.state c.state table h.both;
      said = h.said;
      are = ap (λ (x : Running). x.answers) k.gives ∙ h.are;
      all = h.all;
      each = λ roomy n given other. elim (h.each roomy n given other) [
        | inl settled ↦ inl (settled_marked before k.reach b.state c.state n table settled)
        | inr waits ↦ inr (before_marked before k.reach b.state c.state n table waits.0, waits.1)
      ];
      owned = owned h.owned;
    },
    k.published,
  )
    where
      k : IsRefreshing b c
      k = refresh_leaves b c (ascend_from_signs b.state.ports ports h.signed up) refresh

      table : c.state.table ≡ loss_marked k.reach b.state.moment b.state.table
      table = ap (λ (x : Running). x.state.table) k.gives

      owned : IsOwned b.state rest → IsOwned c.state rest
      owned (inl safe) = inl (λ n given own.
          let was = safe n given own in
          let same = k.kept was.0 in
          let part : own_part c.state ≡ own_part b.state = ap (λ (x : Running). own_part x.state) k.gives ∙ (λ i. record { number = same.0 i; hash = (same.1 i).hash }) in
          (k.published, subst (λ (p : Part). IsStale (Some p) (state_of n)) (sym part) was.1))
      owned (inr waits) = inr waits

  -- ---- what is heard

  pub published_ports : (s : State) (others : List Port) → signs others ≡ signs s.ports → IsPublished s → IsPublished (record s { ports = others })
  published_ports s others same h = record { same = rw (links_from_signs others s.ports same) h.same; young = h.young }

  pub learns_heard : (r b : Running) (rest : List Saying) → IsHeard r b → Learns r rest → Learns b rest
  learns_heard r b rest heard h = subst (λ (x : Running). Learns x rest) (sym heard.gives) (record {
    named = h.named;
    signed = heard.signed ∙ h.signed;
    table = h.table;
    limit = h.limit;
    both = h.both;
    said = h.said;
    are = h.are;
    all = h.all;
    each = λ roomy n given other. elim (h.each roomy n given other) [
      | inl settled ↦ inl (settled_same before r.state (record r.state { ports = heard.ports }) n refl settled)
      | inr waits ↦ inr (before_same before r.state (record r.state { ports = heard.ports }) n refl waits.0, waits.1)
    ];
    owned = elim h.owned [
      | inl safe ↦ inl (λ n given own. let was = safe n given own in (published_ports r.state heard.ports heard.signed was.0, was.1))
      | inr waits ↦ inr waits
    ];
  })

  -- an answer comes up
  pub learns_asked : (about : Subject) (i : PlainItem) (r : Running) (rest : List Saying) → IsAsked about i → Learns r rest → Learns (with_answer about i r) rest
  learns_asked about i r rest asked h =
      let more = with_more Asks h.said about i r h.are h.all asked in
      record {
        named = h.named;
        signed = h.signed;
        table = h.table;
        limit = h.limit;
        both = h.both;
        said = more.next;
        are = more.are;
        all = more.all;
        each = λ roomy n given other. elim (h.each roomy n given other) [
          | inl settled ↦ inl settled
          | inr waits ↦ inr (
            waits.0,
            elim waits.1 [
              | inl elsewhere ↦ inl elsewhere
              | inr (inl there) ↦ inr (inl there)
              | inr (inr old) ↦ inr (inr (old.0, more.keeps old.0 old.1, old.2))
            ],
          )
        ];
        owned = h.owned;
      }

  -- what is left of the list without the first, where that is of no node that is waited for
  pub in_rest : (s : Saying) (rest : List Saying) (n : Entry) → (s.about ≢ NodeState n.id) → (s.about ≢ NodeData n.id) → InRest (s ∷ rest) n → InRest rest n
  in_rest s rest n not_state not_data (x, there, about) = elim (Contains-cases s rest x there) [
    | inl here ↦ elim about [
      | inl state ↦ absurd (not_state (ap (λ (y : Saying). y.about) here ∙ state))
      | inr data_ ↦ absurd (not_data (ap (λ (y : Saying). y.about) here ∙ data_))
    ]
    | inr later ↦ (x, later, about)
  ]

  pub own_in_rest : (s : Saying) (rest : List Saying) → ((id : NodeId) → s.about ≡ NodeState id → id.0 ≢ before.id.0) → OwnInRest start before (s ∷ rest) → OwnInRest start before rest
  own_in_rest s rest apart (n, given, own, (x, there, about)) = elim (Contains-cases s rest x there) [
    | inl here ↦ absurd (apart n.id (ap (λ (y : Saying). y.about) here ∙ about) own)
    | inr later ↦ (n, given, own, (x, later, about))
  ]

  pub owned_rest : (s : Saying) (rest : List Saying) (t : State) → ((id : NodeId) → s.about ≡ NodeState id → id.0 ≢ before.id.0) → IsOwned t (s ∷ rest) → IsOwned t rest
  owned_rest s rest t apart (inl safe) = inl safe
  owned_rest s rest t apart (inr (up, inl here)) = inr (up.1, inl (own_in_rest s rest apart here))
  owned_rest s rest t apart (inr (up, inr later)) = inr (up.1, inr later)

  -- a Network State is passed
  pub learns_network : (s : Saying) (rest : List Saying) (r b : Running) → s.about ≡ NetworkState → IsCompared r b → Learns r (s ∷ rest) → Learns b rest
  learns_network s rest r b about compared h = by_asks compared.asks
    where
      passed : Learns compared.between rest
      passed =
          let k = learns_heard r compared.between (s ∷ rest) compared.heard h in
          record {
            named = k.named;
            signed = k.signed;
            table = k.table;
            limit = k.limit;
            both = k.both;
            said = k.said;
            are = k.are;
            all = k.all;
            each = λ roomy n given other. elim (k.each roomy n given other) [
              | inl settled ↦ inl settled
              | inr waits ↦ inr (
                waits.0,
                elim waits.1 [
                  | inl elsewhere ↦ inl elsewhere
                  | inr (inl there) ↦ inr (inl (in_rest s rest n (λ e. absurd (let clash : NetworkState ≡ NodeState n.id = sym about ∙ e in cc))
                      (λ e. absurd (let clash : NetworkState ≡ NodeData n.id = sym about ∙ e in cc)) there))
                  | inr (inr old) ↦ inr (inr old)
                ],
              )
            ];
            owned = owned_rest s rest compared.between.state (λ id e. absurd (let clash : NetworkState ≡ NodeState id = sym about ∙ e in cc)) k.owned;
          }

      by_asks : (b ≡ compared.between) ⊎ (b ≡ with_answer NetworkRequest (item.RequestNetwork []) compared.between) → Learns b rest
      by_asks (inl is) = subst (λ (x : Running). Learns x rest) (sym is) passed
      by_asks (inr is) = subst (λ (x : Running). Learns x rest) (sym is) (learns_asked NetworkRequest (item.RequestNetwork []) compared.between rest refl passed)
