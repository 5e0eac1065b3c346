-- The states of nodes arrive at the router that asks, one after another.
use Rattle.hn_base.proofs.Names.{◌≡◌, ◌≢◌, ◌∙◌, ◌⊎◌, ◌<◌, ◌+◌, ◌%◌, ◌^◌, ℕ, Bool, true, false, not, List, [], ◌∷◌, map, Contains, Option, Some, None, sym, ap, subst, refl, inl, inr, arith, cases_eq}
use Rattle.hn_base.proofs.Names.{ne_eqb, All-head, All-tail, Then, Each}
use Rattle.hn_sync.proofs.Names.{◌==◌, is_none, All, Contains-head, same_node, NodeId, Entry, Port, hash_of, Subject, NetworkRequest, NetworkState, NodeRequest, NodeState, NodeData, Origin, Running}
use Rattle.hn_sync.proofs.Names.{State, with_answer, IsItemRule, IsTlvRule, IsClaim, own_leaf, took_noted, IsTaken, IsNodeState, IsPublished, IsRefresh, noted, IsStale, IsAnswer, entries_after}
use Rattle.hn_sync.proofs.Names.{HeldIsOfAnEntry, MarksKeepTable, PutChangesOneNode, Nodes, held, IsTable, Took, HeldNode, Stored, PlainItem, RequestNode, state_of, HasRoomFor, IsRepaired, is_news}
use Rattle.hn_sync.proofs.Names.{IsHash}
use Rattle.hn_rules.specs.declared.done.Note.TheVariants as note
use Rattle.hn_store.specs.Laws.{OthersStay, AcceptanceKeepsTable, HeldWasBrought}
use Rattle.hn_store.specs.declared.state.Took.TheVariants as took
use Rattle.hn_sync.proofs.Answered.{with_more}
use Rattle.hn_sync.proofs.NodeStatesSaid.{IsFit, Knows, knows_one, IsSaidOf, Says, Asks, EntryLaws, can_say}
use Rattle.hn_sync.proofs.Greetings.{network_heard}
use Rattle.hn_sync.proofs.Holding.{state_said, AsBefore, before_same, settled_same, settles, stays_settled}
use Rattle.hn_sync.proofs.AskerLearns.{InRest, InAsked, own_part, IsGiven, IsOwned, Learns, learns_refreshed, learns_network, in_rest, owned_rest}
use Rattle.hn_sync.proofs.Naming.{own_is, own_answer, not_claimed, claimed_stale, below_kind, IsRenamed, drawn_other, renamed_refreshed, renamed_state}
use Rattle.hn_sync.proofs.Replies.{Ascends}
use Rattle.hn_sync.proofs.RoomForNodes.{both_true, AreOfBoth, room_here}
use Rattle.hn_sync.proofs.Sayings.{ReadLaws, rule_of, Saying, tlv_said}
use Rattle.hn_sync.proofs.PeersSaid.{signs, Ascend, ascend_from_signs}

pub record TableLaws : Type 0 where
  pub of_entry : HeldIsOfAnEntry
  pub marks : MarksKeepTable
  pub put_one : PutChangesOneNode
  pub others : OthersStay
  pub accept : AcceptanceKeepsTable
  pub brought : HeldWasBrought

module _ (laws : TableLaws) (start before : State) (ports : List Port) (Elsewhere : Entry → Type 0) (Later : Type 0)
    (fit : IsFit start) (before_table : IsTable before.table) (up : Ascend ports) where
  abbrev pub Learnt : Running → List Saying → Type 0
  Learnt r rest = Learns laws.of_entry laws.marks start before ports Elsewhere Later r rest

  abbrev Given : Entry → Type 0
  Given n = IsGiven start n

  one_given : (m n : Entry) → Given m → Given n → m.id.0 ≡ n.id.0 → m ≡ n
  one_given m n h k same =
      knows_one laws.of_entry start fit n.id m n (subst (λ (id : NodeId). Knows start id m) (same_node m.id n.id same) h.knows) k.knows

  -- what is said of a node, without data or with
  abbrev IsAbout : Saying → Bool → Entry → Type 0
  IsAbout s with_data n = ((s.about ≡ NodeState n.id) × (with_data ≡ false)) ⊎ ((s.about ≡ NodeData n.id) × (with_data ≡ true))

  about_id : (s : Saying) (with_data : Bool) (n : Entry) → IsAbout s with_data n → (id : NodeId) → (s.about ≡ NodeState id) ⊎ (s.about ≡ NodeData id) → id ≡ n.id
  about_id s with_data n (inl h) id (inl k) = let same : NodeState id ≡ NodeState n.id = sym k ∙ h.0 in cc
  about_id s with_data n (inl h) id (inr k) = absurd (let same : NodeData id ≡ NodeState n.id = sym k ∙ h.0 in cc)
  about_id s with_data n (inr h) id (inl k) = absurd (let same : NodeState id ≡ NodeData n.id = sym k ∙ h.0 in cc)
  about_id s with_data n (inr h) id (inr k) = let same : NodeData id ≡ NodeData n.id = sym k ∙ h.0 in cc

  -- hope for a node, after what was said of another one
  abbrev Hope : List Saying → List Saying → Entry → Type 0
  Hope rest said m = Elsewhere m ⊎ (InRest rest m ⊎ InAsked said m)

  module _ (s : Saying) (with_data : Bool) (n : Entry) (given : Given n) (about : IsAbout s with_data n) (rest : List Saying) (r b : Running)
      (h : Learnt r (s ∷ rest)) (rule : IsNodeState (state_said with_data n) r b) where
    -- with the table as it is then
    abbrev tabled : Running
    tabled = record r { state = record r.state { table = rule.table } }

    other_rest : (m : Entry) → m.id.0 ≢ n.id.0 → Hope (s ∷ rest) h.said m → Hope rest h.said m
    other_rest m other (inl elsewhere) = inl elsewhere
    other_rest m other (inr (inr old)) = inr (inr old)
    other_rest m other (inr (inl there)) =
        inr (inl (in_rest laws.of_entry laws.marks start before ports Elsewhere Later s rest m
        (λ e. other (ap (λ (x : NodeId). x.0) (about_id s with_data n about m.id (inl e))))
        (λ e. other (ap (λ (x : NodeId). x.0) (about_id s with_data n about m.id (inr e)))) there))

    limit_after : rule.table.limit ≡ before.table.limit
    limit_after = ap (λ (x : Nodes). x.limit) rule.accepts.after ∙ h.limit

    table_after : IsTable rule.table
    table_after = laws.accept r.state.table (own_leaf r.state) (state_said with_data n) r.state.moment rule.table rule.how h.table rule.accepts

    -- the state is of another node
    module _ (other : n.id.0 ≢ before.id.0) where
      both_after : AreOfBoth laws.of_entry before start.reach (record r.state { table = rule.table })
      both_after id stored is = elim (laws.brought r.state.table (own_leaf r.state) (state_said with_data n) r.state.moment rule.table rule.how id stored rule.accepts is) [
        | inl was ↦ h.both id was.before was.was
        | inr new ↦ by_before (held before.table.entries n.id.0) refl new.0
      ]
        where
          by_before : (o : Option Stored) → held before.table.entries n.id.0 ≡ o → id ≡ n.id.0
              → ((old : Stored) × (held before.table.entries id ≡ Some old)) ⊎ ((x : NodeId) × Contains start.reach x × (x.0 ≡ id) × (is_news before x ≡ true))
          by_before (Some old) some same = inl (old, ap (held before.table.entries) same ∙ some)
          by_before None none same =
              inr (
                n.id,
                given.reached,
                sym same,
                both_true (not (n.id.0 == before.id.0)) (is_none (held before.table.entries n.id.0))
                    (ap not (ne_eqb n.id.0 before.id.0 other)) (ap (λ (o : Option Stored). is_none o) none),
              )

      not_own : n.id.0 ≢ r.state.id.0
      not_own same = other (same ∙ ap (λ (x : NodeId). x.0) h.named)

      not_claim : rule.how ≢ took.Own
      not_claim is = not_own (own_is r.state.table (own_leaf r.state) (state_said with_data n) (subst (IsAnswer r.state.table (own_leaf r.state) (state_said with_data n)) is rule.accepts.answer))

      -- what is known then of each node
      abbrev Each_after : Entry → Type 0
      Each_after m = IsRepaired before tabled.state m ⊎ (AsBefore before tabled.state m × (Hope rest h.said m ⊎ ((rule.how ≡ took.Ask) × (m ≡ n))))

      each_after : HasRoomFor before start.reach → (m : Entry) → Given m → m.id.0 ≢ before.id.0 → Each_after m
      each_after room m m_given m_other = elim (cases_eq m.id.0 n.id.0) [
        | inl same ↦ (let one = one_given m n m_given given same in subst Each_after (sym one) (of_this (h.each room n given other)))
        | inr apart ↦ of_others apart (h.each room m m_given m_other)
      ]
        where
          of_this : IsRepaired before r.state n ⊎ (AsBefore before r.state n × Hope (s ∷ rest) h.said n) → Each_after n
          of_this (inl settled) =
              inl (stays_settled before laws.put_one laws.of_entry n given.knows.fits with_data r.state tabled.state
              (own_leaf r.state) r.state.moment rule.table rule.how rule.accepts refl not_own h.table settled)
          of_this (inr waits) = elim (settles before laws.put_one laws.of_entry n given.knows.fits with_data r.state tabled.state
              (own_leaf r.state) r.state.moment rule.table rule.how rule.accepts refl not_own before_table
              (room_here laws.of_entry before start.reach r.state n h.table h.limit room h.both given.reached other waits.0) waits.0) [
                | inl settled ↦ inl settled
                | inr asks ↦ inr (asks.0, inr (asks.1, refl))
              ]

          of_others : m.id.0 ≢ n.id.0 → IsRepaired before r.state m ⊎ (AsBefore before r.state m × Hope (s ∷ rest) h.said m) → Each_after m
          of_others apart (inl settled) =
              inl (settled_same before r.state tabled.state m
              (laws.others r.state.table (own_leaf r.state) (state_said with_data n) r.state.moment rule.table rule.how m.id.0 rule.accepts apart) settled)
          of_others apart (inr waits) =
              inr (
                before_same before r.state tabled.state m
                    (laws.others r.state.table (own_leaf r.state) (state_said with_data n) r.state.moment rule.table rule.how m.id.0 rule.accepts apart) waits.0,
                inl (other_rest m apart waits.1),
              )

      owned_after : IsOwned laws.of_entry laws.marks start before ports Elsewhere Later tabled.state rest
      owned_after = by_owned (owned_rest laws.of_entry laws.marks start before ports Elsewhere Later s rest r.state
          (λ id e own. other (ap (λ (x : NodeId). x.0) (sym (about_id s with_data n about id (inl e))) ∙ own)) h.owned)
        where
          by_owned : IsOwned laws.of_entry laws.marks start before ports Elsewhere Later r.state rest → IsOwned laws.of_entry laws.marks start before ports Elsewhere Later tabled.state rest
          by_owned (inl safe) = inl (λ m m_given m_own. let was = safe m m_given m_own in (record { same = was.0.same; young = was.0.young }, was.1))
          by_owned (inr waits) = inr waits

      learnt_with : (HasRoomFor before start.reach → (m : Entry) → Given m → m.id.0 ≢ before.id.0 → IsRepaired before tabled.state m ⊎ (AsBefore before tabled.state m × Hope rest h.said m))
          → Learnt tabled rest
      learnt_with each = record {
        named = h.named;
        signed = h.signed;
        table = table_after;
        limit = limit_after;
        both = both_after;
        said = h.said;
        are = h.are;
        all = h.all;
        each = each;
        owned = owned_after;
      }

      id_fits : n.id.0 < 2 ^ 32
      id_fits = given.knows.fits.id_fits

      learnt_asked : rule.how ≡ took.Ask → Learnt (with_answer (NodeRequest (record { 0 = n.id.0 })) (RequestNode n.id.0 []) tabled) rest
      learnt_asked asks =
          let more = with_more Asks h.said (NodeRequest n.id) (RequestNode n.id.0 []) tabled h.are h.all (refl, id_fits) in
          record {
            named = h.named;
            signed = h.signed;
            table = table_after;
            limit = limit_after;
            both = both_after;
            said = more.next;
            are = more.are;
            all = more.all;
            each = λ room m m_given m_other. elim (each_after room m m_given m_other) [
              | inl settled ↦ inl settled
              | inr (waits, inl (inl elsewhere)) ↦ inr (waits, inl elsewhere)
              | inr (waits, inl (inr (inl there))) ↦ inr (waits, inr (inl there))
              | inr (waits, inl (inr (inr old))) ↦ inr (waits, inr (inr (old.0, more.keeps old.0 old.1, old.2)))
              | inr (waits, inr asked) ↦ inr (waits, inr (inr (more.one, more.there, sym more.subject ∙ ap (λ (x : Entry). NodeRequest x.id) (sym asked.1))))
            ];
            owned = owned_after;
          }

      noted_learnt : (r2 : Running) → Learnt r2 rest → Learnt (took_noted (state_said with_data n) rule.how r2) rest
      noted_learnt r2 k = record { named = k.named; signed = k.signed; table = k.table; limit = k.limit; both = k.both; said = k.said; are = k.are; all = k.all; each = k.each; owned = k.owned }

      other_learnt : Learnt b rest
      other_learnt = by_taken (not_claimed (state_said with_data n) rule.how tabled b not_claim rule.taken)
        where
          without_ask : (k : rule.how ≢ took.Ask) → Learnt tabled rest
          without_ask k = learnt_with (λ room m m_given m_other. elim (each_after room m m_given m_other) [
            | inl settled ↦ inl settled
            | inr (waits, inl hope) ↦ inr (waits, hope)
            | inr (waits, inr asked) ↦ absurd (k asked.0)
          ])

          by_taken : ((rule.how ≢ took.Ask) × (b ≡ took_noted (state_said with_data n) rule.how tabled))
              ⊎ ((rule.how ≡ took.Ask) × (b ≡ with_answer (NodeRequest (record { 0 = n.id.0 })) (RequestNode n.id.0 []) (took_noted (state_said with_data n) took.Ask tabled))) → Learnt b rest
          by_taken (inr k) =
              let asked = learnt_asked k.0 in
              subst (λ (x : Running). Learnt x rest) (sym k.1)
              (record {
                named = asked.named;
                signed = asked.signed;
                table = asked.table;
                limit = asked.limit;
                both = asked.both;
                said = asked.said;
                are = asked.are;
                all = asked.all;
                each = asked.each;
                owned = asked.owned;
              })
          by_taken (inl k) = subst (λ (x : Running). Learnt x rest) (sym k.1) (noted_learnt tabled (without_ask k.0))

    -- the state is of the own identifier
    module _ (own : n.id.0 ≡ before.id.0) where
      is_own : n.id.0 ≡ r.state.id.0
      is_own = own ∙ ap (λ (x : NodeId). x.0) (sym h.named)

      -- the table stays, and so does what is known of other nodes
      stays : (x : Running) → x.state.id ≡ r.state.id → signs x.state.ports ≡ signs r.state.ports → x.state.table ≡ r.state.table → x.answers ≡ r.answers
          → IsOwned laws.of_entry laws.marks start before ports Elsewhere Later x.state rest → Learnt x rest
      stays x same_id same_ports same_table same_answers owned = record {
        named = same_id ∙ h.named;
        signed = same_ports ∙ h.signed;
        table = subst IsTable (sym same_table) h.table;
        limit = ap (λ (t : Nodes). t.limit) same_table ∙ h.limit;
        both = λ id stored is. h.both id stored (sym (ap (λ (t : Nodes). held t.entries id) same_table) ∙ is);
        said = h.said;
        are = same_answers ∙ h.are;
        all = h.all;
        each = λ room m m_given m_other. elim (h.each room m m_given m_other) [
          | inl settled ↦ inl (settled_same before r.state x.state m (ap (λ (t : Nodes). held t.entries m.id.0) same_table) settled)
          | inr waits ↦ inr (before_same before r.state x.state m (ap (λ (t : Nodes). held t.entries m.id.0) same_table) waits.0, other_rest m (λ e. m_other (e ∙ own)) waits.1)
        ];
        owned = owned;
      }

      abbrev Renamed : Type 0
      Renamed = IsRenamed before.id b rest

      same_tabled : (how : Took) → rule.how ≡ how → ((entries_after r.state.table.entries (state_said with_data n) r.state.moment how) ≡ r.state.table.entries) → rule.table ≡ r.state.table
      same_tabled how is same = rule.accepts.after ∙ ap (λ (es : List HeldNode). let t : Nodes = record r.state.table { entries = es } in t)
          (ap (λ (w : Took). entries_after r.state.table.entries (state_said with_data n) r.state.moment w) is ∙ same)

      safe_by : (number : ℕ) (hash : List ℕ) → IsStale (Some (record { number = number; hash = hash })) (state_of n) → (m : Entry) → Given m
          → m.id.0 ≡ before.id.0 → IsStale (Some (record { number = number; hash = hash })) (state_of m)
      safe_by number hash stale m m_given m_own =
          subst (λ (x : Entry). IsStale (Some (record { number = number; hash = hash })) (state_of x)) (one_given n m given m_given (own ∙ sym m_own)) stale

      own_stale : IsPublished r.state → IsStale (Some (own_part r.state)) (state_of n) → rule.how ≡ took.Stale → Learnt b rest
      own_stale published stale is =
          let taken : IsTaken (state_said with_data n) took.Stale tabled b = subst (λ (w : Took). IsTaken (state_said with_data n) w tabled b) is rule.taken in
          let table : rule.table ≡ r.state.table = same_tabled took.Stale is refl in
          let noted_r : Running = took_noted (state_said with_data n) took.Stale tabled in
          subst (λ (x : Running). Learnt x rest) (sym taken)
          (stays noted_r refl refl table refl (inl (λ m m_given m_own. (record { same = published.same; young = published.young }, safe_by r.state.number r.state.own.hash stale m m_given m_own))))

      own_claimed : ¬ (IsStale (Some (own_part r.state)) (state_of n)) → rule.how ≡ took.Own → Learnt b rest ⊎ Renamed
      own_claimed fresh is = by_owned h.owned
        where
          begun : Running
          begun = noted (note.Own n.number) (record r { state = record r.state { table = rule.table } })

          table : rule.table ≡ r.state.table
          table = same_tabled took.Own is refl

          claim : IsClaim n.number (noted (note.Own n.number) (record r { state = record r.state { table = rule.table } })) b
          claim = subst (λ (w : Took). IsTaken (state_said with_data n) w (record r { state = record r.state { table = rule.table } }) b) is rule.taken

          by_claim : Ascends (s ∷ rest) → IsClaim n.number (noted (note.Own n.number) (record r { state = record r.state { table = rule.table } })) b → Learnt b rest ⊎ Renamed
          by_claim up_rest (inl k) =
              let gives = k.publishes.gives in
              let born = k.publishes.born_is in
              let items = k.publishes.items_are in
              let moment : b.state.moment ≡ r.state.moment = ap (λ (x : Running). x.state.moment) gives in
              let own_is_new : b.state.own ≡ k.publishes.own = ap (λ (x : Running). x.state.own) gives in
              let number : b.state.number ≡ (n.number + 1000) % 2 ^ 32 = ap (λ (x : Running). x.state.number) gives in
              let published : IsPublished b.state = subst (λ (x : Running). IsPublished x.state) (sym gives) (record { same = sym items; young = omega (arith, born) }) in
              let stale = claimed_stale b.state.number n.number b.state.own.hash (hash_of n.body) given.knows.fits.number_fits number in
              inl (stays b (ap (λ (x : Running). x.state.id) gives) (ap (λ (x : Running). signs x.state.ports) gives)
              (ap (λ (x : Running). x.state.table) gives ∙ table) (ap (λ (x : Running). x.answers) gives)
              (inl (λ m m_given m_own. (published, safe_by b.state.number b.state.own.hash stale m m_given m_own))))
          by_claim up_rest (inr k) =
              let gives = k.publishes.gives in
              inr (record {
                other = λ same. drawn_other n.number (noted (note.Own n.number) (record r { state = record r.state { table = rule.table } })) b k (same ∙ ap (λ (x : NodeId). x.0) (sym h.named));
                ascend = subst Ascend (ap (λ (x : Running). x.state.ports) (sym gives)) (ascend_from_signs r.state.ports ports h.signed up);
                ascends = up_rest.1;
                kinds = λ x there. below_kind s.about x.about (up_rest.0 x there);
                free = inl (ap (λ (x : Running). x.state.claimed) gives);
              })

          by_owned : IsOwned laws.of_entry laws.marks start before ports Elsewhere Later r.state (s ∷ rest) → Learnt b rest ⊎ Renamed
          by_owned (inl safe) = absurd (fresh (safe n given own).1)
          by_owned (inr waits) = by_claim waits.0 claim

      own_learnt : IsPublished r.state → Learnt b rest ⊎ Renamed
      own_learnt published = elim (own_answer r.state.table (own_leaf r.state) with_data n rule.how given.knows.fits is_own rule.accepts.answer) [
        | inl stale ↦ inl (own_stale published stale.0 stale.1)
        | inr claimed ↦ own_claimed claimed.0 claimed.1
      ]

    state_learnt : IsPublished r.state → Learnt b rest ⊎ IsRenamed before.id b rest
    state_learnt published = elim (cases_eq n.id.0 before.id.0) [
      | inl own ↦ own_learnt own published
      | inr other ↦ inl (other_learnt other)
    ]

  -- ---- a list arrives

  module _ (read : ReadLaws) (entry_laws : EntryLaws) (hash : IsHash start.net) (from : Origin) where
    -- one TLV
    one_learnt : (about : Subject) (i : PlainItem) (rest : List Saying) (r b : Running) → Says start (record { about = about; item = i })
        → IsPublished r.state → Learnt r (record { about = about; item = i } ∷ rest)
        → IsItemRule from i r b → Learnt b rest ⊎ IsRenamed before.id b rest
    one_learnt NetworkState i rest r b says published h rule =
        let compares = network_heard from.endpoint start.net r b (ascend_from_signs r.state.ports ports h.signed up) (subst (λ (j : PlainItem). IsItemRule from j r b) says rule) in
        inl (learns_network laws.of_entry laws.marks start before ports Elsewhere Later (record { about = NetworkState; item = i }) rest r b refl compares h)
    one_learnt (NodeState id) i rest r b says published h rule =
        let named : says.0.id ≡ id = says.2.named in
        let given : Given says.0 = record { reached = subst (Contains start.reach) (sym named) says.1; knows = subst (λ (x : NodeId). Knows start x says.0) (sym named) says.2 } in
        state_learnt (record { about = NodeState id; item = i }) false says.0 given (inl (ap NodeState (sym named), refl)) rest r b h
        (subst (λ (j : PlainItem). IsItemRule from j r b) says.3 rule) published
    one_learnt (NodeData id) i rest r b says published h rule =
        let named : says.0.id ≡ id = says.2.named in
        let given : Given says.0 = record { reached = subst (Contains start.reach) (sym named) says.1; knows = subst (λ (x : NodeId). Knows start x says.0) (sym named) says.2 } in
        state_learnt (record { about = NodeData id; item = i }) true says.0 given (inr (ap NodeData (sym named), refl)) rest r b h
        (subst (λ (j : PlainItem). IsItemRule from j r b) says.3 rule) published
    one_learnt NetworkRequest i rest r b says published h rule = absurd says
    one_learnt (NodeRequest id) i rest r b says published h rule = absurd says

    renamed_walk : (items : List Saying) → All (Says start) items → (r a : Running) → IsRenamed before.id r items
        → Each (λ tlv. Then (IsTlvRule from tlv) IsRefresh) (map tlv_said items) r a → IsRenamed before.id a []
    renamed_walk [] says r a h each = subst (λ (x : Running). IsRenamed before.id x []) (sym each) h
    renamed_walk (s ∷ items) says r a h each =
        let first = All-head (Says start) s items says in
        let rule = rule_of read from s.item r each.1.0 (can_say entry_laws start hash s.about s.item first) each.1.1 in
        let kind = h.kinds s (Contains-head s items) in
        let said = subst (λ (o : Subject). IsSaidOf start o s.item) kind.1 first in
        let passed = renamed_state before.id s items (state_said false said.0) kind.0 r each.1.0 kind.1 (ap (λ (x : NodeId). x.0) said.2.named)
        (subst (λ (j : PlainItem). IsItemRule from j r each.1.0) said.3 rule) h in
        renamed_walk items (All-tail (Says start) s items says) each.0 a (renamed_refreshed before.id each.1.0 each.0 items passed each.1.2) each.2

    pub walk : (items : List Saying) → All (Says start) items → (r a : Running) → IsPublished r.state → Learnt r items → Each (λ tlv. Then (IsTlvRule from tlv) IsRefresh) (map tlv_said items) r a
        → (Learnt a [] × IsPublished a.state) ⊎ IsRenamed before.id a []
    walk [] says r a published h each = inl (subst (λ (x : Running). Learnt x []) (sym each) h, subst (λ (x : Running). IsPublished x.state) (sym each) published)
    walk (s ∷ items) says r a published h each =
        let first = All-head (Says start) s items says in
        let rule = rule_of read from s.item r each.1.0 (can_say entry_laws start hash s.about s.item first) each.1.1 in
        elim (one_learnt s.about s.item items r each.1.0 first published h rule) [
          | inl learnt ↦
              let then = learns_refreshed laws.of_entry laws.marks start before ports Elsewhere Later each.1.0 each.0 items up learnt each.1.2 in
              walk items (All-tail (Says start) s items says) each.0 a then.1 then.0 each.2
          | inr renamed ↦ inr (renamed_walk items (All-tail (Says start) s items says) each.0 a (renamed_refreshed before.id each.1.0 each.0 items renamed each.1.2) each.2)
        ]
