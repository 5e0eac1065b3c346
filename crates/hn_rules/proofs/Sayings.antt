-- What is answered and sent says what was published.
use Rattle.hn_base.proofs.Names.{◌≡◌, ◌≢◌, ◌-◌, ◌⊎◌, ℕ, Bool, true, false, List, [], ◌∷◌, ◌++◌, map, Some, inl, inr, refl, sym, subst, arith, All, All-nil, All-cons, All-head, All-tail, All-map}
use Rattle.hn_base.proofs.Names.{All-contains, Contains-append_left, Contains-append_right, Contains-append_cases}
use Rattle.hn_rules.proofs.Names.{EpId, NodeId, PlainTlv, IsTlv, IsTlvList, spelling, ListIsUnique, IsHash, PlainItem, RequestNetwork, RequestNode, NetworkState, NodeState, tlv_of, PackingIsRead}
use Rattle.hn_rules.proofs.Names.{IsPacking, AreRead, sender_tlv, held, IsIntact, Stored, Answer, Subject, Outgoing, Publication, Running, State, ArePacked, IsAnswerAbout, HoldsPublished}
use Rattle.hn_rules.proofs.Names.{SaysPublished, TlvSaysPublished, TlvsSayPublished, BytesSayPublished, IsGenuineAnswer, age_at, sent_age, sent_data, own_state, held_state, state_item, IsWell}
use Rattle.hn_rules.proofs.Names.{IsHashed}
use Rattle.hn_rules.specs.declared.answers.Subject.TheVariants as subject
use Rattle.hn_rules.specs.Genuine.{IsGenuine}
use Rattle.hn_rules.proofs.AnswerTlvs.{AnswerLaws, network_tlv, IsSentState, state_writable, of_known, own_sent, held_sent, answer_tlv}
use Rattle.hn_rules.proofs.LawsFromBelow.{held_all}

-- the laws of answers, TLVs and packings
pub record SayLaws : Type 0 where
  pub answer : AnswerLaws
  pub one_list : ListIsUnique
  pub packing : PackingIsRead

module _ (published : List Publication) where
  other_kind : (tlv : PlainTlv) → tlv.kind ≢ 5 → TlvSaysPublished published tlv
  other_kind tlv other node number age hash body is = absurd (other is.spelled.0)

  -- an item's TLV says what was published
  abbrev IsGenuineItem : PlainItem → Type 0
  IsGenuineItem i = TlvSaysPublished published (tlv_of i)

  -- ---- Node States

  -- what an item says of node data was published
  abbrev ItemSays : PlainItem → Type 0
  ItemSays (NodeState node number age hash body) = SaysPublished published node number hash body
  ItemSays _ = Unit {0}

  module _ (laws : SayLaws) where
    state_genuine : (node number age : ℕ) (hash body : List ℕ) → IsSentState node number age hash body → SaysPublished published node number hash body
        → IsGenuineItem (NodeState node number age hash body)
    state_genuine node number age hash body sent says n m a h b is =
        let i : PlainItem = NodeState node number age hash body in
        subst ItemSays (laws.answer.read.same_item (tlv_of i) i (NodeState n m a h b) (laws.answer.read.written_is_item i (state_writable node number age hash body sent)) is) says

    sent_is : (with_data : Bool) (body : List ℕ) → (sent_data with_data body ≡ body) ⊎ (sent_data with_data body ≡ [])
    sent_is true body = inl refl
    sent_is false body = inr refl

    own_genuine : (with_data : Bool) (s : State) → IsWell s → IsGenuine published s → IsGenuineItem (own_state with_data s)
    own_genuine with_data s well genuine =
        state_genuine s.id.0 s.number (sent_age (s.moment - s.own.born)) s.own.hash (sent_data with_data s.own.body) (own_sent laws.answer with_data s well)
        (record { data_of = s.own.body; is_published = genuine.own; hash_is = well.own.hashed; body_is = sent_is with_data s.own.body })

    held_genuine : (with_data : Bool) (s : State) (id : NodeId) (stored : Stored) → IsWell s → HoldsPublished published s → held s.table.entries id.0 ≡ Some stored
        → IsGenuineItem (held_state with_data s.moment id stored)
    held_genuine with_data s id stored well holds found =
        let intact : IsIntact stored = held_all laws.answer.of_entry IsIntact s.table.entries id.0 stored well.table.intact found in
        state_genuine id.0 stored.number (sent_age (age_at s.moment stored)) stored.hash (sent_data with_data stored.body) (held_sent laws.answer with_data s well id stored found)
        (record { data_of = stored.body; is_published = holds id.0 stored found; hash_is = intact.hashed; body_is = sent_is with_data stored.body })

    item_genuine : (with_data : Bool) (s : State) (id : NodeId) (i : PlainItem) → IsWell s → IsGenuine published s → state_item with_data s id ≡ Some i → IsGenuineItem i
    item_genuine with_data s id i well genuine =
        of_known IsGenuineItem with_data s id (own_genuine with_data s well genuine) (λ stored found. held_genuine with_data s id stored well genuine.others found) i

    -- ---- answers

    answer_item : (about : Subject) (s : State) (i : PlainItem) → IsHashed s → IsGenuine published s → IsAnswerAbout about s i → IsGenuineItem i
    answer_item subject.NetworkRequest s i hashed genuine is = subst IsGenuineItem (sym is) (other_kind (tlv_of (RequestNetwork [])) (λ (e : 1 ≡ 5). absurd (omega arith)))
    answer_item subject.NetworkState s i hashed genuine is = subst IsGenuineItem (sym is) (other_kind (tlv_of (NetworkState s.net [])) (λ (e : 4 ≡ 5). absurd (omega arith)))
    answer_item (subject.NodeRequest id) s i hashed genuine is = subst IsGenuineItem (sym is.0) (other_kind (tlv_of (RequestNode id.0 [])) (λ (e : 2 ≡ 5). absurd (omega arith)))
    answer_item (subject.NodeState id) s i hashed genuine is = item_genuine false s id i hashed.well genuine is
    answer_item (subject.NodeData id) s i hashed genuine is = item_genuine true s id i hashed.well genuine is

    pub answer_genuine : (about : Subject) (s : State) (i : PlainItem) → IsHashed s → IsGenuine published s → IsAnswerAbout about s i
        → IsGenuineAnswer published (record { subject = about; tlv = spelling (tlv_of i) })
    answer_genuine about s i hashed genuine is =
        record { tlv = tlv_of i; is_tlv = answer_tlv laws.answer about s i hashed is; spelled = refl; says = answer_item about s i hashed genuine is }

    -- ---- datagrams

    -- TLVs that are written so
    pub record AreWritten (written : List (List ℕ)) : Type 0 where
      pub tlvs : List PlainTlv
      pub are : written ≡ map spelling tlvs
      pub each : All IsTlv tlvs
      pub say : All (TlvSaysPublished published) tlvs

    written_cons : (tlv : PlainTlv) (bytes : List ℕ) (written : List (List ℕ)) → IsTlv tlv → bytes ≡ spelling tlv → TlvSaysPublished published tlv → AreWritten written → AreWritten (bytes ∷ written)
    written_cons tlv bytes written is spelled says more = record {
      tlvs = tlv ∷ more.tlvs;
      are = rw (spelled, more.are) refl;
      each = All-cons IsTlv tlv more.tlvs is more.each;
      say = All-cons (TlvSaysPublished published) tlv more.tlvs says more.say;
    }

    none_written : AreWritten []
    none_written = record { tlvs = []; are = refl; each = All-nil IsTlv; say = All-nil (TlvSaysPublished published) }

    answers_written : (answers : List Answer) → All (IsGenuineAnswer published) answers → AreWritten (map (λ a. a.tlv) answers)
    answers_written [] all = none_written
    answers_written (a ∷ answers) all =
        let one = All-head (IsGenuineAnswer published) a answers all in
        written_cons one.tlv a.tlv (map (λ (x : Answer). x.tlv) answers) one.is_tlv one.spelled one.says (answers_written answers (All-tail (IsGenuineAnswer published) a answers all))

    -- a datagram that is read as a sender and TLVs that say what was published
    datagram_says : (own : NodeId) (endpoint : EpId) (group : List PlainTlv) (bytes : List ℕ) → IsTlvList (sender_tlv own endpoint ∷ group) bytes
        → TlvsSayPublished published group → BytesSayPublished published bytes
    datagram_says own endpoint group bytes list say tlvs are =
        subst (TlvsSayPublished published) (laws.one_list (sender_tlv own endpoint ∷ group) tlvs bytes list are) whole
      where
        sender : PlainTlv
        sender = sender_tlv own endpoint

        sender_says : TlvSaysPublished published sender
        sender_says = other_kind sender (λ (e : 3 ≡ 5). absurd (omega arith))

        whole : TlvsSayPublished published (sender ∷ group)
        whole tlv there =
            elim (Contains-append_cases (sender ∷ []) group tlv there) [
              | inl first ↦ All-contains (TlvSaysPublished published) (sender ∷ []) tlv (All-cons (TlvSaysPublished published) sender [] sender_says (All-nil (TlvSaysPublished published))) first
              | inr later ↦ say tlv later
            ]

    datagrams_say : (own : NodeId) (endpoint : EpId) (datagrams : List (List ℕ)) (tlvs : List PlainTlv) → AreRead own endpoint tlvs datagrams
        → TlvsSayPublished published tlvs → All (BytesSayPublished published) datagrams
    datagrams_say own endpoint [] tlvs is say = All-nil (BytesSayPublished published)
    datagrams_say own endpoint (datagram ∷ datagrams) tlvs (group, rest, is, list, more) say =
        let all : TlvsSayPublished published (group ++ rest) = subst (TlvsSayPublished published) is say in
        All-cons (BytesSayPublished published) datagram datagrams
        (datagram_says own endpoint group datagram list (λ tlv there. all tlv (Contains-append_left group rest tlv there)))
        (datagrams_say own endpoint datagrams rest more (λ tlv there. all tlv (Contains-append_right group rest tlv there)))

    pub sends_say : (r : Running) (sends : List Outgoing) → IsHash r.state.net → All (IsGenuineAnswer published) r.answers → ArePacked r sends → All (λ o. BytesSayPublished published o.bytes) sends
    sends_say r sends hash answers packed =
        let all : TlvsSayPublished published written.tlvs = λ tlv there. All-contains (TlvSaysPublished published) written.tlvs tlv written.say there in
        let read : AreRead r.state.id packed.endpoint written.tlvs packed.datagrams =
        laws.packing r.state.id packed.endpoint written.tlvs packed.datagrams written.each
        (subst (λ (tlvs : List (List ℕ)). IsPacking r.state.id packed.endpoint tlvs packed.datagrams) written.are packed.packed) in
        let each : All (BytesSayPublished published) packed.datagrams = datagrams_say r.state.id packed.endpoint packed.datagrams written.tlvs read all in
        subst (All (λ (o : Outgoing). BytesSayPublished published o.bytes)) (sym packed.sends_are)
        (All-map (λ (o : Outgoing). BytesSayPublished published o.bytes)
        (λ (bytes : List ℕ). let o : Outgoing = record { endpoint = packed.endpoint; to = packed.to; bytes = bytes } in o) packed.datagrams each)
      where
        by_case : (packed.tlvs ≡ map (λ a. a.tlv) r.answers) ⊎ (packed.tlvs ≡ spelling (tlv_of (NetworkState r.state.net [])) ∷ []) → AreWritten packed.tlvs
        by_case (inl are) = subst AreWritten (sym are) (answers_written r.answers answers)
        by_case (inr are) =
            subst AreWritten (sym are)
            (written_cons (tlv_of (NetworkState r.state.net [])) (spelling (tlv_of (NetworkState r.state.net []))) [] (network_tlv r.state.net hash) refl
            (other_kind (tlv_of (NetworkState r.state.net [])) (λ (e : 4 ≡ 5). absurd (omega arith))) none_written)

        written : AreWritten packed.tlvs
        written = by_case packed.tlvs_are
