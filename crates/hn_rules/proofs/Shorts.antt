-- What is answered and sent is short.
use Rattle.hn_base.proofs.Names.{◌≡◌, ◌≤◌, ◌+◌, ◌-◌, ◌⊎◌, ◌∙◌, ℕ, Bool, true, false, List, [], ◌∷◌, length, map, Some, inl, inr, lit≤, sym, ap, subst, arith, length-append, All, cond_both}
use Rattle.hn_base.proofs.Names.{length-replicate, All-nil, All-cons, All-append, All-push, All-map, All-weaker, All-contains}
use Rattle.hn_rules.proofs.Names.{NodeId, HashHasEightBytes, PlainTlv, spelling, IsHash, PlainItem, NetworkState, NodeState, value_of, tlv_of, HeldIsOfAnEntry, IsIntact, Stored, Subject, Answer}
use Rattle.hn_rules.proofs.Names.{Outgoing, Running, State, is_answered, ArePacked, IsAnswerAbout, AddAnswer, AddSends, ForgetAnswers, ChangesKeepHashed, age_at, sent_age, sent_data, own_state}
use Rattle.hn_rules.proofs.Names.{held_state, state_item, IsWell}
use Rattle.hn_dncp.specs.Laws.{PackingIsShort}
use Rattle.hn_dncp.specs.Packing.{IsShortDatagram}
use Rattle.hn_rules.specs.declared.answers.Subject.TheVariants as subject
use Rattle.hn_rules.specs.Laws.{ChangesKeepShort}
use Rattle.hn_rules.specs.Lengths.{most_answer, most_datagram}
use Rattle.hn_rules.proofs.AnswerTlvs.{of_known}
use Rattle.hn_rules.proofs.LawsFromBelow.{held_all}

spelling_size : (tlv : PlainTlv) → length (spelling tlv) ≤ length tlv.value + 7
spelling_size tlv = simp (length-append, length-replicate) (omega arith)

abbrev IsShortItem : PlainItem → Type 0
IsShortItem i = length (spelling (tlv_of i)) ≤ most_answer

network_short : (hash : List ℕ) → length hash ≡ 8 → IsShortItem (NetworkState hash [])
network_short hash eight =
    let value : length (value_of (NetworkState hash [])) ≤ 8 = simp length-append (omega arith) in
    omega (arith, spelling_size (tlv_of (NetworkState hash [])))

state_short : (node number age : ℕ) (hash body : List ℕ) → length hash ≡ 8 → length body ≤ 60000 → IsShortItem (NodeState node number age hash body)
state_short node number age hash body eight short =
    let value : length (value_of (NodeState node number age hash body)) ≤ 60020 = simp length-append (omega arith) in
    omega (arith, spelling_size (tlv_of (NodeState node number age hash body)))

sent_short : (with_data : Bool) (body : List ℕ) → length body ≤ 60000 → length (sent_data with_data body) ≤ 60000
sent_short true body short = short
sent_short false body short = lit≤ tt

-- a Node State of the own node, and of a held one
own_short : (with_data : Bool) (s : State) → IsWell s → HashHasEightBytes → IsShortItem (own_state with_data s)
own_short with_data s well eight =
    state_short s.id.0 s.number (sent_age (s.moment - s.own.born)) s.own.hash (sent_data with_data s.own.body) (ap length well.own.hashed ∙ (eight s.own.body).0)
    (sent_short with_data s.own.body (let short = well.own.short in omega arith))

held_short : (with_data : Bool) (now : ℕ) (id : NodeId) (stored : Stored) → IsIntact stored → HashHasEightBytes → IsShortItem (held_state with_data now id stored)
held_short with_data now id stored intact eight =
    state_short id.0 stored.number (sent_age (age_at now stored)) stored.hash (sent_data with_data stored.body) (ap length intact.hashed ∙ (eight stored.body).0)
    (sent_short with_data stored.body intact.short)

module _ (held_of_entry : HeldIsOfAnEntry) (eight : HashHasEightBytes) where
  item_short : (with_data : Bool) (s : State) (id : NodeId) (i : PlainItem) → IsWell s → state_item with_data s id ≡ Some i → IsShortItem i
  item_short with_data s id i well =
      of_known IsShortItem with_data s id (own_short with_data s well eight)
      (λ stored found. held_short with_data s.moment id stored (held_all held_of_entry IsIntact s.table.entries id.0 stored well.table.intact found) eight) i

  -- what is said of a subject is short
  answer_short : (about : Subject) (s : State) (i : PlainItem) → IsWell s → IsHash s.net → IsAnswerAbout about s i → IsShortItem i
  answer_short subject.NetworkRequest s i well hash is = subst IsShortItem (sym is) (lit≤ tt)
  answer_short subject.NetworkState s i well hash is = subst IsShortItem (sym is) (network_short s.net hash.0)
  answer_short (subject.NodeRequest id) s i well hash is = subst IsShortItem (sym is.0) (lit≤ tt)
  answer_short (subject.NodeState id) s i well hash is = item_short false s id i well is
  answer_short (subject.NodeData id) s i well hash is = item_short true s id i well is

abbrev AreShortTlvs : List (List ℕ) → Type 0
AreShortTlvs = All (λ tlv. length tlv ≤ most_answer)

-- datagrams of short TLVs are short
datagram_short : (tlvs : List (List ℕ)) → AreShortTlvs tlvs → (datagram : List ℕ) → IsShortDatagram tlvs datagram → length datagram ≤ most_datagram
datagram_short tlvs short datagram (inl few) = omega arith
datagram_short tlvs short datagram (inr (tlv, there, is)) =
    let one : length tlv ≤ most_answer = All-contains (λ (tlv : List ℕ). length tlv ≤ most_answer) tlvs tlv short there in
    omega arith

sends_short : PackingIsShort → (r : Running) (sends : List Outgoing) → IsHash r.state.net → All (λ a. length a.tlv ≤ most_answer) r.answers
    → ArePacked r sends → All (λ o. length o.bytes ≤ most_datagram) sends
sends_short packing r sends hash short packed =
    let each : All (λ datagram. length datagram ≤ most_datagram) packed.datagrams =
    All-weaker (IsShortDatagram packed.tlvs) _ (datagram_short packed.tlvs (tlvs_short packed.tlvs_are)) packed.datagrams
    (packing r.state.id packed.endpoint packed.tlvs packed.datagrams packed.packed) in
    subst (All (λ (o : Outgoing). length o.bytes ≤ most_datagram)) (sym packed.sends_are)
    (All-map (λ (o : Outgoing). length o.bytes ≤ most_datagram)
    (λ (bytes : List ℕ). let o : Outgoing = record { endpoint = packed.endpoint; to = packed.to; bytes = bytes } in o) packed.datagrams each)
  where
    tlvs_short : (packed.tlvs ≡ map (λ a. a.tlv) r.answers) ⊎ (packed.tlvs ≡ spelling (tlv_of (NetworkState r.state.net [])) ∷ []) → AreShortTlvs packed.tlvs
    tlvs_short (inl answers) = subst AreShortTlvs (sym answers) (All-map (λ (tlv : List ℕ). length tlv ≤ most_answer) (λ (a : Answer). a.tlv) r.answers short)
    tlvs_short (inr state) = subst AreShortTlvs (sym state) (All-cons (λ (tlv : List ℕ). length tlv ≤ most_answer) _ []
        (network_short r.state.net hash.0) (All-nil (λ (tlv : List ℕ). length tlv ≤ most_answer)))

pub each_short : ChangesKeepHashed → HeldIsOfAnEntry → HashHasEightBytes → PackingIsShort → ChangesKeepShort
each_short keeps held_of_entry eight packing tlvs (AddAnswer about i) r is (hashed, short) =
    let one : IsShortItem i = answer_short held_of_entry eight about r.state i hashed.well hashed.hash is in (
      keeps tlvs (AddAnswer about i) r is hashed,
      record {
        answers = cond_both (is_answered about r.answers) r.answers _ (All (λ a. length a.tlv ≤ most_answer)) (λ _. short.answers)
            (λ _. All-push (λ (a : Answer). length a.tlv ≤ most_answer) r.answers (record { subject = about; tlv = spelling (tlv_of i) }) short.answers one);
        sends = short.sends;
      },
    )
each_short keeps held_of_entry eight packing tlvs (AddSends sends) r is (hashed, short) = (
  keeps tlvs (AddSends sends) r is hashed,
  record {
    answers = short.answers;
    sends = All-append (λ (o : Outgoing). length o.bytes ≤ most_datagram) r.done.sends sends short.sends (sends_short packing r sends hashed.hash short.answers is);
  },
)
each_short keeps held_of_entry eight packing tlvs ForgetAnswers r is (hashed, short) =
    (hashed, record { answers = All-nil (λ (a : Answer). length a.tlv ≤ most_answer); sends = short.sends })
each_short keeps held_of_entry eight packing tlvs c r is (hashed, short) =
    (keeps tlvs c r is hashed, record { answers = short.answers; sends = short.sends })
