-- What is answered is a TLV.
use Rattle.hn_base.proofs.Names.{◌≡◌, ◌≤◌, ◌<◌, ◌-◌, ◌^◌, ℕ, Bool, true, false, cond, List, [], ◌++◌, length, Option, Some, None, lit≤, refl, sym, subst, arith, length-append, All, ◌==◌, option_map}
use Rattle.hn_base.proofs.Names.{All-nil, All-append, All-contains, IsByte}
use Rattle.hn_rules.proofs.Names.{number_bytes, NodeId, HashHasEightBytes, IsTlv, word, IsHash, PlainItem, RequestNetwork, RequestNode, NetworkState, NodeState, value_of, tlv_of, IsWritable}
use Rattle.hn_rules.proofs.Names.{HeldIsOfAnEntry, held, IsIntact, Stored, HeldNode, Subject, State, IsAnswerAbout, age_at, sent_age, sent_data, own_state, held_state, state_item, IsWell, IsHashed}
use Rattle.hn_typed.specs.Table.{InRange}
use Rattle.hn_rules.specs.declared.answers.Subject.TheVariants as subject
use Rattle.hn_rules.proofs.LawsFromBelow.{held_all}
use Rattle.hn_rules.proofs.LawPublished.{ReadLaws, own_bytes}

-- the laws of TLVs, items and hashes
pub record AnswerLaws : Type 0 where
  pub read : ReadLaws
  pub of_entry : HeldIsOfAnEntry
  pub eight : HashHasEightBytes

-- ---- TLVs that are no Node States

pub network_tlv : (hash : List ℕ) → IsHash hash → IsTlv (tlv_of (NetworkState hash []))
network_tlv hash is = record {
  kind_fits = omega arith;
  length_fits = let eight = is.0 in simp length-append (omega arith);
  bytes = All-append IsByte (hash ++ []) [] (All-append IsByte hash [] is.1 (All-nil IsByte)) (All-nil IsByte);
}

request_tlv : IsTlv (tlv_of (RequestNetwork []))
request_tlv = record { kind_fits = omega arith; length_fits = omega arith; bytes = All-nil IsByte }

node_request_tlv : (node : ℕ) → IsTlv (tlv_of (RequestNode node []))
node_request_tlv node = record {
  kind_fits = omega arith;
  length_fits = omega arith;
  bytes = All-append IsByte (word node ++ []) [] (All-append IsByte (word node) [] (number_bytes 4 node) (All-nil IsByte)) (All-nil IsByte);
}

-- ---- Node States

-- a Node State as a router sends it: its numbers and its hash are in range, and its node data are not too long
pub record IsSentState (node number age : ℕ) (hash body : List ℕ) : Type 0 where
  pub in_range : InRange (NodeState node number age hash body)
  pub short : length body ≤ 60000
  pub bytes : All IsByte body

module _ (node number age : ℕ) (hash body : List ℕ) (sent : IsSentState node number age hash body) where
  state_size : length (value_of (NodeState node number age hash body)) ≤ 60020
  state_size = let eight = sent.in_range.1.1.1.0 in let short = sent.short in simp length-append (omega arith)

  pub state_writable : IsWritable (NodeState node number age hash body)
  state_writable = record { in_range = sent.in_range; text = tt; other_kind = tt; tlvs_after = tt; short = let size = state_size in omega arith }

  state_tlv : IsTlv (tlv_of (NodeState node number age hash body))
  state_tlv = record {
    kind_fits = omega arith;
    length_fits = let size = state_size in omega arith;
    bytes =
        All-append IsByte ((word node ++ (word number ++ (word age ++ hash))) ++ []) body
        (All-append IsByte (word node ++ (word number ++ (word age ++ hash))) []
        (All-append IsByte (word node) (word number ++ (word age ++ hash)) (number_bytes 4 node)
        (All-append IsByte (word number) (word age ++ hash) (number_bytes 4 number) (All-append IsByte (word age) hash (number_bytes 4 age) sent.in_range.1.1.1.1)))
        (All-nil IsByte)) sent.bytes;
  }

age_fits : (age : ℕ) → sent_age age < 2 ^ 32
age_fits age = omega arith

sent_bytes : (with_data : Bool) (body : List ℕ) → All IsByte body → All IsByte (sent_data with_data body)
sent_bytes true body bytes = bytes
sent_bytes false body bytes = All-nil IsByte

sent_short : (with_data : Bool) (body : List ℕ) → length body ≤ 60000 → length (sent_data with_data body) ≤ 60000
sent_short true body short = short
sent_short false body short = lit≤ tt

unsome : {A : Type 0} {a b : A} → ◌≡◌ {A = Option A} (Some a) (Some b) → a ≡ b
unsome same = cc

-- what is said of a node that a router knows, by what is said of the own node and of a node that it holds
pub of_known : (P : PlainItem → Type 0) (with_data : Bool) (s : State) (id : NodeId) → P (own_state with_data s)
    → ((stored : Stored) → held s.table.entries id.0 ≡ Some stored → P (held_state with_data s.moment id stored))
    → (i : PlainItem) → state_item with_data s id ≡ Some i → P i
of_known P with_data s id own other i = by_test (id.0 == s.id.0)
  where
    by_held : (h : Option Stored) → held s.table.entries id.0 ≡ h → option_map (held_state with_data s.moment id) h ≡ Some i → P i
    by_held None found is = absurd cc
    by_held (Some stored) found is = subst P (unsome is) (other stored found)

    by_test : (b : Bool) → cond b (Some (own_state with_data s)) (option_map (held_state with_data s.moment id) (held s.table.entries id.0)) ≡ Some i → P i
    by_test true is = subst P (unsome is) own
    by_test false is = by_held (held s.table.entries id.0) refl is

module _ (laws : AnswerLaws) (with_data : Bool) (s : State) (well : IsWell s) where
  pub own_sent : IsSentState s.id.0 s.number (sent_age (s.moment - s.own.born)) s.own.hash (sent_data with_data s.own.body)
  own_sent =
      let hash : IsHash s.own.hash = subst IsHash (sym well.own.hashed) (laws.eight s.own.body) in
      record {
        in_range = (well.numbered.own_id, (well.numbered.own, (age_fits (s.moment - s.own.born), hash)));
        short = sent_short with_data s.own.body (let short = well.own.short in omega arith);
        bytes = sent_bytes with_data s.own.body (own_bytes laws.read s.own well.own);
      }

  pub held_sent : (id : NodeId) (stored : Stored) → held s.table.entries id.0 ≡ Some stored
      → IsSentState id.0 stored.number (sent_age (age_at s.moment stored)) stored.hash (sent_data with_data stored.body)
  held_sent id stored found =
      let of_entry = laws.of_entry s.table.entries id.0 stored found in
      let intact : IsIntact stored = held_all laws.of_entry IsIntact s.table.entries id.0 stored well.table.intact found in
      let number : stored.number < 2 ^ 32 = held_all laws.of_entry (λ (x : Stored). x.number < 2 ^ 32) s.table.entries id.0 stored well.numbered.held found in
      let entry_id : of_entry.0.id.0 < 2 ^ 32 = All-contains (λ (node : HeldNode). node.id.0 < 2 ^ 32) s.table.entries of_entry.0 well.numbered.held_ids of_entry.1 in
      let node : id.0 < 2 ^ 32 = subst (λ (n : ℕ). n < 2 ^ 32) of_entry.2 entry_id in
      let hash : IsHash stored.hash = subst IsHash (sym intact.hashed) (laws.eight stored.body) in
      record {
        in_range = (node, (number, (age_fits (age_at s.moment stored), hash)));
        short = sent_short with_data stored.body intact.short;
        bytes = sent_bytes with_data stored.body (laws.read.of_bytes intact.listed.0 stored.body intact.listed.1);
      }

  known_tlv : (id : NodeId) (i : PlainItem) → state_item with_data s id ≡ Some i → IsTlv (tlv_of i)
  known_tlv id =
      of_known (λ i. IsTlv (tlv_of i)) with_data s id
      (state_tlv s.id.0 s.number (sent_age (s.moment - s.own.born)) s.own.hash (sent_data with_data s.own.body) own_sent)
      (λ stored found. state_tlv id.0 stored.number (sent_age (age_at s.moment stored)) stored.hash (sent_data with_data stored.body) (held_sent id stored found))

-- what is said of a subject is a TLV
pub answer_tlv : AnswerLaws → (about : Subject) (s : State) (i : PlainItem) → IsHashed s → IsAnswerAbout about s i → IsTlv (tlv_of i)
answer_tlv laws subject.NetworkRequest s i hashed is = subst (λ (x : PlainItem). IsTlv (tlv_of x)) (sym is) request_tlv
answer_tlv laws subject.NetworkState s i hashed is = subst (λ (x : PlainItem). IsTlv (tlv_of x)) (sym is) (network_tlv s.net hashed.hash)
answer_tlv laws (subject.NodeRequest id) s i hashed is = subst (λ (x : PlainItem). IsTlv (tlv_of x)) (sym is.0) (node_request_tlv id.0)
answer_tlv laws (subject.NodeState id) s i hashed is = known_tlv laws false s hashed.well id i is
answer_tlv laws (subject.NodeData id) s i hashed is = known_tlv laws true s hashed.well id i is
