-- What the datagrams of an exchange say, item by item, and that it is read as it was written.
use Rattle.hn_base.proofs.Names.{◌≡◌, ◌∙◌, ◌<◌, ◌≤◌, ◌^◌, ℕ, List, [], ◌∷◌, ◌++◌, length, map, Contains, sym, ap, subst, refl, inl, inr, arith, append_assoc, length-append, All-nil, All-append}
use Rattle.hn_base.proofs.Names.{All-head, All-tail, Contains-append_left, Contains-append_right, Contains-append_cases, IsByte}
use Rattle.hn_sync.proofs.Names.{All, EpId, NodeId, nothing_in, Contains-head, Contains-tail, Contains-cases, all_of, IsPacking, sender_tlv, Answer, Subject, Origin, Running, IsItemRule, IsTlvRule}
use Rattle.hn_sync.proofs.Names.{PlainTlv, IsTlvList, HasTlvs, IsHash, PlainItem, tlv_of}
use Rattle.hn_base.proofs.BigEndian.{number_bytes}
use Rattle.hn_dncp.specs.Laws.{PackingIsRead}
use Rattle.hn_dncp.specs.Packing.{AreRead}
use Rattle.hn_tlv.specs.Grammar.{IsTlv, spelling}
use Rattle.hn_typed.specs.Fields.{word}
use Rattle.hn_typed.specs.Item as item
use Rattle.hn_typed.specs.Laws.{ItemIsUnique, ItemHasNoFault, WrittenIsRead}
use Rattle.hn_typed.specs.Table.{InRange}
use Rattle.hn_typed.specs.Written.{value_of, IsWritable}

-- ---- items that can be written and read

pub record CanBeSaid (i : PlainItem) : Type 0 where
  pub is_tlv : IsTlv (tlv_of i)
  pub writable : IsWritable i

no_tlvs : HasTlvs []
no_tlvs = ([], refl)

pub endpoint_is_tlv : (node endpoint : ℕ) → IsTlv (tlv_of (item.NodeEndpoint node endpoint []))
endpoint_is_tlv node endpoint = record {
  kind_fits = omega arith;
  length_fits = omega arith;
  bytes =
      All-append IsByte ((word node ++ word endpoint) ++ []) []
      (All-append IsByte (word node ++ word endpoint) [] (All-append IsByte (word node) (word endpoint) (number_bytes 4 node) (number_bytes 4 endpoint)) (All-nil IsByte)) (All-nil IsByte);
}

pub can_say_endpoint : (node endpoint : ℕ) → node < 2 ^ 32 → endpoint < 2 ^ 32 → CanBeSaid (item.NodeEndpoint node endpoint [])
can_say_endpoint node endpoint fits too = record {
  is_tlv = endpoint_is_tlv node endpoint;
  writable = record { in_range = (fits, too); text = tt; other_kind = tt; tlvs_after = no_tlvs; short = omega arith };
}

pub can_say_request : CanBeSaid (item.RequestNetwork [])
can_say_request = record {
  is_tlv = record { kind_fits = omega arith; length_fits = omega arith; bytes = All-nil IsByte };
  writable = record { in_range = tt; text = tt; other_kind = tt; tlvs_after = no_tlvs; short = omega arith };
}

pub can_say_node_request : (node : ℕ) → node < 2 ^ 32 → CanBeSaid (item.RequestNode node [])
can_say_node_request node fits = record {
  is_tlv = record {
    kind_fits = omega arith;
    length_fits = omega arith;
    bytes = All-append IsByte (word node ++ []) [] (All-append IsByte (word node) [] (number_bytes 4 node) (All-nil IsByte)) (All-nil IsByte);
  };
  writable = record { in_range = fits; text = tt; other_kind = tt; tlvs_after = no_tlvs; short = omega arith };
}

pub can_say_network : (hash : List ℕ) → IsHash hash → CanBeSaid (item.NetworkState hash [])
can_say_network hash is = record {
  is_tlv = record {
    kind_fits = omega arith;
    length_fits = let eight = is.0 in simp length-append (omega arith);
    bytes = All-append IsByte (hash ++ []) [] (All-append IsByte hash [] is.1 (All-nil IsByte)) (All-nil IsByte);
  };
  writable = record { in_range = is; text = tt; other_kind = tt; tlvs_after = no_tlvs; short = let eight = is.0 in simp length-append (omega arith) };
}

pub can_say_state : (node number age : ℕ) (hash body : List ℕ) → InRange (item.NodeState node number age hash body) → length body ≤ 60000 → All IsByte body
    → CanBeSaid (item.NodeState node number age hash body)
can_say_state node number age hash body fits short bytes = record {
  is_tlv = record {
    kind_fits = omega arith;
    length_fits = let short = size in omega arith;
    bytes =
        All-append IsByte ((word node ++ (word number ++ (word age ++ hash))) ++ []) body
        (All-append IsByte (word node ++ (word number ++ (word age ++ hash))) []
        (All-append IsByte (word node) (word number ++ (word age ++ hash)) (number_bytes 4 node)
        (All-append IsByte (word number) (word age ++ hash) (number_bytes 4 number) (All-append IsByte (word age) hash (number_bytes 4 age) fits.1.1.1.1)))
        (All-nil IsByte)) bytes;
  };
  writable = record { in_range = fits; text = tt; other_kind = tt; tlvs_after = tt; short = let short = size in omega arith };
}
  where
    size : length (value_of (item.NodeState node number age hash body)) ≤ 60020
    size = let eight = fits.1.1.1.0 in simp length-append (omega arith)

-- ---- reading

pub record ReadLaws : Type 0 where
  pub one_item : ItemIsUnique
  pub no_fault : ItemHasNoFault
  pub written : WrittenIsRead
  pub packing : PackingIsRead

-- a TLV that is written for an item runs the item's rule
pub rule_of : ReadLaws → (from : Origin) (i : PlainItem) (before after : Running) → CanBeSaid i → IsTlvRule from (tlv_of i) before after → IsItemRule from i before after
rule_of laws from i before after can (inl h) =
    subst (λ (j : PlainItem). IsItemRule from j before after) (laws.one_item (tlv_of i) h.0 i h.1 (laws.written i can.writable)) h.2
rule_of laws from i before after can (inr h) = absurd (laws.no_fault (tlv_of i) i h.0 (laws.written i can.writable) h.1)

-- ---- answers, and the items that they were written for

pub record Saying : Type 0 where
  pub about : Subject
  pub item : PlainItem

abbrev pub answer_of : Saying → Answer
answer_of s = record { subject = s.about; tlv = spelling (tlv_of s.item) }

abbrev pub tlv_said : Saying → PlainTlv
tlv_said s = tlv_of s.item

abbrev pub CanAllBeSaid : List Saying → Type 0
CanAllBeSaid said = All (λ s. CanBeSaid s.item) said

-- the bytes are a datagram of an endpoint of a node that says this
abbrev pub SaysIn : NodeId → EpId → List Saying → List ℕ → Type 0
SaysIn own endpoint said bytes = IsTlvList (sender_tlv own endpoint ∷ map tlv_said said) bytes

-- a part of what was said
pub record IsPart (part whole : List Saying) : Type 0 where
  pub front : List Saying
  pub rest : List Saying
  pub parts : whole ≡ front ++ (part ++ rest)

abbrev pub AreSaid : NodeId → EpId → List Saying → List (List ℕ) → Type 0
AreSaid own endpoint said [] = said ≡ []
AreSaid own endpoint said (datagram ∷ datagrams) =
    (group : List Saying) × (rest : List Saying) × (said ≡ group ++ rest) × SaysIn own endpoint group datagram × AreSaid own endpoint rest datagrams

pub record Splits (said : List Saying) (xs ys : List PlainTlv) : Type 0 where
  pub first : List Saying
  pub second : List Saying
  pub parts : said ≡ first ++ second
  pub is_first : map tlv_said first ≡ xs
  pub is_second : map tlv_said second ≡ ys

splits : (said : List Saying) (xs ys : List PlainTlv) → map tlv_said said ≡ xs ++ ys → Splits said xs ys
splits said [] ys same = record { first = []; second = said; parts = refl; is_first = refl; is_second = same }
splits [] (x ∷ xs) ys same = absurd (cc)
splits (s ∷ said) (x ∷ xs) ys same =
    let head : tlv_said s ≡ x = cc in
    let tail : map tlv_said said ≡ xs ++ ys = cc in
    let rest = splits said xs ys tail in
    record {
      first = s ∷ rest.first;
      second = rest.second;
      parts = ap (λ more. s ∷ more) rest.parts;
      is_first = (λ i. head i ∷ rest.is_first i);
      is_second = rest.is_second;
    }

said_from_read : (own : NodeId) (endpoint : EpId) (said : List Saying) (tlvs : List PlainTlv) (datagrams : List (List ℕ)) → map tlv_said said ≡ tlvs
    → AreRead own endpoint tlvs datagrams → AreSaid own endpoint said datagrams
said_from_read own endpoint [] tlvs [] same h = refl
said_from_read own endpoint (s ∷ said) tlvs [] same h = absurd (cc)
said_from_read own endpoint said tlvs (datagram ∷ datagrams) same h =
    let split = splits said h.0 h.1 (same ∙ h.2) in (
      split.first,
      split.second,
      split.parts,
      subst (λ (ts : List PlainTlv). IsTlvList (sender_tlv own endpoint ∷ ts) datagram) (sym split.is_first) h.3,
      said_from_read own endpoint split.second h.1 datagrams split.is_second h.4,
    )

spelled_map : (said : List Saying) → map (λ a. a.tlv) (map answer_of said) ≡ map spelling (map tlv_said said)
spelled_map [] = refl
spelled_map (s ∷ said) = ap (λ rest. spelling (tlv_of s.item) ∷ rest) (spelled_map said)

tlvs_of : (said : List Saying) → CanAllBeSaid said → All IsTlv (map tlv_said said)
tlvs_of said can = all_of IsTlv (map tlv_said said) (λ t there. each said can t there)
  where
    each : (said : List Saying) → CanAllBeSaid said → (t : PlainTlv) → Contains (map tlv_said said) t → IsTlv t
    each [] can t there = absurd (nothing_in t there)
    each (s ∷ said) can t there = elim (Contains-cases (tlv_said s) (map tlv_said said) t there) [
      | inl here ↦ subst IsTlv here (All-head (λ x. CanBeSaid x.item) s said can).is_tlv
      | inr later ↦ each said (All-tail (λ x. CanBeSaid x.item) s said can) t later
    ]

-- answers are sent as datagrams that say them
pub packed_said : ReadLaws → (own : NodeId) (endpoint : EpId) (answers : List Answer) (said : List Saying) (datagrams : List (List ℕ)) → answers ≡ map answer_of said → CanAllBeSaid said
    → IsPacking own endpoint (map (λ a. a.tlv) answers) datagrams → AreSaid own endpoint said datagrams
packed_said laws own endpoint answers said datagrams are can packed =
    let spelled : map (λ (a : Answer). a.tlv) answers ≡ map spelling (map tlv_said said) = ap (map (λ (a : Answer). a.tlv)) are ∙ spelled_map said in
    said_from_read own endpoint said (map tlv_said said) datagrams refl
    (laws.packing own endpoint (map tlv_said said) datagrams (tlvs_of said can) (subst (λ (ts : List (List ℕ)). IsPacking own endpoint ts datagrams) spelled packed))

-- each datagram says a part
pub each_part : (own : NodeId) (endpoint : EpId) (said : List Saying) (datagrams : List (List ℕ)) → AreSaid own endpoint said datagrams → (d : List ℕ) → Contains datagrams d
    → (group : List Saying) × IsPart group said × SaysIn own endpoint group d
each_part own endpoint said [] h d there = absurd (nothing_in d there)
each_part own endpoint said (datagram ∷ datagrams) h d there = elim (Contains-cases datagram datagrams d there) [
  | inl here ↦ (h.0, record { front = []; rest = h.1; parts = h.2 }, subst (SaysIn own endpoint h.0) here h.3)
  | inr later ↦
      let more = each_part own endpoint h.1 datagrams h.4 d later in (
        more.0,
        record {
          front = h.0 ++ more.1.front;
          rest = more.1.rest;
          parts = h.2 ∙ (ap (λ (rest : List Saying). h.0 ++ rest) more.1.parts ∙ sym (append_assoc h.0 more.1.front (more.0 ++ more.1.rest)));
        },
        more.2,
      )
]

-- and what was said is in one of them
pub each_said : (own : NodeId) (endpoint : EpId) (said : List Saying) (datagrams : List (List ℕ)) → AreSaid own endpoint said datagrams → (s : Saying) → Contains said s
    → (d : List ℕ) × Contains datagrams d × ((group : List Saying) × SaysIn own endpoint group d × Contains group s)
each_said own endpoint said [] h s there = absurd (nothing_in s (subst (λ (xs : List Saying). Contains xs s) h there))
each_said own endpoint said (datagram ∷ datagrams) h s there = elim (Contains-append_cases h.0 h.1 s (subst (λ (xs : List Saying). Contains xs s) h.2 there)) [
  | inl here ↦ (datagram, Contains-head datagram datagrams, (h.0, h.3, here))
  | inr later ↦ (let more = each_said own endpoint h.1 datagrams h.4 s later in (more.0, Contains-tail datagram datagrams more.0 more.1, more.2))
]

-- what is in a part is in the whole
pub in_whole : (part whole : List Saying) → IsPart part whole → (s : Saying) → Contains part s → Contains whole s
in_whole part whole h s there =
    subst (λ (xs : List Saying). Contains xs s) (sym h.parts) (Contains-append_right h.front (part ++ h.rest) s (Contains-append_left part h.rest s there))
