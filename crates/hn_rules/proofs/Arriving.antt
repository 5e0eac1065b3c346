-- What an arrival runs, and the words that it takes.
use Rattle.hn_base.proofs.Names.{◌≡◌, ◌≤◌, ◌∙◌, ℕ, Bool, true, false, cond, List, [], ◌∷◌, ◌++◌, length, take, Option, Some, None, ap, refl, subst, sym, ◌==◌, cond_both, Drew, Then}
use Rattle.hn_rules.proofs.Names.{is_some, NodeId, EpId, Port, Greet, Known, Added, Full, Unknown, greeting, may_ask, asked, PlainTlv, IsTlvList, IsTlvAt, PlainItem, port_at, Subject, Running, Origin}
use Rattle.hn_rules.proofs.Names.{with_answer, state_item, with_some_answer, with_state, IsNetworkRequest, IsFirstFreeId, IsSecondClaim, AtPort, Ran, noted, with_port, with_words, words_taken, met}
use Rattle.hn_rules.proofs.Names.{greeting_port, named, node_endpoint, Publishes, IsRefresh, IsTlvRule, IsTlvs, IsAnswering, IsArrival, ran_plain, ran_both, each_words, on_some_words}
use Rattle.hn_rules.specs.declared.answers.Subject.TheVariants as subject
use Rattle.hn_typed.specs.Item as item
use Rattle.hn_rules.specs.declared.done.Note.TheVariants.{Ignored}
use Rattle.hn_base.proofs.RulesInTurn.{ran_more}

pub some_answer_words : (about : Subject) (item : Option PlainItem) (r : Running) → (with_some_answer about item r).done.words ≡ r.done.words
some_answer_words about None r = refl
some_answer_words about (Some item) r = refl

-- a request for the network state takes no word
pub ran_network_request : (told : Option (ℕ → ℕ)) (before after : Running) → IsNetworkRequest before after → Ran IsNetworkRequest told told before after
ran_network_request told before after holds =
    ran_plain words_taken IsNetworkRequest told before after holds
    (each_words words_taken (λ id b a. a ≡ with_state id b) before.state.reach (with_answer subject.NetworkState (item.NetworkState before.state.net []) before) after
    (λ id b a is. ap (λ (r : Running). r.done.words) is ∙ some_answer_words (subject.NodeState id) (state_item false b.state id) b) holds)

-- a Node Endpoint takes no word
met_words : (greet : Greet) (port : Port) (r : Running) → (met greet port r).done.words ≡ r.done.words
met_words Full port r = refl
met_words Known port r = refl
met_words Added port r = refl
met_words Unknown port r =
    cond_both (may_ask r.state.moment port.asked) (with_answer subject.NetworkRequest (item.RequestNetwork []) (with_port (asked r.state.moment port) r)) r
    (λ (a : Running). a.done.words ≡ r.done.words) (λ _. refl) (λ _. refl)

one_of_four : (words : List ℕ) (a b c : Bool) (x y z w : Running) → x.done.words ≡ words → y.done.words ≡ words → z.done.words ≡ words
    → w.done.words ≡ words → (cond a x (cond b y (cond c z w))).done.words ≡ words
one_of_four words true b c x y z w is_x is_y is_z is_w = is_x
one_of_four words false true c x y z w is_x is_y is_z is_w = is_y
one_of_four words false false true x y z w is_x is_y is_z is_w = is_z
one_of_four words false false false x y z w is_x is_y is_z is_w = is_w

pub node_endpoint_words : (from : Origin) (node : NodeId) (endpoint : EpId) (port : Port) (r : Running) → (node_endpoint from node endpoint port r).done.words ≡ r.done.words
node_endpoint_words from node endpoint port r =
    let after = greeting_port from node endpoint r.state.moment port in
    one_of_four r.done.words (endpoint.0 == 0) (node.0 == r.state.id.0) (is_some r.sender)
    (noted (Ignored 3 7) r) (noted (Ignored 3 6) r) (noted (Ignored 3 5) r) (named from node endpoint port r)
    refl refl refl (met_words (greeting node endpoint from.multicast port.peers) after (with_port after (record r { sender = Some (node, endpoint) })))

pub ran_node_endpoint : (from : Origin) (node : NodeId) (endpoint : EpId) (told : Option (ℕ → ℕ)) (before after : Running)
    → AtPort from.endpoint (λ port b a. a ≡ node_endpoint from node endpoint port b) before after
    → Ran (AtPort from.endpoint (λ port b a. a ≡ node_endpoint from node endpoint port b)) told told before after
ran_node_endpoint from node endpoint told before after holds =
    ran_plain words_taken (AtPort from.endpoint (λ port b a. a ≡ node_endpoint from node endpoint port b)) told before after holds
    (on_some_words words_taken (λ port b a. a ≡ node_endpoint from node endpoint port b) (port_at from.endpoint before.state.ports) before after
    (λ port b a is. ap (λ (r : Running). r.done.words) is ∙ node_endpoint_words from node endpoint port b) holds)

-- the second claim takes one word
pub ran_second_claim : (word id : ℕ) (told told_after : Option (ℕ → ℕ)) (before between after : Running) → before.state.claimed ≡ true
    → between ≡ with_words (word ∷ []) before → Drew told before.done.words told_after between.done.words → IsFirstFreeId between.state word id
    → Publishes 1 (record between { state = record between.state { id = record { 0 = id }; claimed = false } }) after
    → Ran IsSecondClaim told told_after before after
ran_second_claim word id told told_after before between after claimed took drew first publishes = record {
  holds = record {
    one_before = claimed;
    word = word;
    id = id;
    first = subst (λ (r : Running). IsFirstFreeId r.state word id) took first;
    publishes = subst (λ (r : Running). Publishes 1 (record r { state = record r.state { id = record { 0 = id }; claimed = false } }) after) took publishes;
  };
  drew = subst (λ (ws : List ℕ). Drew told before.done.words told_after ws) (ap (λ (r : Running). r.done.words) (sym publishes.gives)) drew;
}

-- a datagram that was read as far as a place
pub record HasRead (from : Origin) (bytes : List ℕ) (place : ℕ) (told told_after : Option (ℕ → ℕ)) (before after : Running) : Type 0 where
  pub within : place ≤ length bytes
  pub seen : List PlainTlv
  pub list : IsTlvList seen (take place bytes)
  pub ran : Ran (IsTlvs from seen) told told_after before after

pub read_more : (from : Origin) (bytes : List ℕ) (place next : ℕ) (tlv : PlainTlv) (told told_between told_after : Option (ℕ → ℕ)) (before between after : Running) → IsTlvAt bytes place tlv next
    → ((ts : List PlainTlv) → IsTlvList ts (take place bytes) → IsTlvList (ts ++ tlv ∷ []) (take next bytes))
    → HasRead from bytes place told told_between before between → Ran (Then (IsTlvRule from tlv) IsRefresh) told_between told_after between after
    → HasRead from bytes next told told_after before after
read_more from bytes place next tlv told told_between told_after before between after here grows read ran = record {
  within = here.within;
  seen = read.seen ++ tlv ∷ [];
  list = grows read.seen read.list;
  ran = ran_more words_taken (λ tlv. Then (IsTlvRule from tlv) IsRefresh) read.seen tlv told told_between told_after before between after read.ran ran;
}

-- the TLVs of a datagram, and then the answers, which take no word
pub ran_arrival : (from : Origin) (tlvs : List PlainTlv) (told told_after : Option (ℕ → ℕ)) (before read after : Running)
    → Ran (IsTlvs from tlvs) told told_after before read → IsAnswering from read after → Ran (IsArrival from tlvs) told told_after before after
ran_arrival from tlvs told told_after before read after ran answering =
    ran_both words_taken (IsTlvs from tlvs) (IsAnswering from) told told_after told_after before read after ran
    (ran_plain words_taken (IsAnswering from) told_after read after answering (ap (λ (r : Running). r.done.words) answering.gives))
