-- What a router knows of a node, and the Node States that it says of it.
use Rattle.hn_base.proofs.Names.{◌≡◌, ◌∙◌, ◌<◌, ◌≤◌, ◌^◌, ◌-◌, ◌⊎◌, ℕ, Bool, true, false, List, [], length, Contains, Option, Some, None, sym, ap, subst, refl, inl, inr, arith, eqb-true, All-nil}
use Rattle.hn_base.proofs.Names.{All-contains, same_Some, IsByte}
use Rattle.hn_sync.proofs.Names.{◌==◌, All, same_node, NodeId, Entry, hash_of, Subject, NetworkRequest, NetworkState, NodeRequest, NodeState, NodeData, State, held_entry, own_entry, entry_of}
use Rattle.hn_sync.proofs.Names.{sent_age, sent_data, state_item, HeldIsOfAnEntry, held, IsTable, IsIntact, HeldNode, Stored, HasTlvs, ListIsOfBytes, IsHash, PlainItem}
use Rattle.hn_hash.specs.Laws.{HashHasEightBytes}
use Rattle.hn_own.specs.Own.{IsOwnData}
use Rattle.hn_rules.specs.Requests.{own_state}
use Rattle.hn_rules.specs.Router.{IsNumbered}
use Rattle.hn_typed.specs.Item as item
use Rattle.hn_sync.proofs.Sayings.{CanBeSaid, can_say_request, can_say_node_request, can_say_network, can_say_state, Saying}

-- what a router holds and says of itself is in range
pub record IsFit (s : State) : Type 0 where
  pub table : IsTable s.table
  pub own : IsOwnData s.own
  pub numbered : IsNumbered s
  pub listed : HasTlvs s.own.body
  pub hash : IsHash s.net

-- so is a node that it knows
pub record IsEntry (n : Entry) : Type 0 where
  pub id_fits : n.id.0 < 2 ^ 32
  pub number_fits : n.number < 2 ^ 32
  pub short : length n.body ≤ 60000
  pub list : HasTlvs n.body

-- a node's state, with its data or without
abbrev pub item_of : Bool → Entry → PlainItem
item_of with_data n = item.NodeState n.id.0 n.number (sent_age n.age) (hash_of n.body) (sent_data with_data n.body)

pub record Knows (s : State) (id : NodeId) (n : Entry) : Type 0 where
  pub entry : entry_of s id ≡ Some n
  pub said : (with_data : Bool) → state_item with_data s id ≡ Some (item_of with_data n)
  pub fits : IsEntry n
  pub named : n.id ≡ id

pub record KnowsNot (s : State) (id : NodeId) : Type 0 where
  pub entry : entry_of s id ≡ None
  pub said : (with_data : Bool) → state_item with_data s id ≡ None

module _ (of_entry : HeldIsOfAnEntry) (s : State) (fit : IsFit s) (id : NodeId) where
  own_said : (with_data : Bool) → own_state with_data s ≡ item_of with_data (own_entry s)
  own_said with_data = ap (λ (h : List ℕ). item.NodeState s.id.0 s.number (sent_age (s.moment - s.own.born)) h (sent_data with_data s.own.body)) fit.own.hashed

  held_fits : (stored : Stored) → held s.table.entries id.0 ≡ Some stored → IsIntact stored × (stored.number < 2 ^ 32) × (id.0 < 2 ^ 32)
  held_fits stored is =
      let node = of_entry s.table.entries id.0 stored is in
      let intact = All-contains (λ (x : HeldNode). IsIntact x.stored) s.table.entries node.0 fit.table.intact node.1 in
      let number = All-contains (λ (x : HeldNode). x.stored.number < 2 ^ 32) s.table.entries node.0 fit.numbered.held node.1 in
      let fits = All-contains (λ (x : HeldNode). x.id.0 < 2 ^ 32) s.table.entries node.0 fit.numbered.held_ids node.1 in
      (subst IsIntact node.3 intact, subst (λ (x : Stored). x.number < 2 ^ 32) node.3 number, subst (λ (n : ℕ). n < 2 ^ 32) node.2 fits)

  pub knows_or_not : ((n : Entry) × Knows s id n) ⊎ KnowsNot s id
  knows_or_not = by_test (id.0 == s.id.0) refl
    where
      by_held : (o : Option Stored) → held s.table.entries id.0 ≡ o → (id.0 == s.id.0) ≡ false → ((n : Entry) × Knows s id n) ⊎ KnowsNot s id
      by_held None none other = inr (record { entry = rw (other, none) refl; said = λ with_data. rw (other, none) refl })
      by_held (Some stored) some other =
          let fits = held_fits stored some in
          let hash : stored.hash ≡ hash_of stored.body = fits.0.hashed in
          let n : Entry = held_entry s.moment (record { id = id; stored = stored }) in
          inl (
            n,
            record {
              entry = rw (other, some) refl;
              said = λ with_data. rw (other, some) (ap (λ (h : List ℕ). Some (item.NodeState id.0 stored.number (sent_age n.age) h (sent_data with_data stored.body))) hash);
              fits = record { id_fits = fits.2; number_fits = fits.1; short = fits.0.short; list = fits.0.listed };
              named = refl;
            },
          )

      by_test : (b : Bool) → (id.0 == s.id.0) ≡ b → ((n : Entry) × Knows s id n) ⊎ KnowsNot s id
      by_test true own = inl (
        own_entry s,
        record {
          entry = rw own refl;
          said = λ with_data. rw own (ap Some (own_said with_data));
          fits = record { id_fits = fit.numbered.own_id; number_fits = fit.numbered.own; short = (let short = fit.own.short in omega arith); list = fit.listed };
          named = sym (same_node id s.id (eqb-true id.0 s.id.0 own));
        },
      )
      by_test false other = by_held (held s.table.entries id.0) refl other

  -- what is known is one
  pub knows_one : (m n : Entry) → Knows s id m → Knows s id n → m ≡ n
  knows_one m n h k = same_Some m n (sym h.entry ∙ k.entry)

  pub knows_from : (n : Entry) → entry_of s id ≡ Some n → Knows s id n
  knows_from n is = elim knows_or_not [
    | inl some ↦ subst (λ (m : Entry). Knows s id m) (same_Some some.0 n (sym some.1.entry ∙ is)) some.1
    | inr none ↦ (let clash : None ≡ Some n = sym none.entry ∙ is in absurd (cc))
  ]

-- ---- what is answered to requests (RFC 7787, section 4.2)

-- A router says the hash of the network state, and the states of nodes that it reaches.
abbrev pub IsSaidOf : State → Subject → PlainItem → Type 0
IsSaidOf s NetworkState i = i ≡ item.NetworkState s.net []
IsSaidOf s (NodeState id) i = (n : Entry) × Contains s.reach id × Knows s id n × (i ≡ item_of false n)
IsSaidOf s (NodeData id) i = (n : Entry) × Contains s.reach id × Knows s id n × (i ≡ item_of true n)
IsSaidOf s _ i = ⊥

abbrev pub Says : State → Saying → Type 0
Says s x = IsSaidOf s x.about x.item

-- It asks for the network state, and for the states of nodes.
abbrev pub IsAsked : Subject → PlainItem → Type 0
IsAsked NetworkRequest i = i ≡ item.RequestNetwork []
IsAsked (NodeRequest id) i = (i ≡ item.RequestNode id.0 []) × (id.0 < 2 ^ 32)
IsAsked _ i = ⊥

abbrev pub Asks : Saying → Type 0
Asks x = IsAsked x.about x.item

-- each can be said
pub can_ask : (about : Subject) (i : PlainItem) → IsAsked about i → CanBeSaid i
can_ask NetworkRequest i h = subst CanBeSaid (sym h) can_say_request
can_ask (NodeRequest id) i h = subst CanBeSaid (sym h.0) (can_say_node_request id.0 h.1)
can_ask NetworkState i h = absurd h
can_ask (NodeState id) i h = absurd h
can_ask (NodeData id) i h = absurd h

pub record EntryLaws : Type 0 where
  pub eight : HashHasEightBytes
  pub of_bytes : ListIsOfBytes
  pub of_entry : HeldIsOfAnEntry

sent_short : (with_data : Bool) (n : Entry) → IsEntry n → length (sent_data with_data n.body) ≤ 60000
sent_short true n fits = fits.short
sent_short false n fits = omega arith

sent_bytes : EntryLaws → (with_data : Bool) (n : Entry) → IsEntry n → All IsByte (sent_data with_data n.body)
sent_bytes laws true n fits = laws.of_bytes fits.list.0 n.body fits.list.1
sent_bytes laws false n fits = All-nil IsByte

age_fits : (age : ℕ) → sent_age age < 2 ^ 32
age_fits age = omega arith

pub can_say_entry : EntryLaws → (with_data : Bool) (n : Entry) → IsEntry n → CanBeSaid (item_of with_data n)
can_say_entry laws with_data n fits =
    can_say_state n.id.0 n.number (sent_age n.age) (hash_of n.body) (sent_data with_data n.body) (fits.id_fits, (fits.number_fits, (age_fits n.age, laws.eight n.body)))
    (sent_short with_data n fits) (sent_bytes laws with_data n fits)

pub can_say : EntryLaws → (s : State) → IsHash s.net → (about : Subject) (i : PlainItem) → IsSaidOf s about i → CanBeSaid i
can_say laws s hash NetworkState i h = subst CanBeSaid (sym h) (can_say_network s.net hash)
can_say laws s hash (NodeState id) i h = subst CanBeSaid (sym h.3) (can_say_entry laws false h.0 h.2.fits)
can_say laws s hash (NodeData id) i h = subst CanBeSaid (sym h.3) (can_say_entry laws true h.0 h.2.fits)
can_say laws s hash NetworkRequest i h = absurd h
can_say laws s hash (NodeRequest id) i h = absurd h
