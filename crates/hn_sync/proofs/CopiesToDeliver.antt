-- The copies of an exchange that are not delivered yet, and what they give hope for.
use Rattle.hn_base.proofs.Names.{◌≡◌, ◌∙◌, ◌⊎◌, ℕ, zero, suc, Bool, true, false, cond, List, [], ◌∷◌, ◌++◌, length, map, slice_get, slice_set, nat_lt, position, Contains, Some, None, sym, ap, subst}
use Rattle.hn_base.proofs.Names.{refl, inl, inr, append_assoc, position_or_len, All-nil, Contains-append_left, same_Some}
use Rattle.hn_sync.proofs.Names.{All, nothing_in, Contains-head, Contains-tail, Contains-cases, Entry, Running, State, HeldIsOfAnEntry, MarksKeepTable, Nodes, held, IsTable, Target, Member}
use Rattle.hn_sync.proofs.Names.{address_of_target, is_named}
use Rattle.hn_sync.proofs.Answered.{AnswersAre}
use Rattle.hn_sync.proofs.NodeStatesSaid.{Says, Asks}
use Rattle.hn_sync.proofs.Holding.{before_same, settled_same}
use Rattle.hn_sync.proofs.AskerLearns.{InRest, InAsked, IsGiven, OwnInRest, IsOwned, Learns}
use Rattle.hn_sync.proofs.WhatCopiesSay.{Letter}
use Rattle.hn_sync.proofs.Replies.{Ascends}
use Rattle.hn_sync.proofs.Sayings.{Saying, SaysIn, answer_of}
use Rattle.hn_sync.proofs.PeersSaid.{signs}

-- ---- places of lists in two parts

pub get_after : {A : Type 0} (xs ys : List A) → slice_get (xs ++ ys) (length xs) ≡ slice_get ys 0
get_after [] ys = refl
get_after (x ∷ xs) ys = get_after xs ys

pub set_after : {A : Type 0} (xs : List A) (y : A) (ys zs : List A) (z : A) → slice_set ((xs ++ y ∷ ys) ++ zs) (length xs) z ≡ (xs ++ z ∷ []) ++ (ys ++ zs)
set_after [] y ys zs z = refl
set_after (x ∷ xs) y ys zs z = ap (λ rest. x ∷ rest) (set_after xs y ys zs z)

-- no answers were written for nothing
pub no_answers : (said : List Saying) → [] ≡ map answer_of said → said ≡ []
no_answers [] is = refl
no_answers (x ∷ xs) is = absurd (cc)

-- ---- a router keeps its name

pub place_set : (text : List ℕ) (ms : List Member) (i : ℕ) (m : Member) (s : State) → slice_get ms i ≡ Some m
    → position (is_named text) (slice_set ms i (record m { router = s })) ≡ position (is_named text) ms
place_set text ms i m s at = λ k. cond (nat_lt (first ms i at k) (size ms i k)) (Some (first ms i at k)) None
  where
    first : (ms : List Member) (i : ℕ) → slice_get ms i ≡ Some m → position_or_len (is_named text) (slice_set ms i (record m { router = s })) ≡ position_or_len (is_named text) ms
    first [] i at = refl
    first (x ∷ ms) zero at = ap (λ (y : Member). position_or_len (is_named text) (record y { router = s } ∷ ms)) (sym (same_Some x m at)) ∙ refl
    first (x ∷ ms) (suc i) at = let rest = first ms i at in cc

    size : (ms : List Member) (i : ℕ) → length (slice_set ms i (record m { router = s })) ≡ length ms
    size [] i = refl
    size (x ∷ ms) zero = refl
    size (x ∷ ms) (suc i) = ap suc (size ms i)

-- ---- letters

module _ (here there : Target) (start before : State) where
  pub record ToAsker (l : Letter) : Type 0 where
    pub goes : l.copy.to ≡ there
    pub comes : l.copy.from ≡ address_of_target here
    pub unicast : l.copy.multicast ≡ false
    pub says : SaysIn start.id here.endpoint l.group l.copy.bytes
    pub all : All (Says start) l.group

  pub record ToAsked (l : Letter) : Type 0 where
    pub goes : l.copy.to ≡ here
    pub comes : l.copy.from ≡ address_of_target there
    pub unicast : l.copy.multicast ≡ false
    pub says : SaysIn before.id there.endpoint l.group l.copy.bytes
    pub all : All Asks l.group

  abbrev pub IsLetterBy : Bool → Letter → Type 0
  IsLetterBy true l = ToAsker l
  IsLetterBy false l = ToAsked l

  abbrev pub AreLetters : List Letter → Type 0
  AreLetters queue = (l : Letter) → Contains queue l → IsLetterBy l.to_asker l

  -- a node may be learnt of from one of them
  abbrev pub IsHope : Entry → Letter → Type 0
  IsHope n l = ((l.to_asker ≡ true) × InRest l.group n) ⊎ ((l.to_asker ≡ false) × InAsked l.group n)

  abbrev pub PendingIn : List Letter → Entry → Type 0
  PendingIn queue n = (l : Letter) × Contains queue l × IsHope n l

  -- The first of them are lists in ascending order, and one of these has the own identifier.
  pub record WaitingIn (queue : List Letter) : Type 0 where
    pub first : List Letter
    pub second : List Letter
    pub parts : queue ≡ first ++ second
    pub lists : (l : Letter) → Contains first l → (l.to_asker ≡ true) × Ascends l.group
    pub one : Letter
    pub there_one : Contains first one
    pub own : OwnInRest start before one.group

  pub pending_more : (tail new : List Letter) (n : Entry) → PendingIn tail n → PendingIn (tail ++ new) n
  pending_more tail new n h = (h.0, Contains-append_left tail new h.0 h.1, h.2)

  pub waiting_more : (tail new : List Letter) → WaitingIn tail → WaitingIn (tail ++ new)
  waiting_more tail new h = record {
    first = h.first;
    second = h.second ++ new;
    parts = ap (λ (xs : List Letter). xs ++ new) h.parts ∙ append_assoc h.first h.second new;
    lists = h.lists;
    one = h.one;
    there_one = h.there_one;
    own = h.own;
  }

  -- where the first is taken, it was the one, or that is among the others
  pub waiting_taken : (l : Letter) (tail : List Letter) → WaitingIn (l ∷ tail) → (l.to_asker ≡ true) × Ascends l.group × (OwnInRest start before l.group ⊎ WaitingIn tail)
  waiting_taken l tail h = by_first h.first h.parts h.lists h.there_one
    where
      by_first : (first : List Letter) → l ∷ tail ≡ first ++ h.second → ((x : Letter) → Contains first x → (x.to_asker ≡ true) × Ascends x.group) → Contains first h.one
          → (l.to_asker ≡ true) × Ascends l.group × (OwnInRest start before l.group ⊎ WaitingIn tail)
      by_first [] parts lists there_one = absurd (nothing_in h.one there_one)
      by_first (x ∷ xs) parts lists there_one =
          let same : l ≡ x = cc in
          let rest : tail ≡ xs ++ h.second = cc in
          let is = subst (λ (y : Letter). (y.to_asker ≡ true) × Ascends y.group) (sym same) (lists x (Contains-head x xs)) in (
            is.0,
            is.1,
            elim (Contains-cases x xs h.one there_one) [
              | inl here_one ↦ inl (subst (λ (y : Letter). OwnInRest start before y.group) (sym (same ∙ here_one)) h.own)
              | inr later ↦ inr (record { first = xs; second = h.second; parts = rest; lists = λ y there_y. lists y (Contains-tail x xs y there_y); one = h.one; there_one = later; own = h.own })
            ],
          )

  -- ---- what is learnt, with other letters

  module _ (of_entry : HeldIsOfAnEntry) (marks : MarksKeepTable) where
    abbrev pub LearnsBy : List Letter → Running → List Saying → Type 0
    LearnsBy queue r rest = Learns of_entry marks start before before.ports (PendingIn queue) (WaitingIn queue) r rest

    pub relearn : (queue other : List Letter) (r t : Running) (rest left said : List Saying) (h : LearnsBy queue r rest) → AnswersAre t said
        → All Asks said → t.state.id ≡ r.state.id → signs t.state.ports ≡ signs r.state.ports
        → t.state.table ≡ r.state.table → ((n : Entry) → IsGiven start n → PendingIn queue n ⊎ (InRest rest n ⊎ InAsked h.said n) → PendingIn other n ⊎ (InRest left n ⊎ InAsked said n))
        → IsOwned of_entry marks start before before.ports (PendingIn other) (WaitingIn other) t.state left → LearnsBy other t left
    relearn queue other r t rest left said h are all same_id same_signs same_table hope owned = record {
      named = same_id ∙ h.named;
      signed = same_signs ∙ h.signed;
      table = subst IsTable (sym same_table) h.table;
      limit = ap (λ (x : Nodes). x.limit) same_table ∙ h.limit;
      both = λ id stored is. h.both id stored (sym (ap (λ (x : Nodes). held x.entries id) same_table) ∙ is);
      said = said;
      are = are;
      all = all;
      each = λ roomy n given apart. elim (h.each roomy n given apart) [
        | inl settled ↦ inl (settled_same before r.state t.state n (ap (λ (x : Nodes). held x.entries n.id.0) same_table) settled)
        | inr waits ↦ inr (before_same before r.state t.state n (ap (λ (x : Nodes). held x.entries n.id.0) same_table) waits.0, hope n given waits.1)
      ];
      owned = owned;
    }

    -- the first letter is opened
    pub opened : (l : Letter) (tail : List Letter) (r : Running) → l.to_asker ≡ true → AnswersAre r [] → LearnsBy (l ∷ tail) r [] → LearnsBy tail r l.group
    opened l tail r goes none h = relearn (l ∷ tail) tail r r [] l.group [] h none (All-nil Asks) refl refl refl hope (owned h.owned)
      where
        no_said : h.said ≡ []
        no_said = no_answers h.said (sym none ∙ h.are)

        hope : (n : Entry) → IsGiven start n → PendingIn (l ∷ tail) n ⊎ (InRest [] n ⊎ InAsked h.said n) → PendingIn tail n ⊎ (InRest l.group n ⊎ InAsked [] n)
        hope n given (inl (m, there_m, is)) = elim (Contains-cases l tail m there_m) [
          | inl same ↦ elim is [
            | inl state ↦ inr (inl (subst (λ (x : Letter). InRest x.group n) (sym same) state.1))
            | inr asked ↦ absurd (let clash : true ≡ false = sym goes ∙ (ap (λ (x : Letter). x.to_asker) same ∙ asked.0) in cc)
          ]
          | inr later ↦ inl (m, later, is)
        ]
        hope n given (inr (inl (x, there_x, is))) = absurd (nothing_in x there_x)
        hope n given (inr (inr (x, there_x, is))) = absurd (nothing_in x (subst (λ (xs : List Saying). Contains xs x) no_said there_x))

        owned : IsOwned of_entry marks start before before.ports (PendingIn (l ∷ tail)) (WaitingIn (l ∷ tail)) r.state []
            → IsOwned of_entry marks start before before.ports (PendingIn tail) (WaitingIn tail) r.state l.group
        owned (inl safe) = inl safe
        owned (inr (up, inl none_own)) = absurd (nothing_in none_own.3.0 none_own.3.1)
        owned (inr (up, inr waits)) = let k = waiting_taken l tail waits in inr (k.1, k.2)
