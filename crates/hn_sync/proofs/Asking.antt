-- A list of requests arrives at a router that is still.
use Rattle.hn_base.proofs.Names.{◌≡◌, ◌∙◌, List, [], ◌∷◌, map, Contains, sym, ap, subst, inl, inr, All-head, All-tail, Then, Each}
use Rattle.hn_sync.proofs.Names.{All, nothing_in, Contains-head, Contains-cases, NodeId, Entry, Subject, NetworkRequest, NetworkState, NodeRequest, NodeState, NodeData, Origin, Running, State}
use Rattle.hn_sync.proofs.Names.{IsItemRule, IsTlvRule, IsRefresh, IsSole, HeldIsOfAnEntry, PlainItem}
use Rattle.hn_typed.specs.Item as item
use Rattle.hn_sync.proofs.Answered.{AnswersAre}
use Rattle.hn_sync.proofs.NodeStatesSaid.{IsFit, Knows, Says, IsAsked, Asks, can_ask}
use Rattle.hn_sync.proofs.NothingToRefresh.{IsQuiet, quiet_rests}
use Rattle.hn_sync.proofs.Replies.{network_requested}
use Rattle.hn_sync.proofs.Sayings.{ReadLaws, rule_of, Saying, tlv_said}
use Rattle.hn_sync.proofs.AskedStays.{IsAskedAsBefore, still_quiet, Requested, node_requested}

module _ (read : ReadLaws) (sole : IsSole IsRefresh) (of_entry : HeldIsOfAnEntry) (start : State) (fit : IsFit start) (quiet : IsQuiet start) (from : Origin) where
  pub record Replies (asked said : List Saying) (a : Running) : Type 0 where
    pub still : IsAskedAsBefore start a.state
    pub next : List Saying
    pub are : AnswersAre a next
    pub all : All (Says start) next
    pub keeps : (y : Saying) → Contains said y → Contains next y
    pub answered : (s : Saying) (id : NodeId) (n : Entry) → Contains asked s → s.about ≡ NodeRequest id → Contains start.reach id → Knows start id n
        → (x : Saying) × Contains next x × (x.about ≡ NodeData id)

  by_about : (about : Subject) (i : PlainItem) (said : List Saying) (r b : Running) → IsAsked about i → IsItemRule from i r b → IsAskedAsBefore start r.state → AnswersAre r said
      → All (Says start) said
      → Replies (record { about = about; item = i } ∷ []) said b
  by_about NetworkRequest i said r b asked rule still are all =
      let got = network_requested of_entry start fit said r b still are all (subst (λ (j : PlainItem). IsItemRule from j r b) asked rule) in
      record {
        still = subst (IsAskedAsBefore start) (sym got.3.state) still;
        next = got.3.next;
        are = got.3.are;
        all = got.3.all;
        keeps = λ y old. got.3.keeps y (got.1 y old);
        answered = λ s id n there about. elim (Contains-cases (record { about = NetworkRequest; item = i }) [] s there) [
          | inl here ↦ absurd (let clash : NetworkRequest ≡ NodeRequest id = ap (λ (x : Saying). x.about) here ∙ about in cc)
          | inr later ↦ absurd (nothing_in s later)
        ];
      }
  by_about (NodeRequest id) i said r b asked rule still are all =
      let is : IsItemRule from (item.RequestNode id.0 []) r b = subst (λ (j : PlainItem). IsItemRule from j r b) asked.0 rule in
      let got = subst (Requested of_entry start fit id said r) (sym is) (node_requested of_entry start fit id said r still are all) in
      record {
        still = subst (IsAskedAsBefore start) (sym got.state) still;
        next = got.next;
        are = got.are;
        all = got.all;
        keeps = got.keeps;
        answered = λ s x n there about reached knows. elim (Contains-cases (record { about = NodeRequest id; item = i }) [] s there) [
          | inl here ↦
              let same : NodeRequest id ≡ NodeRequest x = ap (λ (y : Saying). y.about) here ∙ about in
              let one : x ≡ id = cc in
              subst (λ (y : NodeId). (z : Saying) × Contains got.next z × (z.about ≡ NodeData y)) (sym one)
              (got.answered n (subst (Contains start.reach) one reached) (subst (λ (y : NodeId). Knows start y n) one knows))
          | inr later ↦ absurd (nothing_in s later)
        ];
      }
  by_about NetworkState i said r b asked rule still are all = absurd asked
  by_about (NodeState id) i said r b asked rule still are all = absurd asked
  by_about (NodeData id) i said r b asked rule still are all = absurd asked

  pub replies : (asked : List Saying) → All Asks asked → (said : List Saying) (r a : Running) → IsAskedAsBefore start r.state → AnswersAre r said → All (Says start) said
      → Each (λ tlv. Then (IsTlvRule from tlv) IsRefresh) (map tlv_said asked) r a → Replies asked said a
  replies [] asks said r a still are all h = record {
    still = subst (λ (x : Running). IsAskedAsBefore start x.state) (sym h) still;
    next = said;
    are = ap (λ (x : Running). x.answers) h ∙ are;
    all = all;
    keeps = λ y k. k;
    answered = λ s id n there. absurd (nothing_in s there);
  }
  replies (s ∷ asked) asks said r a still are all h =
      let first = All-head Asks s asked asks in
      let one = by_about s.about s.item said r h.1.0 first (rule_of read from s.item r h.1.0 (can_ask s.about s.item first) h.1.1) still are all in
      let rests : h.0 ≡ h.1.0 = quiet_rests sole h.1.0 h.0 (still_quiet start (h.1.0).state one.still quiet) h.1.2 in
      let rest = replies asked (All-tail Asks s asked asks) one.next h.0 a (subst (λ (x : Running). IsAskedAsBefore start x.state) (sym rests) one.still)
      (ap (λ (x : Running). x.answers) rests ∙ one.are) one.all h.2 in
      record {
        still = rest.still;
        next = rest.next;
        are = rest.are;
        all = rest.all;
        keeps = λ y old. rest.keeps y (one.keeps y old);
        answered = λ t id n there about reached knows. elim (Contains-cases s asked t there) [
          | inl here ↦
              let got = one.answered s id n (Contains-head s []) (ap (λ (y : Saying). y.about) here ∙ about) reached knows in
              (got.0, rest.keeps got.0 got.1, got.2)
          | inr later ↦ rest.answered t id n later about reached knows
        ];
      }
