-- The router that asks hears of its own identifier, and may draw a new one.
use Rattle.hn_base.proofs.Names.{◌≡◌, ◌≢◌, ◌∙◌, ◌⊎◌, ◌<◌, ◌≤◌, ◌+◌, ◌-◌, ◌%◌, ◌^◌, ℕ, Bool, true, false, List, [], ◌∷◌, Contains, Option, Some, None, is_some, sym, ap, subst, refl, inl, inr, arith}
use Rattle.hn_base.proofs.Names.{or_parts, eqb-false, eq-eqb, cond-true}
use Rattle.hn_sync.proofs.Names.{◌==◌, Contains-head, Contains-tail, NodeId, Entry, Part, Subject, NetworkState, NodeRequest, NodeState, Running, with_answer, IsClaim, own_leaf, took_noted, IsTaken}
use Rattle.hn_sync.proofs.Names.{IsNodeState, IsRefresh, noted, PlainState, known_of, IsStale, Nodes, held, OwnLeaf, Took, RequestNode, state_of}
use Rattle.std.proofs.Common.{◌||◌}
use Rattle.hn_rules.specs.declared.done.Note.TheVariants as note
use Rattle.hn_rules.specs.Claim.{IsSecondClaim}
use Rattle.hn_store.specs.Acceptance.{IsAnswer}
use Rattle.hn_store.specs.declared.state.Took.TheVariants as took
use Rattle.hn_sync.proofs.NodeStatesSaid.{IsEntry}
use Rattle.hn_sync.proofs.Holding.{state_said, said_short, said_right}
use Rattle.hn_sync.proofs.NothingToRefresh.{IsRefreshing, refresh_leaves}
use Rattle.hn_sync.proofs.Replies.{Below, Ascends}
use Rattle.hn_sync.proofs.Sayings.{Saying}
use Rattle.hn_sync.proofs.PeersSaid.{Ascend, ascend_from_signs}

-- ---- what the table answers

pub own_is : (nodes : Nodes) (own : OwnLeaf) (s : PlainState) → IsAnswer nodes own s took.Own → s.node ≡ own.id.0
unfolding IsAnswer
own_is nodes own s (inl h) = absurd (let clash = h.1 in cc)
own_is nodes own s (inr (h, inl k)) = absurd (let clash = k.1 in cc)
own_is nodes own s (inr (h, inr (k, inl l))) = absurd (let clash = l.1 in cc)
own_is nodes own s (inr (h, inr (k, inr (l, inl m)))) = absurd (let clash = m.1 in cc)
own_is nodes own s (inr (h, inr (k, inr (l, inr (m, inl o))))) = o.0
own_is nodes own s (inr (h, inr (k, inr (l, inr (m, inr (o, inl p)))))) = absurd (let clash = p.1 in cc)
own_is nodes own s (inr (h, inr (k, inr (l, inr (m, inr (o, inr (p, inl q))))))) = absurd (let clash = q.1 in cc)
own_is nodes own s (inr (h, inr (k, inr (l, inr (m, inr (o, inr (p, inr (q, inl v)))))))) = absurd (let clash = v.1 in cc)
own_is nodes own s (inr (h, inr (k, inr (l, inr (m, inr (o, inr (p, inr (q, inr v)))))))) = absurd (let clash = v.1 in cc)

-- of the own identifier, the state is stale, or it is a claim
pub own_answer : (nodes : Nodes) (own : OwnLeaf) (with_data : Bool) (n : Entry) (how : Took) → IsEntry n → n.id.0 ≡ own.id.0 → IsAnswer nodes own (state_said with_data n) how
    → (IsStale (Some (record { number = own.number; hash = own.hash })) (state_of n) × (how ≡ took.Stale))
    ⊎ ((¬ (IsStale (Some (record { number = own.number; hash = own.hash })) (state_of n))) × (how ≡ took.Own))
unfolding IsAnswer
own_answer nodes own with_data n how fits is = by_line
  where
    known : known_of nodes.entries own n.id.0 ≡ Some (record { number = own.number; hash = own.hash })
    known = cond-true (n.id.0 == own.id.0) _ _ (eq-eqb n.id.0 own.id.0 is)

    by_line : IsAnswer nodes own (state_said with_data n) how
        → (IsStale (Some (record { number = own.number; hash = own.hash })) (state_of n) × (how ≡ took.Stale))
        ⊎ ((¬ (IsStale (Some (record { number = own.number; hash = own.hash })) (state_of n))) × (how ≡ took.Own))
    by_line (inl h) = inl (subst (λ (o : Option Part). IsStale o (state_said with_data n)) known h.0, h.1)
    by_line (inr (h, inl k)) = absurd (let clash : None ≡ Some (record { number = own.number; hash = own.hash }) = sym k.0.0 ∙ known in cc)
    by_line (inr (h, inr (k, inl l))) = absurd (let long = l.0 in let less = said_short with_data n fits in omega arith)
    by_line (inr (h, inr (k, inr (l, inl m)))) = absurd (m.0.1 (said_right with_data n m.0.0))
    by_line (inr (h, inr (k, inr (l, inr (m, inl o))))) = inr (λ stale. h (subst (λ (p : Option Part). IsStale p (state_said with_data n)) (sym known) stale), o.1)
    by_line (inr (h, inr (k, inr (l, inr (m, inr rest))))) = absurd (rest.0 is)

-- what comes of another answer than a claim: a note, and a request where the data are asked for
pub not_claimed : (s : PlainState) (how : Took) (r b : Running) → how ≢ took.Own → IsTaken s how r b
    → ((how ≢ took.Ask) × (b ≡ took_noted s how r)) ⊎ ((how ≡ took.Ask) × (b ≡ with_answer (NodeRequest (record { 0 = s.node })) (RequestNode s.node []) (took_noted s took.Ask r)))
not_claimed s took.Own r b other h = absurd (other refl)
not_claimed s took.Ask r b other h = inr (refl, h)
not_claimed s took.Kept r b other h = inl ((λ e. absurd (cc)), h)
not_claimed s took.Renumbered r b other h = inl ((λ e. absurd (cc)), h)
not_claimed s took.Stale r b other h = inl ((λ e. absurd (cc)), h)
not_claimed s took.BadHash r b other h = inl ((λ e. absurd (cc)), h)
not_claimed s took.BadBody r b other h = inl ((λ e. absurd (cc)), h)
not_claimed s took.TooLong r b other h = inl ((λ e. absurd (cc)), h)
not_claimed s took.Full r b other h = inl ((λ e. absurd (cc)), h)

-- a number 1000 above a claimed one is not older
pub claimed_stale : (number other : ℕ) (hash body : List ℕ) → other < 2 ^ 32 → number ≡ (other + 1000) % 2 ^ 32
    → (¬ (2 ^ 31 ≤ (number + 2 ^ 32 - other) % 2 ^ 32)) × ¬ ((number ≡ other) × (hash ≢ body))
claimed_stale number other hash body fits is = (λ older. absurd (omega (arith, fits, is, older)), λ same. absurd (let one = same.0 in omega (arith, fits, is, one)))

-- ---- a new identifier is drawn

-- what comes in ascending order after something is a state without data
pub below_kind : (a b : Subject) → Below a b → (id : NodeId) × (b ≡ NodeState id)
below_kind NetworkState (NodeState id) h = (id, refl)
below_kind (NodeState x) (NodeState y) h = (y, refl)
below_kind _ _ h = absurd h

pub below_node : (x y : NodeId) → Below (NodeState x) (NodeState y) → x.0 < y.0
below_node x y h = h

-- The router has another identifier than this. It is not claimed yet, or nothing of it comes any more.
pub record IsRenamed (me : NodeId) (r : Running) (rest : List Saying) : Type 0 where
  pub other : r.state.id.0 ≢ me.0
  pub ascend : Ascend r.state.ports
  pub ascends : Ascends rest
  pub kinds : (x : Saying) → Contains rest x → (id : NodeId) × (x.about ≡ NodeState id)
  pub free : (r.state.claimed ≡ false) ⊎ ((x : Saying) (id : NodeId) → Contains rest x → x.about ≡ NodeState id → r.state.id.0 < id.0)

not_taken : (id own : ℕ) (rest : Bool) → (id == 0 || (id == own || rest)) ≡ false → id ≢ own
not_taken id own rest h = eqb-false id own (or_parts (id == own) rest (or_parts (id == 0) (id == own || rest) h).1).0

-- a new identifier is another one
pub drawn_other : (number : ℕ) (r b : Running) (h : IsSecondClaim r b) → b.state.id.0 ≢ r.state.id.0
drawn_other number r b h same =
    let is : b.state.id.0 ≡ h.id = ap (λ (x : Running). x.state.id.0) h.publishes.gives in
    not_taken h.id r.state.id.0 (is_some (held r.state.table.entries h.id)) h.first.free (sym is ∙ same)

pub renamed_refreshed : (me : NodeId) (b c : Running) (rest : List Saying) → IsRenamed me b rest → IsRefresh b c → IsRenamed me c rest
renamed_refreshed me b c rest h refresh =
    let k : IsRefreshing b c = refresh_leaves b c h.ascend refresh in
    let id : c.state.id ≡ b.state.id = ap (λ (x : Running). x.state.id) k.gives in
    let claimed : c.state.claimed ≡ b.state.claimed = ap (λ (x : Running). x.state.claimed) k.gives in
    record {
      other = λ same. h.other (sym (ap (λ (x : NodeId). x.0) id) ∙ same);
      ascend = ascend_from_signs c.state.ports b.state.ports k.signed h.ascend;
      ascends = h.ascends;
      kinds = h.kinds;
      free = elim h.free [
        | inl none ↦ inl (claimed ∙ none)
        | inr above ↦ inr (λ x y there about. subst (λ (z : NodeId). z.0 < y.0) (sym id) (above x y there about))
      ];
    }

-- and another node's state is passed
pub renamed_state : (me : NodeId) (s : Saying) (rest : List Saying) (carried : PlainState) (id : NodeId) (r b : Running) → s.about ≡ NodeState id
    → carried.node ≡ id.0 → IsNodeState carried r b → IsRenamed me r (s ∷ rest)
    → IsRenamed me b rest
renamed_state me s rest carried id r b about node rule h = by_how rule.how refl
  where
    passed : (x : Running) → x.state.id ≡ r.state.id → x.state.ports ≡ r.state.ports
        → ((x.state.claimed ≡ false) ⊎ ((y : Saying) (z : NodeId) → Contains rest y → y.about ≡ NodeState z → x.state.id.0 < z.0)) → IsRenamed me x rest
    passed x same_id same_ports free = record {
      other = λ same. h.other (sym (ap (λ (y : NodeId). y.0) same_id) ∙ same);
      ascend = subst Ascend (sym same_ports) h.ascend;
      ascends = h.ascends.1;
      kinds = λ y there. h.kinds y (Contains-tail s rest y there);
      free = free;
    }

    free_rest : (x : Running) → x.state.id ≡ r.state.id → x.state.claimed ≡ r.state.claimed → (x.state.claimed ≡ false)
        ⊎ ((y : Saying) (z : NodeId) → Contains rest y → y.about ≡ NodeState z → x.state.id.0 < z.0)
    free_rest x same_id same_claimed = elim h.free [
      | inl none ↦ inl (same_claimed ∙ none)
      | inr above ↦ inr (λ y z there is. subst (λ (w : NodeId). w.0 < z.0) (sym same_id) (above y z (Contains-tail s rest y there) is))
    ]

    by_how : (how : Took) → rule.how ≡ how → IsRenamed me b rest
    by_how took.Own is = by_claim claim
      where
        own : carried.node ≡ r.state.id.0
        own = own_is r.state.table (own_leaf r.state) carried (subst (IsAnswer r.state.table (own_leaf r.state) carried) is rule.accepts.answer)

        begun : Running
        begun = noted (note.Own carried.number) (record r { state = record r.state { table = rule.table } })

        claim : IsClaim carried.number begun b
        claim = subst (λ (w : Took). IsTaken carried w (record r { state = record r.state { table = rule.table } }) b) is rule.taken

        above : (y : Saying) (z : NodeId) → Contains rest y → y.about ≡ NodeState z → r.state.id.0 < z.0
        above y z there y_about =
            let up : Below (NodeState id) (NodeState z) = subst (λ (w : Subject). Below w (NodeState z)) about (subst (λ (w : Subject). Below s.about w) y_about (h.ascends.0 y there)) in
            let less = below_node id z up in
            omega (arith, less, own, node)

        by_claim : IsClaim carried.number begun b → IsRenamed me b rest
        by_claim (inl k) =
            let id_is : b.state.id ≡ r.state.id = ap (λ (x : Running). x.state.id) k.publishes.gives in
            passed b id_is (ap (λ (x : Running). x.state.ports) k.publishes.gives) (inr (λ y z there y_about. subst (λ (w : NodeId). w.0 < z.0) (sym id_is) (above y z there y_about)))
        by_claim (inr k) = elim h.free [
          | inl none ↦ absurd (let clash : true ≡ false = sym k.one_before ∙ none in cc)
          | inr over ↦ absurd (let more = over s id (Contains-head s rest) about in omega (arith, more, own, node))
        ]
    by_how how is = by_taken (not_claimed carried rule.how (record r { state = record r.state { table = rule.table } }) b other rule.taken)
      where
        other : rule.how ≢ took.Own
        other same = absurd (let clash = sym is ∙ same in cc)

        by_taken : ((rule.how ≢ took.Ask) × (b ≡ took_noted carried rule.how (record r { state = record r.state { table = rule.table } })))
            ⊎ ((rule.how ≡ took.Ask) × (b ≡ with_answer (NodeRequest (record { 0 = carried.node })) (RequestNode carried.node [])
            (took_noted carried took.Ask (record r { state = record r.state { table = rule.table } })))) → IsRenamed me b rest
        by_taken (inl k) = passed b (ap (λ (x : Running). x.state.id) k.1) (ap (λ (x : Running). x.state.ports) k.1)
            (free_rest b (ap (λ (x : Running). x.state.id) k.1) (ap (λ (x : Running). x.state.claimed) k.1))
        by_taken (inr k) = passed b (ap (λ (x : Running). x.state.id) k.1) (ap (λ (x : Running). x.state.ports) k.1)
            (free_rest b (ap (λ (x : Running). x.state.id) k.1) (ap (λ (x : Running). x.state.claimed) k.1))
