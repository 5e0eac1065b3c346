-- A tick has exactly one result over each stream of words, and so have the other events that take words.
use Rattle.hn_base.proofs.Names.{◌≡◌, ◌∙◌, ◌+◌, ℕ, false, List, [], ◌∷◌, ◌++◌, None, IsTrue, length, map, ap, refl, inl, inr, sym, subst, Some!, Then, Each, IsTotalOrder, on, on_total, Begins}
use Rattle.hn_rules.proofs.Names.{EpId, some_is, some_then, spelling, tlv_of, Port, PackingExists, Delegated, Wish, pair_cmp, wish_pair, IsSubroutine, Neighbour, attached_port, ticked, tick_words, tick_sends}
use Rattle.hn_rules.proofs.Names.{endpoints_of, attached, Running, State, IsAssigning, AreAsked, IsRunAssigned, seen_by, ending, IsAttaching, IsPortRestart, emptied, IsRestarting, KeepsRouter}
use Rattle.hn_rules.proofs.Names.{RefreshMakesRouter, Publishes, IsRefresh, IsRouter, Rule, AtPort, with_port, with_words, words_taken, IsExpired, Without, IsPortExpiry, IsExpiry}
use Rattle.hn_rules.proofs.Names.{IsStateSending, IsPortMoving, IsPortSending, IsPortTick, IsPortsTick, forgetting, IsLosing, IsSettling, IsTick, IsSole}
use Rattle.hn_base.proofs.AscendingLists.{ascending_unique}
use Rattle.hn_base.proofs.ExactRules.{exact_given, exact_plain, exact_by, exact_like, exact_both, exact_start, exact_after, exact_test}
use Rattle.hn_base.proofs.FirstWords.{begins_front, begins_back, begins_along}
use Rattle.hn_base.proofs.OneResult.{sole_drawn}
use Rattle.hn_base.proofs.SomeExists.{some_by}
use Rattle.hn_base.proofs.SomeResult.{total_drawn, total_from}
use Rattle.hn_typed.specs.Item as item
use Rattle.hn_deleg.specs.Laws.{UsableIsUnique}
use Rattle.hn_dncp.specs.Laws.{PackingIsUnique}
use Rattle.hn_assign.specs.declared.ran.Ran.{Ran as Assigned}
use Rattle.hn_assign.specs.Laws.{SubroutineHasOneResult}
use Rattle.hn_rules.specs.Rules.{IsExactRule}
use Rattle.hn_rules.proofs.ExactRefreshes.{RefreshLaws, Well, Any, CanPublish, can_publish, exact_attached, exact_ports, exact_publishes, exact_refresh, exact_taking}
use Rattle.hn_rules.proofs.SomeWishes.{AssigningLaws, total_assigning}
use Rattle.hn_rules.proofs.Walk.{at_ports, assigning_walk, beginning, emptied_walk, ending_walk, expiry_walk}

-- ---- silent peers go

one_without : {A : Type 0} (P : A → Type 0) (xs kept other : List A) → Without P xs kept → Without P xs other → kept ≡ other
one_without P [] kept other h k = h ∙ sym k
one_without P (x ∷ xs) kept other (inl h) (inl k) = one_without P xs kept other h.1 k.1
one_without P (x ∷ xs) kept other (inl h) (inr k) = absurd (k.1 h.0)
one_without P (x ∷ xs) kept other (inr h) (inl k) = absurd (h.1 k.0)
one_without P (x ∷ xs) kept other (inr h) (inr k) = h.3 ∙ ap (λ l. x ∷ l) (one_without P xs h.0 k.0 h.2 k.2) ∙ sym k.3

some_without : {A : Type 0} (P : A → Type 0) (xs : List A) → Some! (Without P xs)
some_without P [] = some_is (Without P []) [] refl
some_without P (x ∷ xs) =
    some_then (some_without P xs) (λ kept without. some_by (P x) (λ holds none. none kept (inl (holds, without))) (λ not none. none (x ∷ kept) (inr (kept, not, without, refl))))

exact_port_expiry : (port : Port) → IsExactRule Any (IsPortExpiry port)
exact_port_expiry port =
    exact_given words_taken Any (IsPortExpiry port) (λ r a h. ap words_taken h.gives)
    (λ r a b h k. h.gives ∙ ap (λ (peers : List Neighbour). with_port (record port { peers = peers }) r) (one_without (IsExpired r.state) port.peers h.peers k.peers h.without k.without) ∙ sym k.gives)
    (λ r p. some_then (some_without (IsExpired r.state) port.peers) (λ peers without none.
    none (with_port (record port { peers = peers }) r) (record { peers = peers; without = without; gives = refl })))

pub exact_expiry : IsExactRule Any IsExpiry
exact_expiry = exact_attached IsPortExpiry exact_port_expiry

-- ---- what is due at the endpoints

-- the laws on which it rests that datagrams are packed
pub record SendingLaws : Type 0 where
  pub packing : PackingExists
  pub one_packing : PackingIsUnique

-- as many words as it takes, and what they make
abbrev IsMovedBy : Port → List ℕ → Rule
IsMovedBy port words before after =
    (length words ≡ tick_words before.state.moment port) × (after ≡ with_words words (with_port (ticked before.state.moment words port) before))

exact_port_moving : (port : Port) → IsExactRule Any (IsPortMoving port)
exact_port_moving port = record {
  sole = sole_drawn words_taken (IsPortMoving port) (λ r a h. h.words) (λ r a h. ap words_taken h.gives) (λ r a b h k. h.as_many ∙ sym k.as_many)
      (λ r a b h k same. h.gives ∙ ap (λ (words : List ℕ). with_words words (with_port (ticked r.state.moment words port) r)) same ∙ sym k.gives);
  total = total_from words_taken Any (λ r a. (words : List ℕ) × (IsMovedBy port words r a)) (IsPortMoving port) (λ r a p h. record { words = h.0; as_many = h.1.0; gives = h.1.1 })
      (total_drawn words_taken Any (λ r. tick_words r.state.moment port) (IsMovedBy port) (λ words r a h. ap words_taken h.1)
      (λ words r p as_many none. none (with_words words (with_port (ticked r.state.moment words port) r)) (as_many, refl)));
}

module _ (laws : SendingLaws) where
  sending : EpId → List (List ℕ) → Running → Running
  sending at datagrams r = record r { done = record r.done { sends = r.done.sends ++ map (λ bytes. record { endpoint = at; to = None; bytes = bytes }) datagrams } }

  exact_state_sending : (at : EpId) → IsExactRule Any (IsStateSending at)
  unfolding sending
  exact_state_sending at =
      exact_given words_taken Any (IsStateSending at) (λ r a h. ap words_taken h.gives)
      (λ r a b h k. h.gives ∙ ap (λ (datagrams : List (List ℕ)). sending at datagrams r)
      (laws.one_packing r.state.id at (spelling (tlv_of (item.NetworkState r.state.net [])) ∷ []) h.datagrams k.datagrams h.packed k.packed) ∙ sym k.gives)
      (λ r p none. let (datagrams, packed) = laws.packing r.state.id at (spelling (tlv_of (item.NetworkState r.state.net [])) ∷ []) in
      none (sending at datagrams r) (record { datagrams = datagrams; packed = packed; gives = refl }))

  exact_port_sending : (port : Port) → IsExactRule Any (IsPortSending port)
  exact_port_sending port =
      exact_test words_taken Any (λ r. tick_sends r.state.moment port) (IsStateSending port.id) (λ r a. a ≡ r)
      (exact_by words_taken (λ r. Any r × IsTrue (tick_sends r.state.moment port)) Any (IsStateSending port.id) (λ r p. tt) (exact_state_sending port.id))
      (exact_plain words_taken (λ r. Any r × (tick_sends r.state.moment port ≡ false)) (λ r. r) (λ r. refl))

  pub exact_ports_tick : IsExactRule Any IsPortsTick
  exact_ports_tick =
      exact_attached IsPortTick (λ port. exact_both words_taken Any Any (IsPortMoving port) (IsPortSending port) (exact_port_moving port) (λ r a p h. tt) (exact_port_sending port))

-- ---- prefixes are assigned

-- the laws on which it rests
pub record OneAssigningLaws : Type 0 where
  pub assigning : AssigningLaws
  pub one_usable : UsableIsUnique
  pub one_subroutine : SubroutineHasOneResult
  pub pairs_total : IsTotalOrder pair_cmp

one_wishes : OneAssigningLaws → (s : State) (usable : List Delegated) (a b : List Wish) → AreAsked s usable a → AreAsked s usable b → a ≡ b
one_wishes laws s usable a b h k =
    ascending_unique (on wish_pair pair_cmp) (on_total wish_pair laws.pairs_total) a b h.ascending k.ascending
    (λ wish. let p = h.exact wish in let q = k.exact wish in (λ x. q.1 (p.0 x), λ y. p.1 (q.0 y)))

assigned_words : (r a : Running) (h : IsAssigning r a) → a.done.words ≡ r.done.words ++ h.ran.words
assigned_words r a h = ap (λ (x : Running). x.done.words) h.gives

module _ (laws : OneAssigningLaws) (s : State) where
  one_assigned : (a b : Assigned) (stream : ℕ → ℕ) → IsRunAssigned s a → IsRunAssigned s b → Begins a.words stream → Begins b.words stream → a ≡ b
  one_assigned a b stream h k at_a at_b =
      let view = seen_by s in
      let usable : h.usable ≡ k.usable = laws.one_usable view h.usable k.usable h.are_usable k.are_usable in
      let asked : AreAsked s k.usable h.wishes = subst (λ (list : List Delegated). AreAsked s list h.wishes) usable h.are_asked in
      let wishes : h.wishes ≡ k.wishes = one_wishes laws s k.usable h.wishes k.wishes asked k.are_asked in
      laws.one_subroutine view k.wishes s.held a b stream (subst (λ (list : List Wish). IsSubroutine view list s.held a) wishes h.is_subroutine) k.is_subroutine at_a at_b

sole_assigning : OneAssigningLaws → IsSole IsAssigning
sole_assigning laws = record {
  grows = λ stream r a h begins. begins_front r.done.words h.ran.words stream (begins_along a.done.words (r.done.words ++ h.ran.words) stream (assigned_words r a h) begins);
  one = λ stream r a b h k at_a at_b.
      let rest : ℕ → ℕ = λ i. stream (length r.done.words + i) in
      let words_a : Begins h.ran.words rest = begins_back r.done.words h.ran.words stream (begins_along a.done.words (r.done.words ++ h.ran.words) stream (assigned_words r a h) at_a) in
      let words_b : Begins k.ran.words rest = begins_back r.done.words k.ran.words stream (begins_along b.done.words (r.done.words ++ k.ran.words) stream (assigned_words r b k) at_b) in
      h.gives
      ∙ ap (λ (ran : Assigned). with_words ran.words (record r { state = record r.state { held = ran.held } })) (one_assigned laws r.state h.ran k.ran rest h.is_assigned k.is_assigned words_a words_b)
      ∙ sym k.gives;
}

-- a router
abbrev Whole : Running → Type 0
Whole r = IsRouter r.state

pub exact_assigning : OneAssigningLaws → IsExactRule Whole IsAssigning
exact_assigning laws = record { sole = sole_assigning laws; total = total_assigning laws.assigning }

-- ---- a tick

-- the laws on which it rests
pub record TickLaws : Type 0 where
  pub refresh : RefreshLaws
  pub assigning : OneAssigningLaws
  pub sending : SendingLaws
  pub makes_router : RefreshMakesRouter
  pub forgets : KeepsRouter (λ b a. a ≡ forgetting b)

module _ (laws : TickLaws) where
  exact_losing : IsExactRule Well IsLosing
  exact_losing =
      let each = laws.refresh.keeps [] in
      exact_both words_taken Well Well IsExpiry (Then (λ b a. a ≡ ending b) IsRefresh)
      (exact_by words_taken Well Any IsExpiry (λ r is. tt) exact_expiry) (λ r a is h. expiry_walk [] Well each r a h is)
      (exact_both words_taken Well Well (λ b a. a ≡ ending b) IsRefresh (exact_plain words_taken Well ending (λ r. refl)) (λ r a is h. ending_walk [] Well each r a h is)
      (exact_refresh laws.refresh))

  -- it ends in a refresh
  losing_makes : (r a : Running) → Well r → IsLosing r a → Whole a
  losing_makes r a is (expired, expiry, (ended, ends, refresh)) =
      let each = laws.refresh.keeps [] in
      let before : Well ended = ending_walk [] Well each expired ended ends (expiry_walk [] Well each r expired expiry is) in
      laws.makes_router ended a refresh before

  exact_settling : IsExactRule Whole IsSettling
  exact_settling =
      exact_both words_taken Whole Well IsAssigning IsRefresh (exact_assigning laws.assigning) (λ r a is h. assigning_walk [] Well (laws.refresh.keeps []) r a h is.well)
      (exact_refresh laws.refresh)

  pub exact_tick : IsExactRule Well IsTick
  exact_tick =
      exact_both words_taken Well Whole IsLosing (Then (λ b a. a ≡ forgetting b) (Then IsSettling IsPortsTick)) exact_losing losing_makes
      (exact_both words_taken Whole Whole (λ b a. a ≡ forgetting b) (Then IsSettling IsPortsTick) (exact_plain words_taken Whole forgetting (λ r. refl))
      (λ r a is h. laws.forgets r a h is)
      (exact_both words_taken Whole Any IsSettling IsPortsTick exact_settling (λ r a is h. tt) (exact_ports_tick laws.sending)))

-- ---- the other events

pub exact_attaching : (at : EpId) → IsExactRule Any (IsAttaching at)
exact_attaching at =
    let rule : ℕ → Running → Running = λ word r. with_words (word ∷ []) (record r { state = record r.state { ports = attached (attached_port at r.state.moment word) r.state.ports } }) in
    exact_like words_taken Any (λ r a. (word : ℕ) × (a ≡ rule word r)) (IsAttaching at) (λ r a h. (h.word, h.gives)) (λ r a p h. record { word = h.0; gives = h.1 })
    (exact_taking Any rule (λ word r. refl))

exact_port_restart : (port : Port) → IsExactRule Any (IsPortRestart port)
exact_port_restart port =
    let rule : ℕ → Running → Running = λ word r. with_words (word ∷ []) (with_port (attached_port port.id r.state.moment word) r) in
    exact_like words_taken Any (λ r a. (word : ℕ) × (a ≡ rule word r)) (IsPortRestart port) (λ r a h. (h.word, h.gives)) (λ r a p h. record { word = h.0; gives = h.1 })
    (exact_taking Any rule (λ word r. refl))

-- each endpoint is attached anew
abbrev Restart : Running → Rule
Restart s = Each (λ at. AtPort at IsPortRestart) (endpoints_of s.state.ports)

exact_restart : RefreshLaws → (s : Running) → IsExactRule Well (λ r a. Then (Restart s) (Publishes 1) (emptied r) a)
exact_restart laws s =
    let each = laws.keeps [] in
    exact_after words_taken Well Well emptied (Then (Restart s) (Publishes 1)) (λ r. refl) (λ r is. emptied_walk [] Well each r is)
    (exact_both words_taken Well CanPublish (Restart s) (Publishes 1)
    (exact_by words_taken Well Any (Restart s) (λ r is. tt) (exact_ports IsPortRestart exact_port_restart (endpoints_of s.state.ports)))
    (λ r a is h. can_publish laws a (at_ports [] Well each IsPortRestart (beginning [] Well each) (endpoints_of s.state.ports) r a h is))
    (exact_publishes laws 1))

pub exact_restarting : RefreshLaws → IsExactRule Well IsRestarting
exact_restarting laws =
    exact_start words_taken Well (λ s r a. Then (Restart s) (Publishes 1) (emptied r) a) (λ s. (exact_restart laws s).sole) (λ s p. (exact_restart laws s).total)
