-- A refresh has exactly one result over each stream of words.
use Rattle.hn_base.proofs.Names.{◌≡◌, ◌∙◌, ℕ, List, [], ◌∷◌, ◌++◌, Some, map, Contains, ap, refl, sym, subst, nat_cmp, IsStrictlySortedBy, Some!, node_cmp, Then, Each}
use Rattle.hn_rules.proofs.Names.{◌≢◌, ◌↔◌, NodeId, EpId, Contains-map, Contains-from_map, sorted_parts, some_then, some_is, ids_of, Entry, interval_from, Port, IsReachable, loss_marked, IsTable}
use Rattle.hn_rules.proofs.Names.{endpoints_of, port_at, Running, State, PlainData, ChangesKeepWell, nodes_of, IsReach, own_items, Publishes, IsPublished, next_number, IsPublishing, IsReaching}
use Rattle.hn_rules.proofs.Names.{IsPortReset, IsReset, IsHashing, IsRefresh, network_state_hash, IsWell, Rule, AtPort, with_port, with_words, words_taken}
use Rattle.hn_base.proofs.ExactRules.{exact_given, exact_plain, exact_by, exact_both, exact_each, exact_start, exact_after, exact_on, exact_cases}
use Rattle.hn_base.proofs.OneResult.{sole_word}
use Rattle.hn_base.proofs.SomeExists.{some_part}
use Rattle.hn_base.proofs.SomeResult.{total_word}
use Rattle.hn_graph.specs.Laws.{ReachableIsANode}
use Rattle.hn_own.specs.Laws.{OwnDataExists, OwnDataIsUnique, OwnItemsAreFew, OwnItemsAreRanged}
use Rattle.hn_own.specs.Own.{AreFew}
use Rattle.hn_own.specs.Ranges.{AreRanged}
use Rattle.hn_rules.specs.Rules.{IsExactRule}
use Rattle.hn_rules.proofs.NodeLists.{nodes_are_network}
use Rattle.hn_rules.proofs.Walk.{publishing}

-- the laws of the crates below on which it rests, and what each change keeps
pub record RefreshLaws : Type 0 where
  pub few : OwnItemsAreFew
  pub ranged : OwnItemsAreRanged
  pub own : OwnDataExists
  pub one_own : OwnDataIsUnique
  pub one_order : (xs ys : List NodeId) → IsStrictlySortedBy node_cmp xs → IsStrictlySortedBy node_cmp ys → ((x : NodeId) → Contains xs x ↔ Contains ys x) → xs ≡ ys
  pub node : ReachableIsANode
  pub keeps : ChangesKeepWell

-- what holds before
abbrev pub Well : Running → Type 0
Well r = IsWell r.state

-- nothing need hold before
abbrev pub Any : Running → Type 0
Any r = Unit {0}

-- ---- endpoints, and words

-- the rule of an endpoint
pub exact_at : (P : Running → Type 0) (at : EpId) (rule : Port → Rule) → ((port : Port) → IsExactRule P (rule port)) → IsExactRule P (AtPort at rule)
exact_at P at rule all =
    exact_on words_taken P (λ r. port_at at r.state.ports) rule
    (λ port. exact_by words_taken (λ r. P r × (port_at at r.state.ports ≡ Some port)) P (rule port) (λ r p. p.0) (all port))

-- and of each of some
pub exact_ports : (rule : Port → Rule) → ((port : Port) → IsExactRule Any (rule port)) → (ats : List EpId) → IsExactRule Any (Each (λ at. AtPort at rule) ats)
exact_ports rule all ats =
    exact_each words_taken Any (λ at. AtPort at rule) ats (λ at. (exact_at Any at rule all).sole) (λ at there b a p is. tt) (λ at there. (exact_at Any at rule all).total)

-- of each that is attached where it begins
pub exact_attached : (rule : Port → Rule) → ((port : Port) → IsExactRule Any (rule port)) → IsExactRule Any (λ r a. Each (λ at. AtPort at rule) (endpoints_of r.state.ports) r a)
exact_attached rule all =
    exact_start words_taken Any (λ s. Each (λ at. AtPort at rule) (endpoints_of s.state.ports)) (λ s. (exact_ports rule all (endpoints_of s.state.ports)).sole)
    (λ s p. (exact_ports rule all (endpoints_of s.state.ports)).total)

-- what takes the next word
pub exact_taking : (P : Running → Type 0) (rule : ℕ → Running → Running) → ((word : ℕ) (r : Running) → words_taken (rule word r) ≡ words_taken r ++ word ∷ [])
    → IsExactRule P (λ r a. (word : ℕ) × (a ≡ rule word r))
exact_taking P rule takes = record {
  sole = sole_word words_taken rule takes;
  total = total_word words_taken P (λ word r a. a ≡ rule word r) (λ word r a is. ap words_taken is ∙ takes word r) (λ word r p. some_is (λ (a : Running). a ≡ rule word r) (rule word r) refl);
}

-- ---- own node data

-- the own items have node data
abbrev pub CanPublish : Running → Type 0
CanPublish r = AreFew (own_items r.state) × AreRanged (own_items r.state)

pub can_publish : RefreshLaws → (r : Running) → Well r → CanPublish r
can_publish laws r is =
    let s = r.state in (
      laws.few s.caps s.ports s.delegated s.held s.addresses is.ports is.peers is.delegated is.pairs is.addresses,
      laws.ranged s.caps s.ports s.delegated s.held s.addresses is.ports is.ranged,
    )

pub some_published : RefreshLaws → (number : ℕ) (r : Running) → CanPublish r → Some! (Publishes number r)
some_published laws number r can none =
    let (own, data_is, items_are, born_is) = laws.own (own_items r.state) r.state.moment can.0 can.1 in
    none
    (record r {
      state = record r.state { number = number; own = own };
      done = record r.done { published = r.done.published ++ record { id = r.state.id; number = number; body = own.body } ∷ [] };
    })
    (record { own = own; data_is = data_is; items_are = items_are; born_is = born_is; gives = refl })

published_with : ℕ → Running → PlainData → Running
published_with number r own = record r {
  state = record r.state { number = number; own = own };
  done = record r.done { published = r.done.published ++ record { id = r.state.id; number = number; body = own.body } ∷ [] };
}

pub one_published : RefreshLaws → (number : ℕ) (r a b : Running) → Publishes number r a → Publishes number r b → a ≡ b
unfolding published_with
one_published laws number r a b h k =
    h.gives ∙ ap (published_with number r) (laws.one_own h.own k.own h.data_is k.data_is (h.items_are ∙ sym k.items_are) (h.born_is ∙ sym k.born_is)) ∙ sym k.gives

pub published_words : (number : ℕ) (r a : Running) → Publishes number r a → a.done.words ≡ r.done.words
published_words number r a h = ap (λ (x : Running). x.done.words) h.gives

pub exact_publishes : RefreshLaws → (number : ℕ) → IsExactRule CanPublish (Publishes number)
exact_publishes laws number = exact_given words_taken CanPublish (Publishes number) (published_words number) (one_published laws number) (some_published laws number)

exact_publishing : RefreshLaws → IsExactRule CanPublish IsPublishing
exact_publishing laws =
    let Due : Running → Type 0 = λ r. CanPublish r × ¬ (IsPublished r.state) in
    exact_cases words_taken CanPublish (λ r. IsPublished r.state) (λ r a. a ≡ r) (λ r a. Publishes (next_number r.state.number) r a)
    (exact_plain words_taken (λ r. CanPublish r × IsPublished r.state) (λ r. r) (λ r. refl))
    (exact_start words_taken Due (λ s. Publishes (next_number s.state.number)) (λ s. (exact_publishes laws (next_number s.state.number)).sole)
    (λ s due. (exact_by words_taken Due CanPublish (Publishes (next_number s.state.number)) (λ r p. p.0) (exact_publishes laws (next_number s.state.number))).total))

-- ---- reachability

-- the identifiers of the nodes ascend
ids_ascend : (s : State) → IsTable s.table → IsStrictlySortedBy node_cmp (map (λ (n : Entry). n.id) (nodes_of s))
ids_ascend s table =
    let network = nodes_are_network s (nodes_of s) table refl in
    (sorted_parts (λ (n : Entry). n.id) node_cmp (nodes_of s)).0 ((sorted_parts (λ (n : Entry). n.id.0) nat_cmp (nodes_of s)).1 network.ascending)

among_ids : (nodes : List Entry) (id : NodeId) → Contains (ids_of nodes) id.0 → Contains (map (λ (n : Entry). n.id) nodes) id
among_ids nodes id there =
    let (n, is_there, is) = Contains-from_map (λ (n : Entry). n.id.0) nodes id.0 there in
    let same : n.id ≡ id = λ i. record { 0 = is i } in
    subst (Contains (map (λ (n : Entry). n.id) nodes)) same (Contains-map (λ (n : Entry). n.id) nodes n is_there)

some_reach : ReachableIsANode → (s : State) → IsTable s.table → Some! (IsReach s)
some_reach node s table =
    some_then (some_part node_cmp (λ (id : NodeId). IsReachable s.id.0 (nodes_of s) id.0) (map (λ (n : Entry). n.id) (nodes_of s)) (ids_ascend s table)) (λ reach part none.
    none reach (record {
      ascending = part.0;
      exactly = λ id. (
        λ there. ((part.1 id).0 there).1,
        λ reachable. (part.1 id).1 (among_ids (nodes_of s) id (node s.id.0 (nodes_of s) id.0 reachable), reachable),
      );
    }))

-- what a router reaches, and its table with the moments of loss
reaching : List NodeId → Running → Running
reaching reach r = record r { state = record r.state { reach = reach; table = loss_marked reach r.state.moment r.state.table } }

one_reach : RefreshLaws → (s : State) (xs ys : List NodeId) → IsReach s xs → IsReach s ys → xs ≡ ys
one_reach laws s xs ys a b = laws.one_order xs ys a.ascending b.ascending (λ id. let p = a.exactly id in let q = b.exactly id in (λ x. q.1 (p.0 x), λ y. p.1 (q.0 y)))

exact_reaching : RefreshLaws → IsExactRule Well IsReaching
unfolding reaching
exact_reaching laws =
    exact_given words_taken Well IsReaching (λ r a h. ap words_taken h.gives)
    (λ r a b h k. h.gives ∙ ap (λ (reach : List NodeId). reaching reach r) (one_reach laws r.state h.reach k.reach h.is_reach k.is_reach) ∙ sym k.gives)
    (λ r is. some_then (some_reach laws.node r.state is.table) (λ reach is_reach none. none (reaching reach r) (record { reach = reach; is_reach = is_reach; gives = refl })))

-- ---- the network state hash

exact_port_reset : (port : Port) → IsExactRule Any (IsPortReset port)
exact_port_reset port =
    let reset : ℕ → Running → Running = λ word r. with_words (word ∷ []) (with_port (record port { trickle = interval_from r.state.moment 200 word }) r) in
    exact_cases words_taken Any (λ r. port.trickle.len ≡ 200) (λ r a. a ≡ r) (λ r a. (word : ℕ) × (a ≡ reset word r))
    (exact_plain words_taken (λ r. Any r × (port.trickle.len ≡ 200)) (λ r. r) (λ r. refl))
    (exact_taking (λ r. Any r × (port.trickle.len ≢ 200)) reset (λ word r. refl))

exact_hashing : IsExactRule Any IsHashing
exact_hashing =
    let hashed : Running → Running = λ r. record r { state = record r.state { net = network_state_hash r.state } } in
    exact_cases words_taken Any (λ r. network_state_hash r.state ≡ r.state.net) (λ r a. a ≡ r) (λ r a. IsReset (hashed r) a)
    (exact_plain words_taken (λ r. Any r × (network_state_hash r.state ≡ r.state.net)) (λ r. r) (λ r. refl))
    (exact_after words_taken (λ r. Any r × (network_state_hash r.state ≢ r.state.net)) Any hashed IsReset (λ r. refl) (λ r p. tt) (exact_attached IsPortReset exact_port_reset))

-- ---- a refresh

pub exact_refresh : RefreshLaws → IsExactRule Well IsRefresh
exact_refresh laws =
    exact_both words_taken Well Well IsPublishing (Then IsReaching IsHashing)
    (exact_by words_taken Well CanPublish IsPublishing (can_publish laws) (exact_publishing laws))
    (λ r a is holds. publishing [] Well (laws.keeps []) r a holds is)
    (exact_both words_taken Well Any IsReaching IsHashing (exact_reaching laws) (λ r a is holds. tt) exact_hashing)
