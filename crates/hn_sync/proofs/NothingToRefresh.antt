-- A router for which a refresh has nothing to do, and what a refresh leaves as it was.
use Rattle.hn_base.proofs.Names.{◌≡◌, ◌∙◌, ◌-◌, ◌<◌, ◌+◌, ◌^◌, ℕ, List, [], ◌∷◌, ◌++◌, length, Option, Some, None, sym, ap, subst, refl, inl, inr, arith, length-append, Each, OnSome, Begins}
use Rattle.hn_sync.proofs.Names.{EpId, NodeId, Port, links_of, ArePorts, endpoints_of, port_at, Done, Running, State, RefreshRests, IsPublished, IsPublishing, IsReaching, IsPortReset, IsHashing}
use Rattle.hn_sync.proofs.Names.{IsRefresh, AtPort, IsSole, loss_marked}
use Rattle.std.specs.Prelude.{slice_index}
use Rattle.hn_own.specs.Own.{PlainData}
use Rattle.hn_rules.specs.declared.done.Publication.{Publication}
use Rattle.hn_rules.specs.Nodes.{IsReach}
use Rattle.hn_rules.specs.Refresh.{own_items, network_state_hash}
use Rattle.hn_sync.proofs.PeersSaid.{signs, Ascend, signs_put, ascend_from_signs, links_from_signs}

-- ---- the network state hash is made anew

-- the hash, endpoints but for what their signs say, and words change, and nothing else
pub record IsRehashed (before after : Running) : Type 0 where
  pub done : Done
  pub gives : after ≡ record before { state = record before.state { net = after.state.net; ports = after.state.ports }; done = done }
  pub sends : done.sends ≡ before.done.sends
  pub published : done.published ≡ before.done.published
  pub signed : signs after.state.ports ≡ signs before.state.ports

rehashed_self : (r : Running) → IsRehashed r r
rehashed_self r = record { done = r.done; gives = refl; sends = refl; published = refl; signed = refl }

rehashed_then : (a b c : Running) → IsRehashed a b → IsRehashed b c → IsRehashed a c
rehashed_then a b c h k = record {
  done = k.done;
  gives = k.gives ∙ ap (λ (r : Running). let x : Running = record r { state = record r.state { net = c.state.net; ports = c.state.ports }; done = k.done } in x) h.gives;
  sends = k.sends ∙ (ap (λ (r : Running). r.done.sends) h.gives ∙ h.sends);
  published = k.published ∙ (ap (λ (r : Running). r.done.published) h.gives ∙ h.published);
  signed = k.signed ∙ h.signed;
}

reset_rehashes : (at : EpId) (r a : Running) → Ascend r.state.ports → AtPort at IsPortReset r a → IsRehashed r a
reset_rehashes at r a up h = by_port (port_at at r.state.ports) refl h
  where
    by_port : (o : Option Port) → port_at at r.state.ports ≡ o → OnSome IsPortReset o r a → IsRehashed r a
    by_port None found is = subst (IsRehashed r) (sym is) (rehashed_self r)
    by_port (Some port) found (inl is) = subst (IsRehashed r) (sym is.1) (rehashed_self r)
    by_port (Some port) found (inr is) = subst (IsRehashed r) (sym is.1.1)
        (record { done = record r.done { words = r.done.words ++ is.1.0 ∷ [] }; gives = refl; sends = refl; published = refl; signed = signs_put at r.state.ports port _ up found refl })

resets_rehash : (ends : List EpId) (r a : Running) → Ascend r.state.ports → Each (λ at. AtPort at IsPortReset) ends r a → IsRehashed r a
resets_rehash [] r a up h = subst (IsRehashed r) (sym h) (rehashed_self r)
resets_rehash (e ∷ ends) r a up h =
    let one = reset_rehashes e r h.0 up h.1 in
    rehashed_then r h.0 a one (resets_rehash ends h.0 a (ascend_from_signs (h.0).state.ports r.state.ports one.signed up) h.2)

net_rehashes : (r : Running) (net : List ℕ) → IsRehashed r (record r { state = record r.state { net = net } })
net_rehashes r net = record { done = r.done; gives = refl; sends = refl; published = refl; signed = refl }

hashing_rehashes : (r a : Running) → Ascend r.state.ports → IsHashing r a → IsRehashed r a
hashing_rehashes r a up (inl h) = subst (IsRehashed r) (sym h.1) (rehashed_self r)
hashing_rehashes r a up (inr h) =
    let hashed : Running = record r { state = record r.state { net = network_state_hash r.state } } in
    rehashed_then r hashed a (net_rehashes r (network_state_hash r.state)) (resets_rehash (endpoints_of r.state.ports) hashed a up h.1)

reset_net : (at : EpId) (r a : Running) → AtPort at IsPortReset r a → a.state.net ≡ r.state.net
reset_net at r a h = by_port (port_at at r.state.ports) h
  where
    by_port : (o : Option Port) → OnSome IsPortReset o r a → a.state.net ≡ r.state.net
    by_port None is = ap (λ (x : Running). x.state.net) is
    by_port (Some port) (inl is) = ap (λ (x : Running). x.state.net) is.1
    by_port (Some port) (inr is) = ap (λ (x : Running). x.state.net) is.1.1

resets_net : (ends : List EpId) (r a : Running) → Each (λ at. AtPort at IsPortReset) ends r a → a.state.net ≡ r.state.net
resets_net [] r a h = ap (λ (x : Running). x.state.net) h
resets_net (e ∷ ends) r a h = resets_net ends h.0 a h.2 ∙ reset_net e r h.0 h.1

-- ---- what a refresh leaves

-- the numbers and the data that are held stay, and so do the identifier, claims on it, the sender and the answers
pub record IsRefreshing (before after : Running) : Type 0 where
  pub reach : List NodeId
  pub number : ℕ
  pub own : PlainData
  pub done : Done
  pub gives : after ≡ record before {
    state = record before.state {
      number = number;
      own = own;
      reach = reach;
      table = loss_marked reach before.state.moment before.state.table;
      net = after.state.net;
      ports = after.state.ports;
    };
    done = done;
  }
  pub sends : done.sends ≡ before.done.sends
  pub signed : signs after.state.ports ≡ signs before.state.ports
  pub published : IsPublished after.state
  pub kept : IsPublished before.state → (number ≡ before.state.number) × (own ≡ before.state.own)

abbrev same_items : State → State → Type 0
same_items s t = own_items s ≡ own_items t

refresh_by : (r b c a : Running) → IsReaching b c → IsRehashed c a
    → (number : ℕ) (own : PlainData) (done : Done) → b ≡ record r { state = record r.state { number = number; own = own }; done = done } → done.sends ≡ r.done.sends
    → own_items r.state ≡ own.items → r.state.moment - own.born < 2 ^ 32 - 2 ^ 16 → (IsPublished r.state → (number ≡ r.state.number) × (own ≡ r.state.own)) → IsRefreshing r a
refresh_by r b c a reaching rehashed number own done is sends items young kept = record {
  reach = reaching.reach;
  number = number;
  own = own;
  done = rehashed.done;
  gives = gives;
  sends = rehashed.sends ∙ (ap (λ (x : Running). x.done.sends) (reaching.gives ∙ put is) ∙ sends);
  signed = rehashed.signed ∙ ap (λ (x : Running). signs x.state.ports) (reaching.gives ∙ put is);
  published = subst (λ (x : Running). IsPublished x.state) (sym gives) (record { same = after_items; young = young });
  kept = kept;
}
  where
    put : b ≡ record r { state = record r.state { number = number; own = own }; done = done }
        → ◌≡◌ {A = Running} (record b { state = record b.state { reach = reaching.reach; table = loss_marked reaching.reach b.state.moment b.state.table } })
        (record r { state = record r.state { number = number; own = own; reach = reaching.reach; table = loss_marked reaching.reach r.state.moment r.state.table }; done = done })
    put e = ap (λ (x : Running). let y : Running = record x { state = record x.state { reach = reaching.reach; table = loss_marked reaching.reach x.state.moment x.state.table } } in y) e

    gives : a ≡ record r {
      state = record r.state {
        number = number;
        own = own;
        reach = reaching.reach;
        table = loss_marked reaching.reach r.state.moment r.state.table;
        net = a.state.net;
        ports = a.state.ports;
      };
      done = rehashed.done;
    }
    gives = rehashed.gives ∙ ap (λ (x : Running). let y : Running = record x { state = record x.state { net = a.state.net; ports = a.state.ports }; done = rehashed.done } in y)
        (reaching.gives ∙ put is)

    same_links : links_of a.state.ports ≡ links_of r.state.ports
    same_links = links_from_signs a.state.ports r.state.ports (rehashed.signed ∙ ap (λ (x : Running). signs x.state.ports) (reaching.gives ∙ put is))

    after_items : own_items (record r.state { ports = a.state.ports }) ≡ own.items
    after_items = rw same_links items

ports_published : (r b : Running) → IsPublishing r b → b.state.ports ≡ r.state.ports
ports_published r b (inl h) = ap (λ (x : Running). x.state.ports) h.1
ports_published r b (inr h) = ap (λ (x : Running). x.state.ports) h.1.gives

pub refresh_leaves : (r a : Running) → Ascend r.state.ports → IsRefresh r a → IsRefreshing r a
refresh_leaves r a up h =
    let same : (h.2.0).state.ports ≡ r.state.ports = ap (λ (x : Running). x.state.ports) h.2.1.gives ∙ ports_published r h.0 h.1 in
    by_publishing h.1 (hashing_rehashes h.2.0 a (subst Ascend (sym same) up) h.2.2)
  where
    by_publishing : IsPublishing r h.0 → IsRehashed h.2.0 a → IsRefreshing r a
    by_publishing (inl k) rehashed =
        refresh_by r h.0 h.2.0 a h.2.1 rehashed r.state.number r.state.own r.done k.1 refl k.0.same k.0.young (λ _. (refl, refl))
    by_publishing (inr k) rehashed =
        let born = k.1.born_is in
        refresh_by r h.0 h.2.0 a h.2.1 rehashed _ k.1.own _ k.1.gives refl (sym k.1.items_are) (omega (arith, born)) (λ is. absurd (k.0 is))

-- ---- a refresh that has nothing to do

pub record IsQuiet (s : State) : Type 0 where
  pub published : IsPublished s
  pub reach : List NodeId
  pub is_reach : IsReach s reach
  pub same_reach : s.reach ≡ reach
  pub same_table : s.table ≡ loss_marked reach s.moment s.table
  pub same_hash : network_state_hash s ≡ s.net

pub quiet_refresh : (r : Running) → IsQuiet r.state → IsRefresh r r
quiet_refresh r h = (
  r,
  inl (h.published, refl),
  (r, record { reach = h.reach; is_reach = h.is_reach; gives = λ i. record r { state = record r.state { reach = h.same_reach i; table = h.same_table i } } }, inl (h.same_hash, refl)),
)

longer : (xs ys : List Publication) (x : Publication) → ys ≡ xs → xs ≡ ys ++ x ∷ [] → ⊥
longer xs ys x one other =
    let first = ap length one in
    let second : length xs ≡ length ys + 1 = ap length other ∙ length-append ys (x ∷ []) in
    absurd (omega arith)

quiet_by : (a b c : Running) → IsPublishing a b → IsReaching b c → IsHashing c a → Ascend c.state.ports → IsQuiet a.state
quiet_by a b c (inr h) reaching hashing up =
    let rehashed = hashing_rehashes c a up hashing in
    absurd (longer a.done.published a.done.published _ refl
    (ap (λ (x : Running). x.done.published) rehashed.gives ∙ (rehashed.published ∙ (ap (λ (x : Running). x.done.published) reaching.gives ∙ ap (λ (x : Running). x.done.published) h.1.gives))))
quiet_by a b c (inl h) reaching (inr k) up =
    let from : c.state.net ≡ a.state.net = ap (λ (x : Running). x.state.net) reaching.gives ∙ ap (λ (x : Running). x.state.net) h.1 in
    let to : a.state.net ≡ network_state_hash c.state = resets_net (endpoints_of c.state.ports) _ a k.1 in
    absurd (k.0 (sym (from ∙ to)))
quiet_by a b c (inl h) reaching (inl k) up =
    let is : a ≡ record b { state = record b.state { reach = reaching.reach; table = loss_marked reaching.reach b.state.moment b.state.table } } = k.1 ∙ reaching.gives in
    let with_a : ◌≡◌ {A = Running} (record b { state = record b.state { reach = reaching.reach; table = loss_marked reaching.reach b.state.moment b.state.table } })
    (record a { state = record a.state { reach = reaching.reach; table = loss_marked reaching.reach a.state.moment a.state.table } })
    = ap (λ (x : Running). let y : Running = record x { state = record x.state { reach = reaching.reach; table = loss_marked reaching.reach x.state.moment x.state.table } } in y) h.1 in
    record {
      published = h.0;
      reach = reaching.reach;
      is_reach = subst (λ (x : Running). IsReach x.state reaching.reach) h.1 reaching.is_reach;
      same_reach = ap (λ (x : Running). x.state.reach) (is ∙ with_a);
      same_table = ap (λ (x : Running). x.state.table) (is ∙ with_a);
      same_hash = subst (λ (x : Running). network_state_hash x.state ≡ x.state.net) (sym k.1) k.0;
    }

-- after a refresh another one has nothing to do
pub quiet_after : RefreshRests → (r a : Running) → ArePorts r.state.ports → IsRefresh r a → IsQuiet a.state
quiet_after rests r a ports h =
    let k = rests r a ports h in
    let first = refresh_leaves r a ports.ascending h in
    let up : Ascend a.state.ports = ascend_from_signs a.state.ports r.state.ports first.signed ports.ascending in
    let same : (k.2.0).state.ports ≡ a.state.ports = ap (λ (x : Running). x.state.ports) k.2.1.gives ∙ ports_published a k.0 k.1 in
    quiet_by a k.0 k.2.0 k.1 k.2.1 k.2.2 (subst Ascend (sym same) up)

-- and then it changes nothing
pub quiet_rests : IsSole IsRefresh → (r a : Running) → IsQuiet r.state → IsRefresh r a → a ≡ r
quiet_rests sole r a quiet h =
    let stream = λ (i : ℕ). slice_index a.done.words i in
    let begins : Begins a.done.words stream = λ i within. refl in
    sole.one stream r a r h (quiet_refresh r quiet) begins (sole.grows stream r a h begins)
