-- A rule of each endpoint in turn, which changes that endpoint alone.
use Rattle.hn_base.proofs.Names.{◌≡◌, ◌≢◌, ◌∙◌, ◌<◌, Bool, true, false, cond, List, [], ◌∷◌, map, Option, Some, inl, inr, refl, sym, ap, subst, arith, find, ranked, nat_cmp, Less, eqb-true, eq-eqb}
use Rattle.hn_base.proofs.Names.{ne_eqb, All-contains, Each, OnSome}
use Rattle.hn_rules.proofs.Names.{Contains, nothing_in, Contains-cases, Contains-map, Contains-from_map, passing_found, EpId, Port, number, ArePorts, is_port, port_at, put_port, endpoints_of, Running}
use Rattle.hn_rules.proofs.Names.{State, Rule, AtPort}
use Rattle.std.specs.List.Sorted.{IsStrictlySortedBy}
use Rattle.hn_base.proofs.AscendingLists.{below_head}
use Rattle.hn_rules.proofs.Leads.{keeps_each, keeps_each_of, keeps_option}
use Rattle.hn_rules.proofs.PartsOfRouters.{are-put}
use Rattle.hn_rules.proofs.Refreshes.{found_number, only_one}
use Rattle.hn_rules.proofs.Walk.{found_put}

-- ---- endpoints that are found

-- an endpoint is found by its own number
pub found_itself : (ports : List Port) (port : Port) → ArePorts ports → Contains ports port → port_at port.id ports ≡ Some port
found_itself ports port are there =
    let found = passing_found (is_port port.id) ports port there (eq-eqb port.id.0 port.id.0 refl) in
    let here : port.id.0 ≡ (found.0).id.0 = sym (found_number port.id ports found.0 found.1) in
    let same : port ≡ found.0 = All-contains (λ (p : Port). p.id.0 ≡ (found.0).id.0 → p ≡ found.0) ports port (only_one port.id ports found.0 are.ascending found.1) there here in
    found.1 ∙ ap Some (sym same)

-- one of another number is put in its place
pub other_put : (at : EpId) (next : Port) (ports : List Port) → at.0 ≢ next.id.0 → port_at at (put_port next ports) ≡ port_at at ports
other_put at next [] other = refl
other_put at next (p ∷ ports) other = by_test (is_port next.id p) refl (other_put at next ports other)
  where
    by_test : (b : Bool) → is_port next.id p ≡ b → port_at at (put_port next ports) ≡ port_at at ports
        → cond (is_port at (cond b next p)) (Some (cond b next p)) (find (is_port at) (put_port next ports)) ≡ cond (is_port at p) (Some p) (find (is_port at) ports)
    by_test true is more =
        let number_is : p.id.0 ≡ next.id.0 = eqb-true p.id.0 next.id.0 is in
        let away : is_port at next ≡ false = ne_eqb next.id.0 at.0 (λ same. other (sym same)) in
        let too : is_port at p ≡ false = ne_eqb p.id.0 at.0 (λ same. other (sym same ∙ number_is)) in
        rw (away, too) more
    by_test false is more = ap (cond (is_port at p) (Some p)) more

-- no other endpoint has the number of the first
pub none_above : (p : Port) (ports : List Port) → IsStrictlySortedBy nat_cmp (map number (p ∷ ports)) → (q : Port) → Contains ports q → q.id.0 ≢ p.id.0
none_above p ports up q there same =
    let less : nat_cmp p.id.0 q.id.0 ≡ Less = below_head nat_cmp p.id.0 (map number ports) up q.id.0 (Contains-map number ports q there) in
    let before : p.id.0 < q.id.0 = ranked p.id.0 q.id.0 Less (sym less) in
    omega (arith, before, same)

-- no two of these have one number
pub AreApart : List EpId → Type 0
AreApart [] = Unit {0}
AreApart (at ∷ ats) = ((other : EpId) → Contains ats other → other.0 ≢ at.0) × AreApart ats

pub apart : (ports : List Port) → IsStrictlySortedBy nat_cmp (map number ports) → AreApart (endpoints_of ports)
unfolding AreApart IsStrictlySortedBy
apart [] up = tt
apart (p ∷ ports) up = (above p ports up, apart ports up.1)
  where
    above : (p : Port) (ports : List Port) → IsStrictlySortedBy nat_cmp (map number (p ∷ ports)) → (other : EpId) → Contains (endpoints_of ports) other → other.0 ≢ p.id.0
    above p ports up other there same =
        let (q, found, is) = Contains-from_map (λ (x : Port). x.id) ports other there in
        none_above p ports up q found (ap (λ (e : EpId). e.0) is ∙ same)

-- ---- the rule of an endpoint

abbrev pub with_ports : Running → List Port → Running
with_ports r ports = record r { state = record r.state { ports = ports } }

-- the endpoint is another afterwards, and nothing else of the router is
pub record Puts (port : Port) (before after : Running) : Type 0 where
  pub next : Port
  pub same : next.id ≡ port.id
  pub gives : after.state ≡ (with_ports before (put_port next before.state.ports)).state

module _ (rule : Port → Rule) (puts : (port : Port) (x y : Running) → rule port x y → Puts port x y) where
  abbrev InTurn : List EpId → Rule
  InTurn = Each (λ at. AtPort at rule)

  -- it changes endpoints alone
  abbrev IsOf : Running → Running → Type 0
  IsOf r x = x.state ≡ (with_ports r x.state.ports).state

  pub ports_alone : (ats : List EpId) (r a : Running) → InTurn ats r a → IsOf r a
  ports_alone ats r a holds = keeps_each (IsOf r) (λ at. AtPort at rule) (λ at. keeps_option (IsOf r) at rule (λ port x y found. one port x y)) ats r a holds refl
    where
      one : (port : Port) (x y : Running) → rule port x y → IsOf r x → IsOf r y
      one port x y ran was =
          let p = puts port x y ran in
          p.gives ∙ ap (λ (s : State). let t : State = record s { ports = put_port p.next x.state.ports } in t) was
          ∙ ap (λ (ports : List Port). (with_ports r ports).state) (sym (ap (λ (s : State). s.ports) p.gives))

  -- they stay in order
  pub are_ports : (ats : List EpId) (r a : Running) → InTurn ats r a → ArePorts r.state.ports → ArePorts a.state.ports
  are_ports = keeps_each ArePortsUndue (λ at. AtPort at rule) (λ at. keeps_option ArePortsUndue at rule (λ port x y found. one port x y))
    where
      ArePortsUndue : Running → Type 0
      ArePortsUndue x = ArePorts x.state.ports

      one : (port : Port) (x y : Running) → rule port x y → ArePorts x.state.ports → ArePorts y.state.ports
      one port x y ran are = let p = puts port x y ran in subst (λ (s : State). ArePorts s.ports) (sym p.gives) (are-put p.next x.state.ports are)

  -- an endpoint of another number stays as it is
  others_stay : (at : EpId) (ats : List EpId) → ((other : EpId) → Contains ats other → other.0 ≢ at.0) → (r a : Running) → InTurn ats r a
      → port_at at a.state.ports ≡ port_at at r.state.ports
  others_stay at ats away r a holds =
      keeps_each_of Same (λ other. AtPort other rule) ats
      (λ other there. keeps_option Same other rule (λ port x y found ran was. one other there port x y found ran ∙ was)) r a holds refl
    where
      Same : Running → Type 0
      Same x = port_at at x.state.ports ≡ port_at at r.state.ports

      one : (other : EpId) → Contains ats other → (port : Port) (x y : Running) → port_at other x.state.ports ≡ Some port → rule port x y → port_at at y.state.ports ≡ port_at at x.state.ports
      one other there port x y found ran =
          let p = puts port x y ran in
          let number_is : port.id.0 ≡ other.0 = found_number other x.state.ports port found in
          let next_is : p.next.id.0 ≡ port.id.0 = ap (λ (e : EpId). e.0) p.same in
          let differ : at.0 ≢ p.next.id.0 = λ same. away other there (sym number_is ∙ sym next_is ∙ sym same) in
          ap (λ (s : State). port_at at s.ports) p.gives ∙ other_put at p.next x.state.ports differ

  -- the rule ran at an endpoint, and what it left there is there in the end
  pub record RanAt (port : Port) (r a : Running) : Type 0 where
    pub before : Running
    pub after : Running
    pub alone : before.state ≡ (with_ports r before.state.ports).state
    pub holds : rule port before after
    pub left : port_at port.id a.state.ports ≡ Some (puts port before after holds).next
    pub rest : List EpId
    pub more : Each (λ at. AtPort at rule) rest after a

  pub ran_at : (ats : List EpId) → AreApart ats → (port : Port) → Contains ats port.id → (r a : Running) → port_at port.id r.state.ports ≡ Some port → InTurn ats r a → RanAt port r a
  unfolding AreApart
  ran_at [] none port there r a found holds = absurd (nothing_in port.id there)
  ran_at (at ∷ ats) (away, others) port there r a found (between, one, rest) = elim (Contains-cases at ats port.id there) [
    | inl is ↦ first is
    | inr later ↦ further later (λ stays. ran_at ats others port later between a stays rest)
  ]
    where
      first : at ≡ port.id → RanAt port r a
      first is =
          let holds : rule port r between = subst (λ (o : Option Port). OnSome rule o r between) (ap (λ (e : EpId). port_at e r.state.ports) is ∙ found) one in
          let p = puts port r between holds in
          let put = found_put port p.next r.state.ports (subst (λ (e : EpId). port_at e r.state.ports ≡ Some port) (sym p.same) found) in
          let here : port_at port.id between.state.ports ≡ Some p.next =
          ap (λ (s : State). port_at port.id s.ports) p.gives ∙ subst (λ (e : EpId). port_at e (put_port p.next r.state.ports) ≡ Some p.next) p.same put in
          let stays = others_stay port.id ats (λ other within same. away other within (same ∙ sym (ap (λ (e : EpId). e.0) is))) between a rest in
          record { before = r; after = between; alone = refl; holds = holds; left = stays ∙ here; rest = ats; more = rest }

      further : Contains ats port.id → (port_at port.id between.state.ports ≡ Some port → RanAt port between a) → RanAt port r a
      further later again =
          let stays = others_stay port.id (at ∷ [])
          (λ other within same. elim (Contains-cases at [] other within) [
            | inl is ↦ away port.id later (sym same ∙ sym (ap (λ (e : EpId). e.0) is))
            | inr none ↦ absurd (nothing_in other none)
          ]) r between (between, one, refl) in
          let ran = again (stays ∙ found) in
          let was : IsOf r between = ports_alone (at ∷ []) r between (between, one, refl) in
          record {
            before = ran.before;
            after = ran.after;
            alone = ran.alone ∙ ap (λ (s : State). let t : State = record s { ports = ran.before.state.ports } in t) was;
            holds = ran.holds;
            left = ran.left;
            rest = ran.rest;
            more = ran.more;
          }
