-- After a tick each endpoint last sent less than 20 s ago.
use Rattle.hn_base.proofs.Names.{◌≡◌, ◌∙◌, ◌<◌, ◌+◌, ◌-◌, ℕ, Bool, true, false, cond, List, Some, inl, inr, refl, sym, ap, subst, arith, leb-false, same_Some}
use Rattle.hn_rules.proofs.Names.{Contains, Contains-map, Contains-from_map, EpId, has_to_send, is_keep_alive_due, ticked, Port, ArePorts, port_at, endpoints_of, Running, State, IsAssigning, ending}
use Rattle.hn_rules.proofs.Names.{RouterStaysLater, KeepsRouter, KeepsWell, KeepsEndpoints, RefreshMakesRouter, AssigningKeeps, IsRefresh, IsWell, IsRouter, begun_at, IsExpiry, forgetting}
use Rattle.hn_rules.proofs.Names.{IsPortSending, IsPortTick, IsPortsTick}
use Rattle.hn_rules.specs.Updates.{TicksHaveSent}
use Rattle.hn_rules.proofs.PortsInTurn.{found_itself, apart, Puts, are_ports, ran_at}

pub record SentLaws : Type 0 where
  pub later : RouterStaysLater
  pub expiry : KeepsWell IsExpiry
  pub ended : KeepsWell (λ b a. a ≡ ending b)
  pub refresh : RefreshMakesRouter
  pub forgets : KeepsRouter (λ b a. a ≡ forgetting b)
  pub assigning : AssigningKeeps
  pub refresh_stands : KeepsEndpoints IsRefresh
  pub expiry_stands : KeepsEndpoints IsExpiry
  pub assigning_stands : KeepsEndpoints IsAssigning
  pub ports_stand : KeepsEndpoints IsPortsTick

-- ---- one endpoint

not_long_ago : (now last : ℕ) (c : Bool) → is_keep_alive_due last now ≡ c → now < cond c now last + 20000
not_long_ago now last true is = omega arith
not_long_ago now last false is = let less = leb-false 20000 (now - last) is in omega (arith, less)

ticked_lately : (now : ℕ) (words : List ℕ) (port : Port) → now < (ticked now words port).sent + 20000
ticked_lately now words port =
    let last : ℕ = cond (has_to_send now port.trickle) now port.sent in
    not_long_ago now last (is_keep_alive_due last now) refl

sent_same : (port : Port) (moved a : Running) → IsPortSending port moved a → a.state ≡ moved.state
sent_same port moved a (inl (due, is)) = ap (λ (z : Running). z.state) is.gives
sent_same port moved a (inr (none, is)) = ap (λ (z : Running). z.state) is

abbrev puts : (port : Port) (x y : Running) → IsPortTick port x y → Puts port x y
puts port x y ran = record {
  next = ticked x.state.moment ran.1.words port;
  same = refl;
  gives = sent_same port ran.0 y ran.2 ∙ ap (λ (z : Running). z.state) ran.1.gives;
}

each_lately : (r a : Running) → ArePorts r.state.ports → IsPortsTick r a → endpoints_of a.state.ports ≡ endpoints_of r.state.ports
    → (q : Port) → Contains a.state.ports q → r.state.moment < q.sent + 20000
each_lately r a are ticks same q there =
    let end : Contains (endpoints_of r.state.ports) q.id = subst (λ (ends : List EpId). Contains ends q.id) same (Contains-map (λ (p : Port). p.id) a.state.ports q there) in
    let (p, p_in, id) = Contains-from_map (λ (p : Port). p.id) r.state.ports q.id end in
    let found = found_itself r.state.ports p are p_in in
    let ran = ran_at IsPortTick puts (endpoints_of r.state.ports) (apart r.state.ports are.ascending) p (Contains-map (λ (x : Port). x.id) r.state.ports p p_in) r a found ticks in
    let now_are = are_ports IsPortTick puts (endpoints_of r.state.ports) r a ticks are in
    let itself : port_at p.id a.state.ports ≡ Some q = subst (λ (e : EpId). port_at e a.state.ports ≡ Some q) (sym id) (found_itself a.state.ports q now_are there) in
    let is : ticked ran.before.state.moment ran.holds.1.words p ≡ q = same_Some _ q (sym ran.left ∙ itself) in
    let moment : ran.before.state.moment ≡ r.state.moment = ap (λ (s : State). s.moment) ran.alone in
    let lately = ticked_lately ran.before.state.moment ran.holds.1.words p in
    subst (λ (n : ℕ). n < q.sent + 20000) moment (subst (λ (x : Port). ran.before.state.moment < x.sent + 20000) is lately)

-- ---- a tick

pub have_sent : SentLaws → TicksHaveSent
have_sent laws now s after router begun (lost, (expired, expiry, (ended, ends, refreshed)), (forgot, forgets, (settled, (assigned, assigns, again), ticks))) q there =
    let start : IsRouter (begun_at now s).state = laws.later now s router begun in
    let one : IsWell expired.state = laws.expiry (begun_at now s) expired expiry start.well in
    let two : IsWell ended.state = laws.ended expired ended ends one in
    let three : IsRouter lost.state = laws.refresh ended lost refreshed two in
    let four : IsRouter forgot.state = laws.forgets lost forgot forgets three in
    let five : IsWell assigned.state = laws.assigning forgot assigned assigns four in
    let six : IsRouter settled.state = laws.refresh assigned settled again five in
    let moment : settled.state.moment ≡ now =
    (laws.refresh_stands assigned settled again).0 ∙ (laws.assigning_stands forgot assigned assigns).0 ∙ ap (λ (x : Running). x.state.moment) forgets
    ∙ (laws.refresh_stands ended lost refreshed).0 ∙ ap (λ (x : Running). x.state.moment) ends ∙ (laws.expiry_stands (begun_at now s) expired expiry).0 in
    let lately = each_lately settled after six.well.ports ticks (laws.ports_stand settled after ticks).1 q there in
    subst (λ (n : ℕ). n < q.sent + 20000) moment lately
