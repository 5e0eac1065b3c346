-- Where nothing came of a tick of the endpoints and they are as they were, nothing is due there.
use Rattle.hn_base.proofs.Names.{◌≡◌, ◌∙◌, ℕ, ◌<◌, false, List, [], ◌∷◌, map, length, Option, Some, None, inl, inr, refl, sym, ap, subst, arith, All, Each, OnSome}
use Rattle.hn_rules.proofs.Names.{Contains, Contains-map, all_of, EpId, IsIdleAt, PackingIsNotEmpty, ticked, tick_words, tick_sends, Port, ArePorts, port_at, endpoints_of, Done, Outgoing, Running}
use Rattle.hn_rules.proofs.Names.{State, AtPort, IsPortSending, IsPortTick, IsPortsTick}
use Rattle.hn_rules.proofs.PortsInTurn.{Puts, apart, found_itself, ports_alone, ran_at, with_ports}
use Rattle.hn_rules.proofs.ComesToNothing.{CameToNothing, none_before, none_after, same_done}

the_same : (x y : Port) → Some x ≡ Some y → x ≡ y
the_same x y is = cc

-- ---- one endpoint

-- nothing came of the tick of an endpoint: it took no word and sent nothing
record IsTickOfNothing (port : Port) (r a : Running) (ran : IsPortTick port r a) : Type 0 where
  came_none : CameToNothing r
  untaken : tick_words r.state.moment port ≡ 0
  unsent : tick_sends r.state.moment port ≡ false
  none : ran.1.words ≡ []

no_datagrams : (endpoint : EpId) (datagrams : List (List ℕ)) → map (λ bytes. let sent : Outgoing = record { endpoint = endpoint; to = None; bytes = bytes } in sent) datagrams ≡ [] → datagrams ≡ []
no_datagrams endpoint [] is = refl
no_datagrams endpoint (d ∷ datagrams) is = absurd cc

module _ (not_empty : PackingIsNotEmpty) where
  unsent_before : (port : Port) (r a : Running) → IsPortSending port r a → CameToNothing a → (tick_sends r.state.moment port ≡ false) × (a ≡ r)
  unsent_before port r a (inr is) came_none = is
  unsent_before port r a (inl (due, is)) came_none =
      let sends = sym (ap (λ (x : Running). x.done.sends) is.gives) ∙ ap (λ (d : Done). d.sends) came_none in
      let none : is.datagrams ≡ [] = no_datagrams port.id is.datagrams (none_after r.done.sends _ sends) in
      let some : 0 < length is.datagrams = not_empty r.state.id port.id _ is.datagrams is.packed (omega arith) in
      absurd (let size = ap length none in omega (arith, size, some))

  tick_of_nothing : (port : Port) (r a : Running) (ran : IsPortTick port r a) → CameToNothing a → IsTickOfNothing port r a ran
  tick_of_nothing port r a (moved, moves, sends) came_none =
      let (unsent, same) = unsent_before port moved a sends came_none in
      let quiet : CameToNothing moved = subst CameToNothing same came_none in
      let words = sym (ap (λ (x : Running). x.done.words) moves.gives) ∙ ap (λ (d : Done). d.words) quiet in
      let none : moves.words ≡ [] = none_after r.done.words moves.words words in
      let moment : moved.state.moment ≡ r.state.moment = ap (λ (x : Running). x.state.moment) moves.gives in
      record {
        came_none = same_done r.done _ (sym (ap (λ (x : Running). x.done.sends) moves.gives) ∙ ap (λ (d : Done). d.sends) quiet)
            (sym (ap (λ (x : Running). x.done.notes) moves.gives) ∙ ap (λ (d : Done). d.notes) quiet)
            (sym (ap (λ (x : Running). x.done.published) moves.gives) ∙ ap (λ (d : Done). d.published) quiet) (none_before r.done.words moves.words words);
        untaken = sym moves.as_many ∙ ap length none;
        unsent = subst (λ (n : ℕ). tick_sends n port ≡ false) moment unsent;
        none = none;
      }

  -- ---- each endpoint

  nothing_came_each : (ats : List EpId) (r a : Running) → Each (λ at. AtPort at IsPortTick) ats r a → CameToNothing a → CameToNothing r
  nothing_came_each [] r a is came_none = subst CameToNothing is came_none
  nothing_came_each (at ∷ ats) r a (between, one, rest) came_none = by_port (port_at at r.state.ports) one (nothing_came_each ats between a rest came_none)
    where
      by_port : (o : Option Port) → OnSome IsPortTick o r between → CameToNothing between → CameToNothing r
      by_port None is quiet = subst CameToNothing is quiet
      by_port (Some port) ticks quiet = (tick_of_nothing port r between ticks quiet).came_none

sent : (port : Port) (moved a : Running) → IsPortSending port moved a → a.state ≡ moved.state
sent port moved a (inl (due, is)) = ap (λ (z : Running). z.state) is.gives
sent port moved a (inr (none, is)) = ap (λ (z : Running). z.state) is

abbrev tick_puts : (port : Port) (x y : Running) → IsPortTick port x y → Puts port x y
tick_puts port x y ran = record {
  next = ticked x.state.moment ran.1.words port;
  same = refl;
  gives = sent port ran.0 y ran.2 ∙ ap (λ (z : Running). z.state) ran.1.gives;
}

-- nothing came of a tick of the endpoints and they are as they were: it does nothing at any of them
pub all_idle : PackingIsNotEmpty → (r a : Running) → ArePorts r.state.ports → IsPortsTick r a → CameToNothing a → a.state.ports ≡ r.state.ports → All (IsIdleAt r.state.moment) r.state.ports
all_idle not_empty r a are ticks came_none same = all_of (IsIdleAt r.state.moment) r.state.ports idle
  where
    idle : (port : Port) → Contains r.state.ports port → IsIdleAt r.state.moment port
    idle port there =
        let found = found_itself r.state.ports port are there in
        let ran = ran_at IsPortTick tick_puts (endpoints_of r.state.ports) (apart r.state.ports are.ascending) port
        (Contains-map (λ (p : Port). p.id) r.state.ports port there) r a found ticks in
        let once = tick_of_nothing not_empty port ran.before ran.after ran.holds (nothing_came_each not_empty ran.rest ran.after a ran.more came_none) in
        let now = ran.before.state.moment in
        let unchanged : ticked now ran.holds.1.words port ≡ port = the_same _ port (sym ran.left ∙ ap (port_at port.id) same ∙ found) in
        let whole : ticked now [] port ≡ port = ap (λ (words : List ℕ). ticked now words port) (sym once.none) ∙ unchanged in
        subst (λ (n : ℕ). IsIdleAt n port) (ap (λ (s : State). s.moment) ran.alone) (record { untaken = once.untaken; unsent = once.unsent; same = whole })

-- a tick of the endpoints changes endpoints alone
pub ticks_ports : (r a : Running) → IsPortsTick r a → a.state ≡ (with_ports r a.state.ports).state
ticks_ports r a ticks = ports_alone IsPortTick tick_puts (endpoints_of r.state.ports) r a ticks
