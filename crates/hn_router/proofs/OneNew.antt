-- A new router is determined by its identifier, its limit and its moment.
use Rattle.hn_base.proofs.Names.{◌≡◌, ◌∙◌, ℕ, List, ap, sym, PlainCaps, plain_caps}
use Rattle.hn_router.proofs.Names.{Caps, links_of, network_state_hash}
use Rattle.hn_own.specs.HeldPairs.{published_in}
use Rattle.hn_own.specs.Laws.{OwnDataIsUnique}
use Rattle.hn_rules.specs.Refresh.{own_items}
use Rattle.hn_router.specs.Laws.{NewIsUnique}
use Rattle.hn_base.proofs.KnownByFields.{same_caps}

one_caps : (a b : Caps) → plain_caps a ≡ plain_caps b → a ≡ b
one_caps a b same =
    same_caps a b (ap (λ (c : PlainCaps). c.m) same) (ap (λ (c : PlainCaps). c.p) same) (ap (λ (c : PlainCaps). c.h) same) (ap (λ (c : PlainCaps). c.l) same)

pub one_new : OwnDataIsUnique → NewIsUnique
one_new one_own id limit now a b h k =
    let caps : a.caps ≡ b.caps = one_caps a.caps b.caps (h.caps_are ∙ sym k.caps_are) in
    let ports : a.ports ≡ b.ports = h.ports_are ∙ sym k.ports_are in
    let delegated : a.delegated ≡ b.delegated = h.no_prefixes ∙ sym k.no_prefixes in
    let pairs : a.held ≡ b.held = h.nothing_held ∙ sym k.nothing_held in
    let addresses : a.addresses ≡ b.addresses = h.no_addresses ∙ sym k.no_addresses in
    let items : own_items a ≡ own_items b = λ i. record {
      caps = caps i;
      links = links_of (ports i);
      delegated = delegated i;
      assigned = published_in (pairs i).assigned;
      addresses = addresses i;
    } in
    let own : a.own ≡ b.own = one_own a.own b.own h.own_is k.own_is (h.items_are ∙ items ∙ sym k.items_are) (h.born_is ∙ sym k.born_is) in
    let but_net : a ≡ record b { net = a.net } = λ i. record {
      id = (h.id_is ∙ sym k.id_is) i;
      number = (h.number_is ∙ sym k.number_is) i;
      moment = (h.moment_is ∙ sym k.moment_is) i;
      caps = caps i;
      own = own i;
      delegated = delegated i;
      held = pairs i;
      claimed = (h.unclaimed ∙ sym k.unclaimed) i;
      private = (h.no_private ∙ sym k.no_private) i;
      addresses = addresses i;
      ports = ports i;
      table = (h.table_is ∙ sym k.table_is) i;
      reach = (h.reach_is ∙ sym k.reach_is) i;
      net = a.net;
      due = (h.due_is ∙ sym k.due_is) i;
    } in
    let net : a.net ≡ b.net = h.net_is ∙ ap network_state_hash but_net ∙ sym k.net_is in
    but_net ∙ ap (λ (hash : List ℕ). record b { net = hash }) net
