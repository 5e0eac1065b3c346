-- What holds of a router beside what a refresh makes, each change keeps.
use Rattle.hn_base.proofs.Names.{◌<◌, ◌≡◌, ◌^◌, false, List, [], Option, Some, None, not, length, refl, sym, subst, arith, All, ◌==◌, bytes_eq, or_parts, All-nil, All-filter}
use Rattle.hn_rules.proofs.Names.{is_some, EpId, PlainTlv, attached_port, Port, held, Stored, Assigned, IsAssignedPast, SubroutineKeepsLengths, SubroutineKeepsPrefixes, SubroutineKeepsSoon, OwnItems}
use Rattle.hn_rules.proofs.Names.{AddressesStay, AddressesMayBe, has_ended, AreOwnPrefixes, is_prefix, own_prefix, PlainData, ArePorts, is_port, OwnPrefix, Running, State, own_leaf, own_items}
use Rattle.hn_rules.proofs.Names.{IsAttaching, detaching, IsExpired, PortChange, Reset, Meet, Ask, Hear, Expire, Move, Begin, port_after, MayChangePort, TableChange, Accept, Mark, Forget, Empty}
use Rattle.hn_rules.proofs.Names.{table_after, MayChangeTable, PrefixChange, Delegate, Withdraw, End, prefixes_after, MayChangePrefixes, ChangePort, ChangeTable, ChangePrefixes, PutReach, PutHash}
use Rattle.hn_rules.proofs.Names.{PutPairs, ForgetPairs, PutPrivate, PutAddresses, PutId, PutClaimed, PutCaps, Publish, change, EachKeeps, ChangesKeepWell}
use Rattle.hn_own.specs.Laws.{AddingKeepsOwnPrefixes, LeavingKeepsOwnPrefixes, HeldStays}
use Rattle.hn_rules.proofs.Finding.{find_all}
use Rattle.hn_rules.proofs.LawsFromBelow.{KnownLaws}
use Rattle.hn_rules.proofs.LawAssigned.{AssignLaws, held-assigned}
use Rattle.hn_rules.proofs.PartsOfRouters.{IsTableWell, IsOwnWell, IsMade, made_from, well_from, ports-put, ports-attached, ports-detached, table-accepts, table-marked, table-remembered, table-emptied}
use Rattle.hn_rules.proofs.PartsOfRouters.{held-none}
use Rattle.hn_rules.proofs.LawPublished.{ReadLaws}
use Rattle.hn_rules.proofs.PostParts.{posts-put, posts-attached, posts-detached, posts-addressed, posts-assigned, posts-private, posts-published}
use Rattle.hn_rules.proofs.PrivatePosts.{links_some, of_length}
use Rattle.hn_rules.proofs.RangedParts.{each_ranged, ranged_from}
use Rattle.hn_rules.proofs.PortFacts.{IsPortWell, well-begun, well-started, well-without, well-asked, well-greeted, well-hashed, well-ticked}

-- the facts of the router
abbrev pub Made : Running → Type 0
Made r = IsMade r.state

-- the laws on which they rest
pub record RuleLaws : Type 0 where
  pub known : KnownLaws
  pub assigns : AssignLaws
  pub added : AddingKeepsOwnPrefixes
  pub some : LeavingKeepsOwnPrefixes
  pub reads : ReadLaws
  pub lengths : SubroutineKeepsLengths
  pub stays : HeldStays
  pub may_be : AddressesMayBe
  pub prefix : SubroutineKeepsPrefixes
  pub soon : SubroutineKeepsSoon

none_held : (o : Option Stored) → is_some o ≡ false → o ≡ None
none_held None is = refl
none_held (Some stored) is = absurd cc

module _ (laws : RuleLaws) (tlvs : List PlainTlv) where
  port_well : (how : PortChange) (r : Running) (port : Port) → MayChangePort tlvs how r port → IsPortWell r.state.moment port → IsPortWell r.state.moment (port_after how r port)
  port_well (Reset word) r port may well = well-started r.state.moment 200 word port well
  port_well (Meet node endpoint from multicast) r port may well = well-greeted r.state.moment laws.known node endpoint from multicast port well
  port_well Ask r port may well = well-asked r.state.moment port well
  port_well (Hear hash) r port may well = well-hashed r.state.moment laws.known (bytes_eq hash r.state.net) r.sender port well
  port_well (Expire peers) r port may well = well-without r.state.moment (IsExpired r.state) port peers may well
  port_well (Move words) r port may well = well-ticked r.state.moment words port well
  port_well (Begin word) r port may well = well-begun r.state.moment port.id word

  table_well : (how : TableChange) (s : State) → MayChangeTable tlvs how s → IsTableWell s.id.0 s.moment s.table → IsTableWell s.id.0 s.moment (table_after how s)
  table_well (Accept carried how next) s may well = table-accepts laws.known s.id s.moment (own_leaf s) carried s.table next how refl (may.0.2.in_range.0, may.0.2.in_range.1.0) well may.1
  table_well Mark s may well = table-marked laws.known s.id s.moment s.reach s.table well
  table_well Forget s may well = table-remembered laws.known s.id s.moment s.table well
  table_well Empty s may well = table-emptied laws.known.none s.id.0 s.moment s.table well

  prefixes_well : (how : PrefixChange) (s : State) → MayChangePrefixes how s → AreOwnPrefixes s.delegated → AreOwnPrefixes (prefixes_after how s)
  prefixes_well (Delegate prefix valid preferred) s (fits, may) are = laws.added (own_prefix s.moment prefix valid preferred) s.delegated may are
  prefixes_well (Withdraw prefix) s may are = laws.some (λ (p : OwnPrefix). not (is_prefix prefix p)) s.delegated are
  prefixes_well End s may are = laws.some (λ (p : OwnPrefix). not (has_ended s.moment p.valid_until)) s.delegated are

  -- no Peer of own items is of endpoint 0
  links_said : (s : State) (own : PlainData) → ArePorts s.ports → own.items ≡ own_items s → All (λ link. 0 < link.endpoint.0) own.items.links
  links_said s own ports is = subst (λ (items : OwnItems). All (λ link. 0 < link.endpoint.0) items.links) (sym is) (links_some s.ports ports)

  each_made : EachKeeps tlvs Made
  each_made (ChangePort port how) r (here, may) made =
      let one = port_well how r port may (find_all (IsPortWell r.state.moment) (is_port port.id) r.state.ports port made.ports.each here) in
      record {
        ports = ports-put r.state.moment (port_after how r port) r.state.ports one made.ports;
        table = made.table;
        own = made.own;
        delegated = made.delegated;
        held = made.held;
        posts = posts-put r.state.private r.state.ports r.state.addresses r.state.held.assigned r.state.own.items.links made.posts (port_after how r port);
      }
  each_made (ChangeTable how) r may made =
      record { ports = made.ports; table = table_well how r.state may made.table; own = made.own; delegated = made.delegated; held = made.held; posts = made.posts }
  each_made (ChangePrefixes how) r may made =
      record { ports = made.ports; table = made.table; own = made.own; delegated = prefixes_well how r.state may made.delegated; held = made.held; posts = made.posts }
  each_made (PutPairs ran) r is made =
      record {
        ports = made.ports;
        table = made.table;
        own = made.own;
        delegated = made.delegated;
        held = held-assigned laws.assigns r.state ran is made.ports.are made.held;
        posts = posts-assigned r.state.private r.state.ports r.state.addresses r.state.held.assigned r.state.own.items.links made.posts ran.held.assigned
            (of_length laws.reads r.state made.own.data_is made.posts.linked laws.lengths laws.assigns.wished ran is made.ports.are made.posts.of_length);
      }
  each_made ForgetPairs r may made = record {
    ports = made.ports;
    table = made.table;
    own = made.own;
    delegated = made.delegated;
    held = held-none r.state.moment;
    posts = posts-assigned r.state.private r.state.ports r.state.addresses r.state.held.assigned r.state.own.items.links made.posts []
        (All-nil (λ c. c.endpoint.0 ≡ 0 → Some c.prefix.len ≡ r.state.private));
  }
  each_made (PutPrivate private) r may made =
      record {
        ports = made.ports;
        table = made.table;
        own = made.own;
        delegated = made.delegated;
        held = record {
          are = laws.stays r.state.held made.held.are;
          past = All-filter (λ (c : Assigned). not (c.endpoint.0 == 0)) (IsAssignedPast r.state.moment) r.state.held.assigned made.held.past;
        };
        posts = posts-private r.state.private r.state.ports r.state.addresses r.state.held.assigned r.state.own.items.links made.posts private;
      }
  each_made (PutAddresses list) r (fit, may) made =
      record {
        ports = made.ports;
        table = made.table;
        own = made.own;
        delegated = made.delegated;
        held = made.held;
        posts = posts-addressed r.state.private r.state.ports r.state.addresses r.state.held.assigned r.state.own.items.links made.posts laws.may_be list may;
      }
  each_made (PutId id number own) r (fits, free, is) made =
      let unheld : is_some (held r.state.table.entries id.0) ≡ false = (or_parts (id.0 == r.state.id.0) _ (or_parts (id.0 == 0) _ free).1).1 in
      let other : held r.state.table.entries id.0 ≡ None = none_held (held r.state.table.entries id.0) unheld in
      record {
        ports = made.ports;
        table = record { table = made.table.table; own_id = fits; other = other; each = made.table.each };
        own = record { data_is = is.data_is; fits = is.fits; past = let born = is.born_is in omega arith };
        delegated = made.delegated;
        held = made.held;
        posts = posts-published r.state.private r.state.ports r.state.addresses r.state.held.assigned r.state.own.items.links made.posts own.items.links
            (links_said r.state own made.ports.are is.items_are);
      }
  each_made (Publish number own) r is made =
      let own_well : IsOwnWell number r.state.moment own = record { data_is = is.data_is; fits = is.fits; past = let born = is.born_is in omega arith } in
      record {
        ports = made.ports;
        table = made.table;
        own = own_well;
        delegated = made.delegated;
        held = made.held;
        posts = posts-published r.state.private r.state.ports r.state.addresses r.state.held.assigned r.state.own.items.links made.posts own.items.links
            (links_said r.state own made.ports.are is.items_are);
      }
  each_made (PutReach reach) r may made = record { ports = made.ports; table = made.table; own = made.own; delegated = made.delegated; held = made.held; posts = made.posts }
  each_made PutHash r may made = record { ports = made.ports; table = made.table; own = made.own; delegated = made.delegated; held = made.held; posts = made.posts }
  each_made (PutClaimed claimed) r may made = record { ports = made.ports; table = made.table; own = made.own; delegated = made.delegated; held = made.held; posts = made.posts }
  each_made (PutCaps caps) r may made = record { ports = made.ports; table = made.table; own = made.own; delegated = made.delegated; held = made.held; posts = made.posts }
  each_made _ r may made = made

pub each_well : RuleLaws → ChangesKeepWell
each_well laws tlvs c r may well =
    let ranged = each_ranged (record { prefix = laws.prefix; wished = laws.assigns.wished; soon = laws.soon }) tlvs c r may well.ports (ranged_from r.state well) in
    well_from (change c r).state (each_made laws tlvs c r may (made_from r.state well)) ranged

-- ---- what is no list of changes: endpoints come and go

pub keeps_attaching : (at : EpId) (r a : Running) → 0 < at.0 → at.0 < 2 ^ 32 → length r.state.ports < 16 → IsAttaching at r a → Made r → Made a
keeps_attaching at r a some fits room is made =
    let port = attached_port at r.state.moment is.word in
    subst Made (sym is.gives) (record {
      ports = ports-attached r.state.moment port r.state.ports (well-begun r.state.moment at is.word) (some, fits) room made.ports;
      table = made.table;
      own = made.own;
      delegated = made.delegated;
      held = made.held;
      posts = posts-attached r.state.private r.state.ports r.state.addresses r.state.held.assigned r.state.own.items.links made.posts port;
    })

pub made_detaching : AddressesStay → (at : EpId) (r : Running) → Made r → Made (detaching at r)
made_detaching stay at r made = record {
  ports = ports-detached r.state.moment at r.state.ports made.ports;
  table = made.table;
  own = made.own;
  delegated = made.delegated;
  held = made.held;
  posts = posts-detached r.state.private r.state.ports r.state.addresses r.state.held.assigned r.state.own.items.links made.posts stay at;
}
