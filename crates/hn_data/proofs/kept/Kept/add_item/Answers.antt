use Rattle.hn_data.proofs.Names.{plain_item, plain_caps, peer_of, interval_of, assigned_prefix_of, node_address_of}
use Rattle.hn_data.proofs.OneMoreItem.{on_ok_both, set_more, list_more, version_more, external_more, delegations_more, in_order_more}
use Rattle.hn_data.proofs.kept.Kept.add_item.Goals as goal

pub returns : goal.returns
returns c =
    let item = plain_item c.args.item.now in
    let old = c.args.self.now in
    on_ok_both c.add_delegations.result (λ more ordered items kept. record {
      version_is = rw c.or-self.ensures (version_more plain_caps items item old.version c.caps_of.result kept.version_is c.caps_of.ensures);
      external_is = external_more items item old.external c.is_external.result kept.external_is c.is_external.ensures;
      peers_are = set_more peer_of items item old.peers.items c.push_said.new.list.items c.peer_of.result kept.peers_are c.peer_of.ensures c.in_ok-push_said.ensures;
      intervals_are = list_more interval_of items item old.intervals.items c.push_said-2.new.list.items c.interval_of.result kept.intervals_are c.interval_of.ensures c.in_ok-push_said-2.ensures;
      delegations_are = delegations_more items item old.delegations.items c.add_delegations.new.list.items kept.delegations_are more;
      delegations_in_order = in_order_more items item old.delegations.items c.add_delegations.new.list.items ordered.0 kept.delegations_in_order ordered.1 ordered.2;
      assigned_are = list_more assigned_prefix_of items item old.assigned.items c.push_said-3.new.list.items
          c.assigned_prefix_of.result kept.assigned_are c.assigned_prefix_of.ensures c.in_ok-push_said-3.ensures;
      addresses_are = list_more node_address_of items item old.addresses.items c.push_said-4.new.list.items
          c.node_address_of.result kept.addresses_are c.node_address_of.ensures c.in_ok-push_said-4.ensures;
    }) c.add_delegations.ensures.exact c.add_delegations.ensures.in_order
