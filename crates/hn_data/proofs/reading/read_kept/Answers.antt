use Rattle.hn_data.proofs.reading.read_kept.Goals as goal

pub returns : goal.returns
returns c =
    let read = c.in_ok-add_all.ensures in
    let says = read.2 in
    record {
      items = read.0;
      are = read.1;
      says = record {
        version_is = says.version_is;
        external_is = says.external_is;
        peers_are = λ link. (λ h. (says.peers_are link).0 ((c.sort_to_set.ensures.same link).0 h), λ h. (c.sort_to_set.ensures.same link).1 ((says.peers_are link).1 h));
        intervals_are = says.intervals_are;
        delegations_are = says.delegations_are;
        delegations_in_order = says.delegations_in_order;
        assigned_are = says.assigned_are;
        addresses_are = says.addresses_are;
      };
      peers_ascend = c.sort_to_set.ensures.ascending;
    }
