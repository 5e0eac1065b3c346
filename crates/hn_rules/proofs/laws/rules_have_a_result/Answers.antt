use Rattle.hn_rules.proofs.laws.rules_have_a_result.Goals as goal

pub returns : goal.returns
returns c =
    let exact = c.rules_are_exact.ensures in
    record {
      refresh = exact.refresh.total;
      arrival = exact.arrival;
      expiry = exact.expiry.total;
      assigning = exact.assigning.total;
      ports = exact.ports.total;
      tick = exact.tick.total;
      attaching = λ at. (exact.attaching at).total;
      restarting = exact.restarting.total;
    }
