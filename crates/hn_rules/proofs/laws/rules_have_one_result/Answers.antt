use Rattle.hn_rules.proofs.laws.rules_have_one_result.Goals as goal

pub returns : goal.returns
returns c =
    let exact = c.rules_are_exact.ensures in
    record {
      refresh = exact.refresh.sole;
      arrival = exact.one_arrival;
      expiry = exact.expiry.sole;
      assigning = exact.assigning.sole;
      ports = exact.ports.sole;
      tick = exact.tick.sole;
      attaching = λ at. (exact.attaching at).sole;
      restarting = exact.restarting.sole;
    }
