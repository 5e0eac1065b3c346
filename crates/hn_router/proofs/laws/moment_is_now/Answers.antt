use Rattle.hn_router.proofs.Moments.{MomentLaws, moment_of}
use Rattle.hn_router.proofs.laws.moment_is_now.Goals as goal

pub returns : goal.returns
returns c =
    let rules = c.rules_keep_the_endpoints.ensures in
    let laws : MomentLaws = record {
      refresh = rules.refresh;
      arrival = rules.arrival;
      expiry = rules.expiry;
      assigning = rules.assigning;
      ports = rules.ports;
      restarting = rules.restarting;
    } in
    moment_of laws
