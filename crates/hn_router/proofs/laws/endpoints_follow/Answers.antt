use Rattle.hn_router.proofs.Moments.{MomentLaws, ends_follow}
use Rattle.hn_router.proofs.laws.endpoints_follow.Goals as goal

pub returns : goal.returns
returns c =
    let rules = c.rules_keep_the_endpoints.ensures in
    let laws : MomentLaws = record {
      refresh = rules.refresh;
      arrival = rules.arrival;
      expiry = rules.expiry;
      assigning = rules.assigning;
      ports = rules.ports;
      restarting = rules.restarting;
    } in
    ends_follow laws
