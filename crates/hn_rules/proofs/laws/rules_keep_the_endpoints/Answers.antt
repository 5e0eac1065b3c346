use Rattle.hn_rules.proofs.Endpoints.{refresh_stands, arrival_stands, expiry_stands, assigning_stands, ports_stand, restarting_stands}
use Rattle.hn_rules.proofs.laws.rules_keep_the_endpoints.Goals as goal

pub returns : goal.returns
returns c = record {
  refresh = refresh_stands;
  arrival = arrival_stands;
  expiry = expiry_stands;
  assigning = assigning_stands;
  ports = ports_stand;
  restarting = restarting_stands;
}
