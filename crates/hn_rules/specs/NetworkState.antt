-- A Network State (RFC 7787, sections 4.3, 4.4 and 7.2.2).
use Rattle.std.specs.Prelude.{ℕ, Bool, if◌then◌else◌, List, []}
use Rattle.std.specs.Str.{bytes_eq}
use Rattle.hn_typed.specs.Item.{RequestNetwork}
use Rattle.hn_dncp.specs.declared.port.Port.{Port}
use Rattle.hn_dncp.specs.Hash.{hashed, asks_for_state}
use Rattle.hn_rules.specs.declared.running.Running.{Running}
use Rattle.hn_rules.specs.declared.answers.Subject.TheVariants.{NetworkRequest}
use Rattle.hn_rules.specs.Rules.{with_port}
use Rattle.hn_rules.specs.Answers.{with_answer}

-- the network state hash of a neighbour is the local one, or the endpoint asks
abbrev pub compared : Bool → Port → Running → Running
compared same port r =
    let after = with_port (hashed same r.sender r.state.moment port) r in
    if asks_for_state same r.state.moment port then with_answer NetworkRequest (RequestNetwork []) after else after

abbrev pub network_state : List ℕ → Port → Running → Running
network_state hash port r = compared (bytes_eq hash r.state.net) port r
