use Rattle.hn_base.proofs.Names.{◌≡◌, ◌++◌, take, string_bytes, flat_map}
use Rattle.hn_table.proofs.Names.{peers_lines}
use Rattle.hn_table.proofs.router_lines.push_ports.Given as goal

-- those so far have a line each
abbrev pub invariant-loop-port : goal.invariant-loop-port
invariant-loop-port l = string_bytes l.text ≡ string_bytes l.fn.text ++ flat_map peers_lines (take l.port-index l.ports)
