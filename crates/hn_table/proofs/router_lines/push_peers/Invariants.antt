use Rattle.hn_base.proofs.Names.{◌≡◌, ◌++◌, take, string_bytes, flat_map}
use Rattle.hn_table.specs.Lines.{peer_line}
use Rattle.hn_table.proofs.router_lines.push_peers.Given as goal

-- those so far have a line each
abbrev pub invariant-loop-peer : goal.invariant-loop-peer
invariant-loop-peer l = string_bytes l.text ≡ string_bytes l.fn.text ++ flat_map (peer_line l.port.id) (take l.peer-index l.peer-items)
