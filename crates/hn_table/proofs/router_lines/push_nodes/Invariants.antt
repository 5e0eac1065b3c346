use Rattle.hn_base.proofs.Names.{◌≡◌, ◌++◌, take, string_bytes, flat_map}
use Rattle.hn_table.proofs.Names.{held_line}
use Rattle.hn_table.proofs.router_lines.push_nodes.Given as goal

-- those so far have a line each
abbrev pub invariant-loop-node : goal.invariant-loop-node
invariant-loop-node l = string_bytes l.text ≡ string_bytes l.fn.text ++ flat_map held_line (take l.node-index l.nodes)
