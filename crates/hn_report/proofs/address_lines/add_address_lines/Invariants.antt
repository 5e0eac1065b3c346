use Rattle.hn_base.proofs.Names.{◌≡◌, ◌++◌, take}
use Rattle.hn_report.proofs.Names.{map, address_line}
use Rattle.hn_report.proofs.address_lines.add_address_lines.Given as goal

-- the addresses so far have a line each
abbrev pub invariant-loop-own : goal.invariant-loop-own
invariant-loop-own l = l.lines ≡ l.fn.lines ++ map (address_line l.name) (take l.own-index l.addresses)
