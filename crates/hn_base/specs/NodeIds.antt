use Rattle.std.specs.declared.cmp.Ordering.{Ordering}
use Rattle.std.specs.Ordering.{on, nat_cmp}
use Rattle.hn_base.specs.declared.ids.NodeId.{NodeId}

-- node identifiers in order
abbrev pub node_cmp : NodeId → NodeId → Ordering
node_cmp = on (λ id. id.0) nat_cmp
