-- The generated prefixes that nodes say.
use Rattle.std.specs.Prelude.{◌≡◌, ◌↔◌, List, Contains}
use Rattle.hn_base.specs.declared.ids.NodeId.{NodeId}
use Rattle.hn_base.specs.Prefix.{PlainPrefix}
use Rattle.hn_data.specs.View.{PlainView}
use Rattle.hn_data.specs.declared.said.Delegation.{Delegation}
use Rattle.hn_ula.specs.Ula.{IsLocal, IsGenerated}
use Rattle.hn_ula.specs.declared.generated.Generated.{Generated}

-- a /48 inside fd00::/8
pub record IsLocalSite (p : PlainPrefix) : Type 0 where
  pub long : p.len ≡ 48
  pub local : IsLocal p

-- a delegation of the node is of that prefix, which is a generated one
pub record IsOfDelegation (node : NodeId) (d : Delegation) (g : Generated) : Type 0 where
  pub node_is : node ≡ g.node
  pub prefix_is : d.prefix ≡ g.prefix
  pub generated : IsLocalSite g.prefix

-- these are the generated prefixes of a view, each with its node
abbrev pub AreGenerated : PlainView → List Generated → Type 0
AreGenerated view list = (g : Generated) → Contains list g ↔ IsGenerated view g.node.0 g.prefix
