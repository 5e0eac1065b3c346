-- The generated prefixes that the delegations of nodes make.
use Rattle.hn_base.proofs.Names.{◌≡◌, ◌↔◌, List, sym, ap, subst}
use Rattle.hn_ula.proofs.Names.{AreOfNodes, NodeId, HasDelegation, PlainView, IsOfDelegation, AreGenerated, Generated}
use Rattle.hn_data.specs.declared.said.Delegation.{Delegation}
use Rattle.hn_ula.specs.Said.{IsLocalSite}

-- a delegation makes one where its prefix is a generated one
pub one_made : (node : NodeId) (d : Delegation) → IsLocalSite d.prefix → (g : Generated) → IsOfDelegation node d g ↔ (record { node = node; prefix = d.prefix } ≡ g)
one_made node d is g = (
  λ made. λ i. record { node = made.node_is i; prefix = made.prefix_is i },
  λ same. record {
    node_is = ap (λ (x : Generated). x.node) same;
    prefix_is = ap (λ (x : Generated). x.prefix) same;
    generated = subst IsLocalSite (ap (λ (x : Generated). x.prefix) same) is;
  },
)

-- and else none
pub none_made : (node : NodeId) (d : Delegation) → ¬ IsLocalSite d.prefix → (g : Generated) → ¬ IsOfDelegation node d g
none_made node d is_not g made = is_not (subst IsLocalSite (sym made.prefix_is) made.generated)

-- what the nodes of a view give is what they have
pub are_generated : (view : PlainView) (list : List Generated) → AreOfNodes HasDelegation IsOfDelegation view list → AreGenerated view list
are_generated view list are g = (
  λ h. let given = (are g).0 h in
      let of = given.gives in
      record {
        entry = given.one;
        reachable = given.among;
        is_it = ap (λ (id : NodeId). id.0) of.makes.node_is;
        version = of.version;
        delegation = of.part;
        says = of.says;
        prefix_is = of.makes.prefix_is;
        long = of.makes.generated.long;
        local = of.makes.generated.local;
      },
  λ h. (are g).1 (record {
    one = h.entry;
    among = h.reachable;
    gives = record {
      version = h.version;
      part = h.delegation;
      says = h.says;
      makes = record { node_is = λ i. record { 0 = h.is_it i }; prefix_is = h.prefix_is; generated = record { long = h.long; local = h.local } };
    };
  }),
)
