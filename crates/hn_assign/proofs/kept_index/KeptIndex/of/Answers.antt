use Rattle.std.proofs.Common.{◌∙◌, List, subst, sym}
use Rattle.std.specs.List.Sorted.{IsStrictlySortedBy}
use Rattle.std.specs.Ordering.{nat_cmp}
use Rattle.hn_data.specs.View.{ids_of}
use Rattle.hn_data.specs.declared.view.Entry.{Entry}
use Rattle.hn_assign.specs.Gathered.{AreAdvertised}
use Rattle.hn_pair.specs.declared.assigned.Assigned.{Assigned}
use Rattle.hn_assign.proofs.kept_index.KeptIndex.of.Goals as goal

pub invariant_of-result : goal.invariant_of-result
invariant_of-result c =
    let view = c.args.view.now in
    record {
      ascending = subst (λ (nodes : List Entry). IsStrictlySortedBy nat_cmp (ids_of nodes)) (sym c.in_ok-nodes.ensures) c.requires.network.ascending;
      advertised =
          subst (λ (nodes : List Entry). AreAdvertised (record { own = view.own.0; now = 0; nodes = nodes }) c.in_ok-assigned.assigned.items c.args.index) (sym c.in_ok-nodes.ensures)
          (subst (λ (assigned : List Assigned). AreAdvertised (record { own = view.own.0; now = 0; nodes = view.nodes.now }) assigned c.args.index)
          (sym (c.in_ok-assigned.ensures.items ∙ c.as_slice.ensures.value)) (λ a. c.requires.index a));
    }
