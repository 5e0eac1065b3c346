use Rattle.hn_base.proofs.Names.{rules, ◌≡◌, ◌∙◌, ◌+◌, Bool, true, false, take, sym, ap, subst, string_bytes, Global}
use Rattle.hn_table.proofs.Names.{not, filter, is_among, HeldNode, AreUnseenLines, InOrder, Adds}
use Rattle.std.proofs.Common.{String}
use Rattle.hn_table.proofs.Orders.{adds_kept, adds_left}
use Rattle.hn_table.proofs.delegated_lines.push_all_unseen.Goals as goal
use Rattle.hn_table.proofs.delegated_lines.push_all_unseen.Goals.{then-not-is_among+in_ok-push_unseen, else-not-is_among}

pub loop-node-preserved : goal.loop-node-preserved
loop-node-preserved c =
    let nodes = c.args.nodes.now in
    let i = c.loop-node.node-index in
    let node = c.node-item.result in
    let before = string_bytes c.args.text.now in
    let so_far = string_bytes c.loop-node.text in
    let within = c.loop-node-test.true in
    let is = c.node-item.is in
    let unseen : HeldNode → Bool = λ other. not (is_among c.args.reach.now other.id.0) in
    let so : String Global → Type 0 = λ text. Adds (InOrder AreUnseenLines (filter unseen (take (i + 1) nodes))) before (string_bytes text) in
    elim c.if-not-is_among.branch [
      | then-not-is_among+in_ok-push_unseen w ↦
          let no : c.is_among.result ≡ false = search rules in
          let passes : unseen node ≡ true = ap not (sym c.is_among.ensures ∙ no) in
          subst so (sym w.text-is) (adds_kept AreUnseenLines unseen nodes i node before so_far _ within is passes c.loop-node.invariant w.in_ok-push_unseen.ensures)
      | else-not-is_among w ↦
          let yes : c.is_among.result ≡ true = search rules in
          let fails : unseen node ≡ false = ap not (sym c.is_among.ensures ∙ yes) in
          subst so (sym w.text-is) (adds_left AreUnseenLines unseen nodes i node before so_far within is fails c.loop-node.invariant)
    ]
