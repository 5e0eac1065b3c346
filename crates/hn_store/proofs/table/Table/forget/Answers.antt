use Rattle.hn_base.proofs.Names.{◌∙◌, List, length, not, sym, ap, subst, rules, tests, arith, filter_same, common_steps}
use Rattle.hn_store.proofs.Names.{HeldNode, is_forgotten, Nodes, IsTable, AreAgesUndueBefore}
use Rattle.std.proofs.Common.{count_by}
use Rattle.hn_store.specs.Loss.{remembered}
use Rattle.hn_store.proofs.AgesOfNodes.{ages_filter}
use Rattle.hn_store.proofs.TableStays.{IsTable-filter}
use Rattle.hn_store.proofs.Losses.{count_forgotten}
use Rattle.hn_store.proofs.table.Table.forget.Goals as goal

pub invariant_of-self : goal.invariant_of-self
invariant_of-self c =
    let stays = λ (node : HeldNode). not (is_forgotten c.args.now node) in
    let left = filter_same _ stays _ (λ (x : HeldNode) b q k. search (rules, tests)) _ _ c.retain.ensures.filtered in
    let xs = c.self.inside.nodes.items in
    subst (λ (nodes : List HeldNode). IsTable (record { limit = c.self.inside.limit; entries = nodes }) × AreAgesUndueBefore c.self.inside.young nodes) (sym left)
    (IsTable-filter c.self.inside.limit stays xs c.self.invariant.0, ages_filter c.self.inside.young stays xs c.self.invariant.1)

pub returns-clause-nodes : goal.returns-clause-nodes
returns-clause-nodes c =
    let stays = λ (node : HeldNode). not (is_forgotten c.args.now node) in
    let left = filter_same _ stays _ (λ (x : HeldNode) b q k. search (rules, tests)) _ _ c.retain.ensures.filtered in
    ap (λ (nodes : List HeldNode). let n : Nodes = record { limit = c.self.inside.limit; entries = nodes } in n) left ∙ ap (remembered c.args.now) c.self.view_is

pub returns-clause-count : goal.returns-clause-count
returns-clause-count c =
    let stays = λ (node : HeldNode). not (is_forgotten c.args.now node) in
    let left = filter_same _ stays _ (λ (x : HeldNode) b q k. search (rules, tests)) _ _ c.retain.ensures.filtered in
    let entries = ap (λ (n : Nodes). n.entries) c.self.view_is in
    let count = count_forgotten c.args.now c.self.inside.nodes.items in
    let fewer = ap length left in
    let counted = ap (count_by (is_forgotten c.args.now)) entries in
    grind (arith, common_steps)
