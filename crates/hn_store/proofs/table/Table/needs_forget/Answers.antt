use Rattle.hn_base.proofs.Names.{◌≡◌, ◌∙◌, sym, ap, arith, list_any, common_steps}
use Rattle.hn_store.proofs.Names.{is_forgotten, Nodes}
use Rattle.hn_store.proofs.Losses.{remembered-unneeded}
use Rattle.hn_store.proofs.table.Table.needs_forget.Goals as goal

pub returns-clause-unneeded : goal.returns-clause-unneeded
returns-clause-unneeded c unneeded =
    let needed : c.has_forgotten.result ≡ list_any (is_forgotten c.args.now) c.args.self.now.entries = grind (arith, common_steps) in
    let same = remembered-unneeded c.args.now c.args.self.now.entries (sym needed ∙ unneeded) in
    ap (λ entries. let n : Nodes = record c.args.self.now { entries = entries } in n) same
