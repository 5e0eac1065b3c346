use Rattle.hn_base.proofs.Names.{◌≡◌, ◌∙◌, sym, ap, arith, list_any, common_steps}
use Rattle.hn_store.proofs.Names.{is_to_mark, Nodes}
use Rattle.hn_store.proofs.Losses.{marked-unneeded}
use Rattle.hn_store.proofs.table.Table.needs_mark.Goals as goal

pub returns-clause-unneeded : goal.returns-clause-unneeded
returns-clause-unneeded c unneeded now =
    let needed : c.has_to_mark.result ≡ list_any (is_to_mark c.args.reach.now) c.args.self.now.entries = grind (arith, common_steps) in
    let same = marked-unneeded c.args.reach.now now c.args.self.now.entries (sym needed ∙ unneeded) in
    ap (λ entries. let n : Nodes = record c.args.self.now { entries = entries } in n) same
