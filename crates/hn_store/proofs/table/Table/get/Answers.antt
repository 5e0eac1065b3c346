use Rattle.hn_base.proofs.Names.{ap}
use Rattle.hn_store.proofs.Names.{Nodes}
use Rattle.hn_store.proofs.NodePlaces.{held-at, held-none}
use Rattle.hn_store.proofs.table.Table.get.Goals as goal

pub returns-in-Ok-clause-held : goal.returns-in-Ok-clause-held
returns-in-Ok-clause-held c =
    let entries = ap (λ (n : Nodes). n.entries) c.self.view_is in
    let there = held-at c.deref.result.now c.args.id.0 c.in-Ok.place c.index.result.now c.in-Ok.ensures.found in
    cc

pub returns-in-Err-clause-held : goal.returns-in-Err-clause-held
returns-in-Err-clause-held c =
    let entries = ap (λ (n : Nodes). n.entries) c.self.view_is in
    let nothing = held-none c.deref.result.now c.args.id.0 c.in-Err.field-0 c.in-Err.ensures.absent in
    cc
