use Rattle.hn_base.proofs.Names.{ap}
use Rattle.hn_store.proofs.Names.{Nodes}
use Rattle.hn_store.proofs.NodePlaces.{held-at, held-none}
use Rattle.hn_store.proofs.table.Table.next_to.Goals as goal

pub returns-in-Some-clause-held : goal.returns-in-Some-clause-held
returns-in-Some-clause-held c =
    let entries = ap (λ (n : Nodes). n.entries) c.self.view_is in
    let there = held-at c.deref.result.now c.args.id.0 c.in-Some.at c.index.result.now c.in-Some.ensures.found in
    cc

pub returns-in-None-clause-held : goal.returns-in-None-clause-held
returns-in-None-clause-held c =
    let entries = ap (λ (n : Nodes). n.entries) c.self.view_is in
    let gap = c.in-None.ensures.absent in
    let nothing = held-none c.deref.result.now c.args.id.0 gap.0 gap.1 in
    cc
