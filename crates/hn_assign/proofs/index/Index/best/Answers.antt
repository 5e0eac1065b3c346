use Rattle.hn_assign.proofs.Indexes.{IsStarting, best_of_part}
use Rattle.hn_assign.proofs.index.Index.best.Goals as goal

pub returns : goal.returns
returns c =
    let starting : IsStarting c.args.self.now c.args.delegated.now c.starting_in.result.now = record { of_all = c.starting_in.ensures.part; starting = c.starting_in.ensures.all } in
    best_of_part c.args.self.now c.starting_in.result.now c.args.own.0 c.args.common.now c.args.delegated.now starting c.best.result c.best.ensures
