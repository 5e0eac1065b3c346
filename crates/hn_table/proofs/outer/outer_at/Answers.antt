use Rattle.hn_table.proofs.Outers.{found_at, none_at}
use Rattle.hn_table.proofs.outer.outer_at.Goals as goal

pub returns-clause-found : goal.returns-clause-found
returns-clause-found c =
    found_at c.args.node.now c.args.prefix.now c.delegations.result.now c.delegations.ensures.exact (c.version.ensures.found.0 c.if-is_none.ensures) c.outer_among.result c.outer_among.ensures.found

pub returns-clause-none : goal.returns-clause-none
returns-clause-none c = none_at c.args.node.now c.args.prefix.now c.delegations.result.now c.delegations.ensures.exact c.outer_among.result c.outer_among.ensures.none
