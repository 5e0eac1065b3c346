use Rattle.hn_rules.proofs.Names.{plain_state}
use Rattle.hn_rules.proofs.Resting.{refused_state}
use Rattle.hn_rules.proofs.running.Running.take_state.Goals as goal

pub returns-in-Some-clause-takes : goal.returns-in-Some-clause-takes
returns-in-Some-clause-takes c =
    refused_state (plain_state c.args.carried.now) c.in-Some.how c.get.result.now c.own_leaf-own.result c.args.self.now c.get.ensures c.own_leaf-own.ensures c.in-Some.ensures.accepts
