use Rattle.hn_base.proofs.Names.{[]}
use Rattle.hn_rules.proofs.Names.{RequestNode}
use Rattle.hn_rules.proofs.running.Running.ask_for.Goals as goal

pub returns : goal.returns
returns c = c.answer.ensures (RequestNode c.args.node.0 []) c.in_ok-tlv.ensures.spelled
