use Rattle.hn_base.proofs.Names.{[]}
use Rattle.hn_rules.proofs.Names.{RequestNetwork}
use Rattle.hn_rules.proofs.running.Running.request_state.Goals as goal

pub returns : goal.returns
returns c = c.answer.ensures (RequestNetwork []) c.in_ok-tlv.ensures.spelled
