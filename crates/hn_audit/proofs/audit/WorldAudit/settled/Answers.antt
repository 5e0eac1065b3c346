use Rattle.hn_audit.proofs.Names.{IsSettledByRules}
use Rattle.hn_audit.proofs.Searching.{told_none}
use Rattle.hn_audit.proofs.audit.WorldAudit.settled.Goals as goal

pub returns : goal.returns
returns c m named = told_none c.in_ok-unsettled.field-0 c.is_none.result (IsSettledByRules c.args.self.now.parts m) c.is_none.ensures (c.in_ok-unsettled.ensures.none m named)
