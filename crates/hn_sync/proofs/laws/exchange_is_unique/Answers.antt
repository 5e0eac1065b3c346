use Rattle.hn_sync.proofs.OneEnd.{one_end}
use Rattle.hn_sync.proofs.laws.exchange_is_unique.Goals as goal

pub returns : goal.returns
returns c = one_end c.step_is_unique.ensures c.each_event_is_entered.ensures.entered c.question_is_unique.ensures
