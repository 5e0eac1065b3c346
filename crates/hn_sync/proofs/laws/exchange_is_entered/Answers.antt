use Rattle.hn_sync.proofs.Delivered.{exchange_enters}
use Rattle.hn_sync.proofs.laws.exchange_is_entered.Goals as goal

pub returns : goal.returns
returns c = exchange_enters c.each_event_is_entered.ensures.entered
