use Rattle.hn_watch.proofs.Steps.{remembers_same}
use Rattle.hn_watch.proofs.laws.held_after_malformed.Goals as goal

pub returns : goal.returns
returns c = λ shown old new counted holds. record {
  numbers = holds.numbers;
  remembered = remembers_same shown old.remembered new.remembered counted.remembered holds.remembered;
}
