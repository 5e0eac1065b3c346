use Rattle.hn_base.proofs.Names.{◌≡◌, ◌<◌, ◌++◌, length, take, drop}
use Rattle.hn_departed.proofs.Names.{without_first}
use Rattle.hn_departed.proofs.keeping.first_departed.Given as goal

abbrev pub invariant-place : goal.invariant-place
invariant-place l = record {
  within : l.place < length l.queue;
  rest : drop l.place l.queue ≡ l.rest;
  first : without_first l.queue ≡ take l.place l.queue ++ without_first (drop l.place l.queue);
}

abbrev pub decreases-place : goal.decreases-place
decreases-place l = length l.rest
