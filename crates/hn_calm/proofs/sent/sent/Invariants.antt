use Rattle.hn_base.proofs.Names.{◌≡◌, All, None, take}
use Rattle.hn_calm.specs.Peers.{FindsSentOf}
use Rattle.hn_calm.proofs.sent.sent.Given as goal

abbrev pub invariant-loop-x : goal.invariant-loop-x
invariant-loop-x l = record {
  all : l.x-items ≡ l.world.parts.members;
  so_far : All (λ one. FindsSentOf l.y l.q l.peer l.after one None) (take l.x-index l.x-items);
}
