use Rattle.hn_base.proofs.Names.{take}
use Rattle.hn_watch.proofs.Names.{All, RemembersSame, HasRoom}
use Rattle.hn_watch.proofs.remembered.Remembered.make_room.Given as goal

abbrev pub invariant-loop-one : goal.invariant-loop-one
invariant-loop-one l = record {
  same : RemembersSame l.fn.self l.self;
  room : All (HasRoom l.self) (take l.one-index l.shown);
}
