use Rattle.hn_base.proofs.Names.{List, ◌++◌, take}
use Rattle.hn_watch.proofs.Names.{All, Shown, Remembers, HasRoom}
use Rattle.hn_watch.proofs.remembered.Remembered.note_all.Given as goal

abbrev pub invariant-loop-one : goal.invariant-loop-one
invariant-loop-one l = record {
  room : All (HasRoom l.self) l.shown;
  held : (before : List Shown) → Remembers before l.fn.self → Remembers (before ++ take l.one-index l.shown) l.self;
}
