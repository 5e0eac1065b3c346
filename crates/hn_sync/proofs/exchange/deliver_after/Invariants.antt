use Rattle.hn_base.proofs.Names.{◌≡◌, ◌-◌, length}
use Rattle.hn_sync.proofs.Delivered.{Came}
use Rattle.hn_sync.proofs.exchange.deliver_after.Given as goal

abbrev pub invariant-loop-delivered : goal.invariant-loop-delivered
invariant-loop-delivered g l = record {
  came : Came l.fn.copies l.delivered (g.D.Draw.words l.fn.draw) (g.D.Draw.words l.draw) l.fn.world.parts l.world.parts;
  kept : l.world.kept ≡ l.fn.world.kept;
}

abbrev pub decreases-loop-delivered : goal.decreases-loop-delivered
decreases-loop-delivered g l = 1000000 - length l.world.parts.trace
