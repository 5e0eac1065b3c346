use Rattle.hn_base.proofs.Names.{◌≡◌, take, map}
use Rattle.hn_data.proofs.own_data.in_order.Given as goal

abbrev pub invariant-loop-piece : goal.invariant-loop-piece
invariant-loop-piece l = map (λ p. p.now) l.sorted.items ≡ take l.piece-index l.pieces
