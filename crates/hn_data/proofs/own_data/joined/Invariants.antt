use Rattle.hn_base.proofs.Names.{◌≡◌, take, map, concat}
use Rattle.hn_data.proofs.own_data.joined.Given as goal

abbrev pub invariant-loop-piece : goal.invariant-loop-piece
invariant-loop-piece l = l.bytes.items ≡ concat (map (λ p. p.now) (take l.piece-index l.pieces))
