use Rattle.hn_base.proofs.Names.{[], arith, ◌<◌, length}
use Rattle.hn_data.proofs.JoinedPieces.{concat_more}
use Rattle.hn_data.proofs.own_data.joined.Goals as goal

pub loop-piece-preserved : goal.loop-piece-preserved
loop-piece-preserved c =
    let within : c.loop-piece.piece-index < length c.args.pieces.now = omega arith in
    rw (concat_more (λ p. p.now) c.args.pieces.now c.loop-piece.piece-index (record { ref_ptr = (0, 0); now = [] }) within, ← c.loop-piece.invariant) c.in_ok-extend_from_slice.ensures.items
