use Rattle.hn_base.proofs.Names.{subst, arith}
use Rattle.hn_streams.proofs.TextLines.{cut_at}
use Rattle.hn_base.proofs.Results.{on_err}
use Rattle.hn_streams.specs.Output.{AppendsPart}
use Rattle.std.specs.Prelude.{string_bytes}
use Rattle.hn_streams.proofs.line_output.write_lines.Goals as goal

pub returns-in_err-write_piece-clause-cut : goal.returns-in_err-write_piece-clause-cut
returns-in_err-write_piece-clause-cut g c =
    let before = c.loop-line.invariant in
    let lines = c.as_slice-line-items.result.now in
    let part = subst (AppendsPart _ _) c.as_bytes.ensures.value c.in_err-write_piece.ensures.cut in
    on_err c.from_residual.result _ (cut_at string_bytes lines c.loop-line.line-index c.line-item.result c.args.lines.now _ _ _ (omega arith) c.line-item.is before.all before.written part)
