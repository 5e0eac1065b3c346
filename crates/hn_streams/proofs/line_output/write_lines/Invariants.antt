use Rattle.hn_base.proofs.Names.{◌≡◌, take, Appends}
use Rattle.hn_streams.proofs.line_output.write_lines.Given as goal
use Rattle.hn_streams.specs.TextLines.{joined}
use Rattle.std.specs.Prelude.{map, string_bytes}

-- the lines so far were written
abbrev pub invariant-loop-line : goal.invariant-loop-line
invariant-loop-line g l =
    let sink = g.K.Sink in
    record {
      all : map string_bytes l.line-items ≡ l.fn.lines;
      written : Appends (sink.held l.fn.out) (sink.held l.out) (joined (map string_bytes (take l.line-index l.line-items)));
      no_fault : sink.faults l.out ≡ sink.faults l.fn.out;
      reliable : sink.never_fails l.fn.out → sink.never_fails l.out;
    }
