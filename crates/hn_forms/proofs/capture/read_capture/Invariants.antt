use Rattle.hn_base.proofs.Names.{length}
use Rattle.hn_forms.proofs.Captures.{IsReadTo}
use Rattle.hn_forms.proofs.capture.read_capture.Given as goal

abbrev pub invariant-loop-text : goal.invariant-loop-text
invariant-loop-text l = IsReadTo l.bytes l.rest l.line l.watch

abbrev pub decreases-loop-text : goal.decreases-loop-text
decreases-loop-text l = length l.rest
