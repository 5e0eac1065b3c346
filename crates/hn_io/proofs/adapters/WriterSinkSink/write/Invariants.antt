use Rattle.hn_base.proofs.Names.{◌≡◌}
use Rattle.hn_io.proofs.adapters.WriterSinkSink.write.Given as goal

-- a call that was interrupted is no fault
abbrev pub invariant-loop : goal.invariant-loop
invariant-loop g l = l.self.faults ≡ l.fn.self.faults
