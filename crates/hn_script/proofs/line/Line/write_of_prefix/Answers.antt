-- Each line of these words has an arm.
use Rattle.hn_script.proofs.LineWords.{no_other_of_prefix}
use Rattle.hn_script.proofs.line.Line.write_of_prefix.Goals as goal

pub unreachable-requires : goal.unreachable-requires
unreachable-requires g c = no_other_of_prefix c.args.self.now c.requires c.in_default.not-External c.in_default.not-Withdraw c.in_default.not-Private
