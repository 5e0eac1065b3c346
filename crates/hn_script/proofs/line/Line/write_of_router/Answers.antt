-- Each line of these words has an arm.
use Rattle.hn_script.proofs.LineWords.{no_other_of_router}
use Rattle.hn_script.proofs.line.Line.write_of_router.Goals as goal

pub unreachable-requires : goal.unreachable-requires
unreachable-requires g c = no_other_of_router c.args.self.now c.requires c.in_default.not-Router c.in_default.not-Attach c.in_default.not-Caps c.in_default.not-Elect c.in_default.not-Inject
