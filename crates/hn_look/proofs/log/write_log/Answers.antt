use Rattle.hn_look.proofs.Replays.{untold}
use Rattle.hn_look.proofs.log.write_log.Goals as goal

pub returns-in-None-clause-cut : goal.returns-in-None-clause-cut
returns-in-None-clause-cut g c = untold c.args.world.now.parts (g.K.Sink.held c.args.out.now) c.is_replayed.ensures
