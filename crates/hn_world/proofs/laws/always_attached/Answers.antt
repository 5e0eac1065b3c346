use Rattle.hn_world.proofs.Names.{AreAttached}
use Rattle.hn_world.proofs.SoundRouters.{always}
use Rattle.hn_world.proofs.AttachedEndpoints.{attached_replay}
use Rattle.hn_world.proofs.laws.always_attached.Goals as goal

pub returns : goal.returns
returns c = always AreAttached (attached_replay c.endpoints_follow.ensures)
