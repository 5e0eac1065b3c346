use Rattle.hn_world.proofs.RouterNames.{AreNamed, named_replay}
use Rattle.hn_world.proofs.SoundRouters.{always}
use Rattle.hn_world.proofs.laws.names_differ.Goals as goal

pub returns : goal.returns
returns c = record { now = λ w h. named_replay w.version w.trace w h; always = always AreNamed named_replay }
