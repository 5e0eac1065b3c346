use Rattle.hn_base.proofs.Names.{◌≡◌, Some, refl}
use Rattle.hn_lab.specs.Course.{script_of}
use Rattle.hn_lab.specs.Open.{unless_begun}
use Rattle.hn_lab.proofs.OpenPlays.{refuses_at_once}
use Rattle.hn_lab.proofs.course.Course.play_next.Goals as goal

pub returns-in-Some-clause-goes : goal.returns-in-Some-clause-goes
returns-in-Some-clause-goes c =
    let s = c.args.self.now in
    let is : unless_begun c.args.line s.playing.world.parts ≡ Some c.in-Some.code = cc in
    (refuses_at_once (script_of s) c.args.line c.in-Some.code s.end s.playing s.text c.requires.is_open c.requires.played.0 is, refl)
