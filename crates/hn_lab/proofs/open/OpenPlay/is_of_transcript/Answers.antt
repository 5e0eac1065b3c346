use Rattle.hn_base.proofs.Names.{subst}
use Rattle.hn_lab.specs.Course.{script_of}
use Rattle.hn_lab.specs.OpenTranscript.{IsOfItsTranscript}
use Rattle.hn_lab.proofs.OpenPlays.{of_transcript}
use Rattle.hn_lab.proofs.open.OpenPlay.is_of_transcript.Goals as goal

pub returns : goal.returns
returns c =
    let course = c.self.inside.course in
    subst IsOfItsTranscript c.self.view_is (of_transcript (script_of course) course.source.items course.end course.playing course.text c.self.invariant.0)
