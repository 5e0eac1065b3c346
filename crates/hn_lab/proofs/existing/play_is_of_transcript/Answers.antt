use Rattle.hn_lab.proofs.Transcripts.{of_plays}
use Rattle.hn_lab.proofs.existing.play_is_of_transcript.Goals as goal

pub returns : goal.returns
returns c = of_plays c.transcript_exists.ensures.exists c.written_is_of_transcript.ensures
