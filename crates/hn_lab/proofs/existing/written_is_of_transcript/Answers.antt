use Rattle.hn_lab.proofs.Transcripts.{written_is_of}
use Rattle.hn_lab.proofs.existing.written_is_of_transcript.Goals as goal

pub returns : goal.returns
returns c = written_is_of c.at_most_one_play.ensures c.cut_text_is_a_front.ensures
