use Rattle.hn_lab.proofs.Transcripts.{done_or_refused, transcript_exists, transcript_is_unique}
use Rattle.hn_lab.proofs.existing.transcript_exists.Goals as goal

pub returns-clause-exists : goal.returns-clause-exists
returns-clause-exists c = transcript_exists c.script_has_a_play.ensures

pub returns-clause-decided : goal.returns-clause-decided
returns-clause-decided c = done_or_refused c.script_has_a_play.ensures

pub returns-clause-unique : goal.returns-clause-unique
returns-clause-unique c = transcript_is_unique c.at_most_one_play.ensures
