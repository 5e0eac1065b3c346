use Rattle.hn_lab.proofs.Transcripts.{lab_is_of}
use Rattle.hn_lab.proofs.existing.lab_is_of_transcript.Goals as goal

pub returns : goal.returns
returns c = lab_is_of c.transcript_exists.ensures.exists c.written_is_of_transcript.ensures c.script_is_unique.ensures c.fault_excludes_script.ensures
