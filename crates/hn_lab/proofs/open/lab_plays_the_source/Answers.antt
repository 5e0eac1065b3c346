use Rattle.hn_lab.proofs.OpenTranscripts.{lab_plays}
use Rattle.hn_lab.proofs.open.lab_plays_the_source.Goals as goal

pub returns : goal.returns
returns c = lab_plays c.written_is_of_transcript.ensures c.script_is_unique.ensures c.fault_excludes_script.ensures
