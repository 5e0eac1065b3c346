use Rattle.hn_io.proofs.JoinedWords.{took_both}
use Rattle.hn_io.proofs.laws.words_join.Goals as goal

pub returns : goal.returns
returns c = took_both
