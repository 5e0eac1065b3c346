use Rattle.hn_play.proofs.Names.{stream_words}
use Rattle.hn_play.proofs.RunCopies.{words_drawn}
use Rattle.hn_play.proofs.flowing.loses.Goals as goal

pub returns-then-playing-gt0-clause-words : goal.returns-then-playing-gt0-clause-words
returns-then-playing-gt0-clause-words c = words_drawn _ (stream_words c.args.playing.now.words) (stream_words c.next.new.self) c.if-playing-gt0.true c.next.ensures.rest
