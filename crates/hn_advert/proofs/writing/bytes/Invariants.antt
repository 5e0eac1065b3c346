use Rattle.hn_advert.proofs.Written.{IsWrittenTo}
use Rattle.hn_advert.proofs.writing.bytes.Given as goal

-- the header and the options so far
abbrev pub invariant-loop-info : goal.invariant-loop-info
invariant-loop-info l = IsWrittenTo l.out.items l.advert l.info-index
