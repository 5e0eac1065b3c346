use Rattle.hn_base.proofs.Names.{List, length}
use Rattle.hn_advert.proofs.Names.{Info}
use Rattle.hn_advert.proofs.Steps.{IsReadTo}
use Rattle.hn_advert.proofs.options.check_options.Given as goal

-- up to the rest there are options
abbrev pub invariant-loop-rest : goal.invariant-loop-rest
invariant-loop-rest l = (infos : List Info) × IsReadTo l.options l.rest infos

abbrev pub decreases-loop-rest : goal.decreases-loop-rest
decreases-loop-rest l = length l.rest
