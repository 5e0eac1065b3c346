use Rattle.hn_base.proofs.Names.{length}
use Rattle.hn_advert.proofs.Steps.{IsReadTo}
use Rattle.hn_advert.proofs.options.infos_of.Given as goal

-- what the options before the rest carry
abbrev pub invariant-loop-rest : goal.invariant-loop-rest
invariant-loop-rest l = IsReadTo l.options l.rest l.infos

abbrev pub decreases-loop-rest : goal.decreases-loop-rest
decreases-loop-rest l = length l.rest
