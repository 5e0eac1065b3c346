use Rattle.hn_assign.proofs.Names.{Assigned, assigned_pair, IsWished}
use Rattle.hn_assign.proofs.KeptFacts.{all_each}
use Rattle.hn_assign.proofs.RestRuns.{rest_runs}
use Rattle.hn_assign.proofs.laws.rest_has_a_run.Goals as goal

pub returns : goal.returns
returns c view wishes assigned advertised wishes_up up all are rest =
    rest_runs view advertised assigned up are wishes wishes_up (all_each (λ (x : Assigned). IsWished wishes (assigned_pair x)) assigned all) rest
