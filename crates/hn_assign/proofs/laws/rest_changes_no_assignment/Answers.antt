use Rattle.hn_assign.proofs.Names.{Assigned, assigned_pair, IsWished}
use Rattle.hn_assign.proofs.KeptFacts.{all_each}
use Rattle.hn_assign.proofs.Rests.{rest_unchanged}
use Rattle.hn_assign.proofs.laws.rest_changes_no_assignment.Goals as goal

pub returns : goal.returns
returns c view wishes held ran advertised up all are rest run =
    rest_unchanged view wishes held ran advertised up (all_each (λ (x : Assigned). IsWished wishes (assigned_pair x)) held.assigned all) are run rest
