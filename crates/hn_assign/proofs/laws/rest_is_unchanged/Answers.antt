use Rattle.hn_assign.proofs.Names.{Assigned, assigned_pair, IsWished}
use Rattle.hn_assign.proofs.KeptFacts.{all_each}
use Rattle.hn_assign.proofs.Rests.{rest_unchanged}
use Rattle.hn_assign.proofs.Unchanged.{unchanged_rests}
use Rattle.hn_assign.proofs.laws.rest_is_unchanged.Goals as goal

pub returns : goal.returns
returns c view wishes held ran advertised wishes_up up all due are run =
    let each = all_each (λ (x : Assigned). IsWished wishes (assigned_pair x)) held.assigned all in (
      unchanged_rests view wishes held ran advertised wishes_up up each due are run,
      rest_unchanged view wishes held ran advertised up each are run,
    )
