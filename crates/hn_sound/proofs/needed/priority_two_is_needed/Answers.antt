use Rattle.hn_base.proofs.Names.{refl, arith, Some}
use Rattle.hn_sound.proofs.Names.{first, far, PriorityTwo, delegated, subnet}
use Rattle.hn_sound.specs.Homes.{low_priority}
use Rattle.hn_sound.proofs.HomeTests.{home_but_from, each_pair_from}
use Rattle.hn_sound.proofs.RestTests.{is_at_rest, at_rest_from}
use Rattle.hn_sound.proofs.WrittenLemmas.{has_it, overlaps_itself}
use Rattle.hn_sound.proofs.needed.priority_two_is_needed.Goals as goal

pub returns : goal.returns
returns c = record {
  all_other = home_but_from PriorityTwo low_priority refl;
  at_rest = each_pair_from _ is_at_rest at_rest_from low_priority refl;
  not_sound = λ sound.
      sound.links_apart first far delegated delegated _ _
      (has_it low_priority first delegated (subnet 0) (0, omega arith, refl) (Some 1) (0, omega arith, refl))
      (has_it low_priority far delegated (subnet 0) (1, omega arith, refl) (Some 1) (1, omega arith, refl))
      (λ same. absurd (omega arith)) (overlaps_itself (subnet 0));
}
