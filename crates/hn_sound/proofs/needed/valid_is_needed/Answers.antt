use Rattle.hn_base.proofs.Names.{refl, arith, Some}
use Rattle.hn_sound.proofs.Names.{first, far, Valid, delegated, subnet}
use Rattle.hn_sound.specs.Homes.{one_for_two_links}
use Rattle.hn_sound.proofs.HomeTests.{home_from, each_pair_from}
use Rattle.hn_sound.proofs.RestTests.{is_at_rest_but, at_rest_but_from}
use Rattle.hn_sound.proofs.WrittenLemmas.{has_it, overlaps_itself}
use Rattle.hn_sound.proofs.needed.valid_is_needed.Goals as goal

pub returns : goal.returns
returns c = record {
  is_home = home_from one_for_two_links refl;
  at_rest_but = each_pair_from _ (is_at_rest_but Valid) (at_rest_but_from Valid) one_for_two_links refl;
  not_sound = λ sound.
      sound.links_apart first far delegated delegated _ _
      (has_it one_for_two_links first delegated (subnet 0) (0, omega arith, refl) (Some 2) (0, omega arith, refl))
      (has_it one_for_two_links far delegated (subnet 0) (1, omega arith, refl) (Some 2) (1, omega arith, refl))
      (λ same. absurd (omega arith)) (overlaps_itself (subnet 0));
}
