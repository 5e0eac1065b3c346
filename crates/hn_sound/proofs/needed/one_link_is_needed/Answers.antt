use Rattle.hn_base.proofs.Names.{refl, arith, Some}
use Rattle.hn_sound.proofs.Names.{OneLink, delegated, subnet, endpoint}
use Rattle.hn_sound.specs.Homes.{shared_identifier}
use Rattle.hn_sound.proofs.HomeTests.{home_but_from, each_pair_from}
use Rattle.hn_sound.proofs.RestTests.{is_at_rest, at_rest_from}
use Rattle.hn_sound.proofs.WrittenLemmas.{has_it, overlaps_itself}
use Rattle.hn_sound.proofs.needed.one_link_is_needed.Goals as goal

pub returns : goal.returns
returns c = record {
  all_other = home_but_from OneLink shared_identifier refl;
  at_rest = each_pair_from _ is_at_rest at_rest_from shared_identifier refl;
  not_sound = λ sound.
      sound.links_apart (endpoint 1 1 1) (endpoint 1 1 2) delegated delegated _ _
      (has_it shared_identifier (endpoint 1 1 1) delegated (subnet 0) (0, omega arith, refl) (Some 2) (0, omega arith, refl))
      (has_it shared_identifier (endpoint 1 1 2) delegated (subnet 0) (1, omega arith, refl) (Some 2) (0, omega arith, refl))
      (λ same. absurd (omega arith)) (overlaps_itself (subnet 0));
}
