use Rattle.hn_base.proofs.Names.{refl, arith, None, Some}
use Rattle.hn_sound.proofs.Names.{first, second, BestPrefix, delegated, subnet}
use Rattle.hn_sound.specs.Homes.{two_prefixes}
use Rattle.hn_sound.proofs.HomeTests.{home_from, each_pair_from}
use Rattle.hn_sound.proofs.RestTests.{is_at_rest_but, at_rest_but_from}
use Rattle.hn_sound.proofs.Unsound.{same_prefixes}
use Rattle.hn_sound.proofs.WrittenLemmas.{has_it, two_subnets}
use Rattle.hn_sound.proofs.needed.best_prefix_is_needed.Goals as goal

pub returns : goal.returns
returns c = record {
  is_home = home_from two_prefixes refl;
  at_rest_but = each_pair_from _ (is_at_rest_but BestPrefix) (at_rest_but_from BestPrefix) two_prefixes refl;
  not_sound = λ sound.
      two_subnets (same_prefixes two_prefixes sound delegated (0, omega arith, refl) first second _ _
      (has_it two_prefixes first delegated (subnet 0) (0, omega arith, refl) (Some 2) (0, omega arith, refl))
      (has_it two_prefixes second delegated (subnet 1) (1, omega arith, refl) None (1, omega arith, refl)) refl);
}
