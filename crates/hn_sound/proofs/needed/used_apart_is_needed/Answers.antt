use Rattle.hn_base.proofs.Names.{refl, arith, None}
use Rattle.hn_sound.proofs.Names.{first, second, UsedApart, delegated, subnet}
use Rattle.hn_sound.specs.Homes.{nested}
use Rattle.hn_sound.proofs.HomeTests.{home_but_from, each_pair_from}
use Rattle.hn_sound.proofs.RestTests.{is_at_rest, at_rest_from}
use Rattle.hn_sound.proofs.Unsound.{no_lonely}
use Rattle.hn_sound.proofs.WrittenLemmas.{has_it, has_none}
use Rattle.hn_sound.proofs.needed.used_apart_is_needed.Goals as goal

pub returns : goal.returns
returns c = record {
  all_other = home_but_from UsedApart nested refl;
  at_rest = each_pair_from _ is_at_rest at_rest_from nested refl;
  not_sound = λ sound.
      let found = no_lonely nested sound delegated (1, omega arith, refl) second first _
      (has_it nested second delegated (subnet 0) (1, omega arith, refl) None (2, omega arith, refl)) (0, omega arith, refl) refl in
      has_none nested first delegated found.0 refl found.1;
}
