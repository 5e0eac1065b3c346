use Rattle.hn_base.proofs.Names.{refl, arith, ap}
use Rattle.hn_sound.proofs.Names.{Assigned, first, OneEach, delegated, subnet}
use Rattle.hn_sound.specs.Homes.{two_for_one}
use Rattle.hn_sound.proofs.HomeTests.{home_but_from, each_pair_from}
use Rattle.hn_sound.proofs.RestTests.{is_at_rest, at_rest_from}
use Rattle.hn_sound.proofs.Unsound.{one_published}
use Rattle.hn_sound.proofs.WrittenLemmas.{publishes_it, two_subnets}
use Rattle.hn_sound.proofs.needed.one_each_is_needed.Goals as goal

pub returns : goal.returns
returns c = record {
  all_other = home_but_from OneEach two_for_one refl;
  at_rest = each_pair_from _ is_at_rest at_rest_from two_for_one refl;
  not_sound = λ sound.
      let one = one_published two_for_one sound delegated (0, omega arith, refl) first first _ _ 2 2
      (publishes_it two_for_one first delegated (subnet 0) (0, omega arith, refl) 2 (0, omega arith, refl))
      (publishes_it two_for_one first delegated (subnet 1) (0, omega arith, refl) 2 (1, omega arith, refl)) refl in
      two_subnets (ap (λ (c : Assigned). c.prefix) one.1);
}
