use Rattle.hn_base.proofs.Names.{refl, arith, ap}
use Rattle.hn_sound.proofs.Names.{Assigned, first, OnceOnLink, delegated, subnet, endpoint}
use Rattle.hn_sound.specs.Homes.{twice_on_link}
use Rattle.hn_sound.proofs.HomeTests.{home_but_from, each_pair_from}
use Rattle.hn_sound.proofs.RestTests.{is_at_rest, at_rest_from}
use Rattle.hn_sound.proofs.Unsound.{one_published}
use Rattle.hn_sound.proofs.WrittenLemmas.{publishes_it, two_subnets}
use Rattle.hn_sound.proofs.needed.once_on_link_is_needed.Goals as goal

pub returns : goal.returns
returns c = record {
  all_other = home_but_from OnceOnLink twice_on_link refl;
  at_rest = each_pair_from _ is_at_rest at_rest_from twice_on_link refl;
  not_sound = λ sound.
      let one = one_published twice_on_link sound delegated (0, omega arith, refl) first (endpoint 1 2 1) _ _ 2 2
      (publishes_it twice_on_link first delegated (subnet 0) (0, omega arith, refl) 2 (0, omega arith, refl))
      (publishes_it twice_on_link (endpoint 1 2 1) delegated (subnet 1) (1, omega arith, refl) 2 (1, omega arith, refl)) refl in
      two_subnets (ap (λ (c : Assigned). c.prefix) one.1);
}
