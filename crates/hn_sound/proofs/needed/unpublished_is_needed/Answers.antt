use Rattle.hn_base.proofs.Names.{refl, arith}
use Rattle.hn_sound.proofs.Names.{first, second, Unpublished, delegated, subnet}
use Rattle.hn_sound.specs.Homes.{published_twice}
use Rattle.hn_sound.proofs.HomeTests.{home_from, each_pair_from}
use Rattle.hn_sound.proofs.RestTests.{is_at_rest_but, at_rest_but_from}
use Rattle.hn_sound.proofs.Unsound.{one_published}
use Rattle.hn_sound.proofs.WrittenLemmas.{publishes_it, two_routers}
use Rattle.hn_sound.proofs.needed.unpublished_is_needed.Goals as goal

pub returns : goal.returns
returns c = record {
  is_home = home_from published_twice refl;
  at_rest_but = each_pair_from _ (is_at_rest_but Unpublished) (at_rest_but_from Unpublished) published_twice refl;
  not_sound = λ sound.
      two_routers (one_published published_twice sound delegated (0, omega arith, refl) first second _ _ 2 2
      (publishes_it published_twice first delegated (subnet 0) (0, omega arith, refl) 2 (0, omega arith, refl))
      (publishes_it published_twice second delegated (subnet 0) (1, omega arith, refl) 2 (1, omega arith, refl)) refl).0;
}
