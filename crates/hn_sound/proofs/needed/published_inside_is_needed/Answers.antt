use Rattle.hn_base.proofs.Names.{refl, arith}
use Rattle.hn_sound.proofs.Names.{first, second, PublishedInside, delegated, subnet}
use Rattle.hn_sound.specs.Homes.{outside}
use Rattle.hn_sound.proofs.HomeTests.{home_but_from, each_pair_from}
use Rattle.hn_sound.proofs.RestTests.{is_at_rest, at_rest_from}
use Rattle.hn_sound.proofs.Unsound.{one_published}
use Rattle.hn_sound.proofs.WrittenLemmas.{publishes_it, two_routers}
use Rattle.hn_sound.proofs.needed.published_inside_is_needed.Goals as goal

pub returns : goal.returns
returns c = record {
  all_other = home_but_from PublishedInside outside refl;
  at_rest = each_pair_from _ is_at_rest at_rest_from outside refl;
  not_sound = λ sound.
      two_routers (one_published outside sound delegated (0, omega arith, refl) first second _ _ 2 2
      (publishes_it outside first delegated (subnet 0) (0, omega arith, refl) 2 (0, omega arith, refl))
      (publishes_it outside second delegated (subnet 256) (1, omega arith, refl) 2 (1, omega arith, refl)) refl).0;
}
