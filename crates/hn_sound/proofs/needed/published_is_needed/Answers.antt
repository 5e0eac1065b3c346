use Rattle.hn_base.proofs.Names.{refl, arith, None}
use Rattle.hn_sound.proofs.Names.{nothing_in, HasNoPublisher, first, Published, delegated, subnet}
use Rattle.hn_sound.specs.Homes.{no_publisher}
use Rattle.hn_sound.proofs.GreatestIsBest.{is_advertised}
use Rattle.hn_sound.proofs.HomeTests.{home_from, each_pair_from}
use Rattle.hn_sound.proofs.RestTests.{is_at_rest_but, at_rest_but_from}
use Rattle.hn_sound.proofs.Unsound.{no_unpublished}
use Rattle.hn_sound.proofs.WrittenLemmas.{has_it}
use Rattle.hn_sound.proofs.needed.published_is_needed.Goals as goal

-- nothing is advertised
none : HasNoPublisher no_publisher 1 delegated
none e c p link h =
    nothing_in _ (is_advertised no_publisher delegated (record { endpoint = e; assigned = c; priority = p; fact = h }))

pub returns : goal.returns
returns c = record {
  is_home = home_from no_publisher refl;
  at_rest_but = each_pair_from _ (is_at_rest_but Published) (at_rest_but_from Published) no_publisher refl;
  not_sound = λ sound.
      no_unpublished no_publisher sound delegated (0, omega arith, refl) first _ (has_it no_publisher first delegated (subnet 0) (0, omega arith, refl) None (0, omega arith, refl)) none;
}
