use Rattle.hn_base.proofs.Names.{refl, arith}
use Rattle.hn_sound.proofs.Names.{nothing_in, IsFreeIn, advertised, first, NothingToDo, delegated, subnet}
use Rattle.hn_sound.specs.Homes.{nothing_assigned}
use Rattle.hn_sound.proofs.HomeTests.{home_from, each_pair_from}
use Rattle.hn_sound.proofs.RestTests.{is_at_rest_but, at_rest_but_from}
use Rattle.hn_sound.proofs.PrefixTests.{within_from}
use Rattle.hn_sound.proofs.Unsound.{no_unassigned}
use Rattle.hn_sound.proofs.WrittenLemmas.{has_none}
use Rattle.hn_sound.proofs.needed.nothing_to_do_is_needed.Goals as goal

-- nothing is advertised, and so the first prefix is free
free : IsFreeIn (advertised nothing_assigned) delegated 64 (subnet 0)
free = record {
  inside = record {
    prefix = record { len_in_range = omega arith; bits_in_range = omega arith; no_bit_past_len = refl };
    of_len = refl;
    within = within_from (subnet 0) delegated refl;
  };
  free = λ a advertised. absurd (nothing_in a advertised);
}

pub returns : goal.returns
returns c = record {
  is_home = home_from nothing_assigned refl;
  at_rest_but = each_pair_from _ (is_at_rest_but NothingToDo) (at_rest_but_from NothingToDo) nothing_assigned refl;
  not_sound = λ sound.
      let found = no_unassigned nothing_assigned sound delegated (0, omega arith, refl) first (subnet 0) (0, omega arith, refl) refl free in
      has_none nothing_assigned first delegated found.0 refl found.1;
}
