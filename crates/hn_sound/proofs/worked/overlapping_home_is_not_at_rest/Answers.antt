use Rattle.hn_base.proofs.Names.{refl, arith, Some, PlainPrefix}
use Rattle.hn_sound.proofs.Names.{IsHomeAtRest, EndpointHasAssignment, IsHome, delegated, subnet, endpoint, has}
use Rattle.hn_sound.specs.Worked.{home_with, overlapping}
use Rattle.hn_sound.proofs.HomeTests.{home_from}
use Rattle.hn_sound.proofs.RestIsSound.{sound}
use Rattle.hn_sound.proofs.WrittenLemmas.{has_it}
use Rattle.hn_sound.proofs.worked.overlapping_home_is_not_at_rest.Goals as goal

-- it is a home, and not sound: what is published on link 1 overlaps what is published on link 2
not_at_rest : (followed : PlainPrefix) → IsHome (home_with overlapping followed) → ¬ IsHomeAtRest (home_with overlapping followed)
not_at_rest followed is_home at_rest =
    let home = home_with overlapping followed in
    let on_1 : EndpointHasAssignment home (endpoint 2 1 1) delegated (has (endpoint 2 1 1) delegated overlapping (Some 2)).assigned =
    has_it home (endpoint 2 1 1) delegated overlapping (2, omega arith, refl) (Some 2) (0, omega arith, refl) in
    let on_2 : EndpointHasAssignment home (endpoint 3 1 2) delegated (has (endpoint 3 1 2) delegated (subnet 2) (Some 2)).assigned =
    has_it home (endpoint 3 1 2) delegated (subnet 2) (4, omega arith, refl) (Some 2) (2, omega arith, refl) in
    (sound home is_home at_rest).links_apart (endpoint 2 1 1) (endpoint 3 1 2) delegated delegated _ _ on_1 on_2
    (λ same. absurd (omega arith))
    ((subnet 2).bits, refl, refl)

pub returns-clause-old : goal.returns-clause-old
returns-clause-old c = not_at_rest (subnet 1) (home_from (home_with overlapping (subnet 1)) refl)

pub returns-clause-new : goal.returns-clause-new
returns-clause-new c = not_at_rest overlapping (home_from (home_with overlapping overlapping) refl)
