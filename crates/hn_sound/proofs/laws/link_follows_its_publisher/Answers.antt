use Rattle.hn_sound.proofs.RestIsSound.{is_inside}
use Rattle.hn_sound.proofs.OnePublisher.{every_follows, none_without_publisher}
use Rattle.hn_sound.proofs.laws.link_follows_its_publisher.Goals as goal

pub returns-clause-every : goal.returns-clause-every
returns-clause-every c = λ home e f d a p is_home at_rest h.
    every_follows home is_home at_rest d (record { endpoint = e; assigned = a; priority = p; fact = h }) f

pub returns-clause-none : goal.returns-clause-none
returns-clause-none c = λ home f d is_home at_rest. none_without_publisher home is_home at_rest f d

pub returns-clause-inside : goal.returns-clause-inside
returns-clause-inside c = λ home e d a is_home at_rest. is_inside home is_home at_rest e d a
