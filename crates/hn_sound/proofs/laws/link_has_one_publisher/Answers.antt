use Rattle.hn_sound.proofs.OnePublisher.{one_publisher, not_beside_best}
use Rattle.hn_sound.proofs.laws.link_has_one_publisher.Goals as goal

pub returns-clause-one : goal.returns-clause-one
returns-clause-one c = λ home e f d a k p q is_home at_rest h l.
    one_publisher home is_home at_rest d
    (record { endpoint = e; assigned = a; priority = p; fact = h })
    (record { endpoint = f; assigned = k; priority = q; fact = l })

pub returns-clause-not_beside_a_best : goal.returns-clause-not_beside_a_best
returns-clause-not_beside_a_best c = λ home e d a p is_home at_rest h.
    not_beside_best home is_home at_rest d (record { endpoint = e; assigned = a; priority = p; fact = h })
