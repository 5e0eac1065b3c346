use Rattle.hn_sound.proofs.RestIsSound.{links_apart}
use Rattle.hn_sound.proofs.laws.links_do_not_overlap.Goals as goal

pub returns : goal.returns
returns c = λ home e f d other a k p q is_home at_rest h l.
    links_apart home is_home at_rest d other
    (record { endpoint = e; assigned = a; priority = p; fact = h })
    (record { endpoint = f; assigned = k; priority = q; fact = l })
