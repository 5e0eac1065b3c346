use Rattle.hn_world.proofs.SomeAgreements.{some_agreement, routers_agree}
use Rattle.hn_world.proofs.laws.agreement_exists.Goals as goal

pub returns-clause-numbered : goal.returns-clause-numbered
returns-clause-numbered c = some_agreement c.hash_has_eight_bytes.ensures c.equal_hashes_agree_or_collide.ensures

pub returns-clause-routers : goal.returns-clause-routers
returns-clause-routers c =
    routers_agree c.hash_has_eight_bytes.ensures c.equal_hashes_agree_or_collide.ensures c.hash_is_of_leaves.ensures c.always_sound.ensures.sound
