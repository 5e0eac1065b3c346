use Rattle.hn_sound.proofs.AdvertisedAndLinks.{to_advertised, from_advertised, to_common_link, from_common_link}
use Rattle.hn_sound.proofs.laws.lists_are_exact.Goals as goal

pub returns-clause-advertised : goal.returns-clause-advertised
returns-clause-advertised c = λ home a. (from_advertised home a, to_advertised home a)

pub returns-clause-common_link : goal.returns-clause-common_link
returns-clause-common_link c = λ home e node id. (from_common_link home e node id, to_common_link home e node id)
