use Rattle.hn_sound.proofs.RestByElements.{same_rest}
use Rattle.hn_sound.proofs.laws.rest_knows_no_order.Goals as goal

pub returns : goal.returns
returns c = λ adv others own wish common held same same_link. same_rest adv others own wish common same same_link held
