use Rattle.hn_world.proofs.OneAgreement.{one_agreement}
use Rattle.hn_world.proofs.laws.agreement_is_unique.Goals as goal

pub returns : goal.returns
returns c = one_agreement
