-- No change changes how many nodes the table may hold.
use Rattle.hn_base.proofs.Names.{◌∙◌, ap}
use Rattle.hn_rules.proofs.Names.{Nodes, Accept, Mark, Forget, Empty, ChangeTable}
use Rattle.hn_rules.specs.Laws.{ChangesKeepLimit}

pub limit_stays : ChangesKeepLimit
limit_stays tlvs limit (ChangeTable (Accept carried how next)) r (said, accepts) same = ap (λ (nodes : Nodes). nodes.limit) accepts.after ∙ same
limit_stays tlvs limit (ChangeTable Mark) r allowed same = same
limit_stays tlvs limit (ChangeTable Forget) r allowed same = same
limit_stays tlvs limit (ChangeTable Empty) r allowed same = same
limit_stays tlvs limit _ r allowed same = same
