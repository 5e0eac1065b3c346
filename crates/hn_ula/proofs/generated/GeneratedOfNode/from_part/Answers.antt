use Rattle.hn_base.proofs.Names.{refl, false≢true}
use Rattle.hn_ula.proofs.GeneratedOfNodes.{one_made, none_made}
use Rattle.hn_ula.proofs.generated.GeneratedOfNode.from_part.Goals as goal

pub returns-then-is_local_site : goal.returns-then-is_local_site
returns-then-is_local_site c = one_made c.args.node c.args.part.now (c.if-is_local_site.ensures.0 refl)

pub returns-else-is_local_site : goal.returns-else-is_local_site
returns-else-is_local_site c = none_made c.args.node c.args.part.now (λ is. false≢true (c.if-is_local_site.ensures.1 is))
