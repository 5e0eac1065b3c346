use Rattle.hn_base.proofs.Names.{◌∙◌, ap, IfOk-weaker}
use Rattle.hn_router.proofs.Names.{OwnItems, links_of}
use Rattle.hn_router.proofs.router.first_items.Goals as goal

pub returns-clause-links : goal.returns-clause-links
returns-clause-links c = IfOk-weaker c.of-5.result _ _ (λ items is. ap (λ (i : OwnItems). i.links) is ∙ ap links_of c.new.ensures) c.of-5.ensures.items
