use Rattle.hn_base.proofs.Names.{◌∙◌}
use Rattle.hn_store.proofs.Losses.{among_from_search}
use Rattle.hn_store.proofs.loss.is_among.Goals as goal

pub returns-then-ascending : goal.returns-then-ascending
returns-then-ascending c =
    c.is_ok.ensures.value ∙ among_from_search c.args.ids.now c.args.node.0 c.binary_search.result (c.requires c.if-ascending.true) c.binary_search.ensures.bound c.binary_search.ensures.position
