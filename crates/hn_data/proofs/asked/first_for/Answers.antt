use Rattle.hn_base.proofs.Names.{◌∙◌, rules, tests, YieldsList-from_slice}
use Rattle.hn_data.proofs.Names.{◌==◌}
use Rattle.std.proofs.lemmas.Iterator.Search.{find_from_yields_List}
use Rattle.hn_data.proofs.asked.first_for.Goals as goal

pub returns : goal.returns
returns c =
    c.copied.ensures
    ∙ find_from_yields_List (λ said. said.endpoint.0 == c.args.e.0) _ _ c.find.result c.find.ensures.ran (YieldsList-from_slice c.args.intervals.now cc) (λ x b q k. search (rules, tests))
