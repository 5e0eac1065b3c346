use Rattle.hn_base.proofs.Names.{ap, ◌∙◌}
use Rattle.hn_data.proofs.Names.{plain_caps, version_of}
use Rattle.hn_data.proofs.FirstSaid.{version_found}
use Rattle.hn_data.proofs.asked.version.Goals as goal

pub returns-clause-each : goal.returns-clause-each
returns-clause-each c items are = let is = c.kept.ensures.kept in is.says.version_is ∙ ap version_of (c.kept.ensures.unique is.items items is.are are)

pub returns-clause-found : goal.returns-clause-found
returns-clause-found c = let is = c.kept.ensures.kept in version_found plain_caps c.args.a.now is.items c.kept.result.now.version c.kept.ensures.unique is.are is.says.version_is
