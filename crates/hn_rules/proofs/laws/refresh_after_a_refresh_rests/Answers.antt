use Rattle.hn_rules.proofs.RefreshChangesNothing.{same_refresh}
use Rattle.hn_rules.proofs.Refreshes.{refreshed_refresh}
use Rattle.hn_rules.proofs.laws.refresh_after_a_refresh_rests.Goals as goal

pub returns : goal.returns
returns c before after are refreshes = same_refresh after (refreshed_refresh before after refreshes are)
