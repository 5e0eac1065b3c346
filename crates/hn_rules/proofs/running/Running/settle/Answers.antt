use Rattle.hn_base.proofs.Names.{on_ok_weaker}
use Rattle.hn_rules.proofs.Names.{words_taken, IsAssigning, IsRefresh, ran_both}
use Rattle.hn_rules.proofs.ReachStays.{knows_refreshed, knows_assigned}
use Rattle.hn_rules.proofs.running.Running.settle.Goals as goal

pub returns : goal.returns
returns g c =
    on_ok_weaker c.refresh_after.result
    (λ ran. ran_both words_taken IsAssigning IsRefresh _ _ _ c.args.self.now c.assign.new.self c.refresh_after.new.self c.in_ok-any.ensures.ran ran)
    c.refresh_after.ensures.ran

pub refresh_after-requires-clause-linked : goal.refresh_after-requires-clause-linked
refresh_after-requires-clause-linked g c _ =
    knows_assigned c.args.self.now c.assign.new.self c.in_ok-any.ensures.ran.holds (knows_refreshed c.args.self.now.state c.requires.refreshed)
