use Rattle.hn_base.proofs.Names.{refl, subst, on_ok_weaker}
use Rattle.hn_rules.proofs.Names.{words_taken, ArePorts, IsRefresh, ran_plain}
use Rattle.hn_rules.proofs.ReachStays.{reach_rests}
use Rattle.hn_rules.proofs.RefreshChangesNothing.{leads_on_now, same_refresh}
use Rattle.hn_rules.proofs.Refreshes.{refreshed_refresh}
use Rattle.hn_rules.proofs.Refreshing.{ran_refresh}
use Rattle.hn_rules.proofs.running.Running.refresh_after.Goals as goal

pub returns-then-recent-clause-ran : goal.returns-then-recent-clause-ran
returns-then-recent-clause-ran g c =
    let r = c.args.self.now in
    let recent = c.is_refresh_undue-recent.ensures in
    let fresh = leads_on_now c.reachability_stays.ensures c.get-now.result r.state c.get-now.ensures.moment (c.requires.untouched c.if-not-touched.true)
    (recent.young c.if-recent.true) (recent.leads c.if-recent.true) in
    ran_plain words_taken IsRefresh _ r r (same_refresh r fresh) refl

pub returns-then-recent-clause-fresh : goal.returns-then-recent-clause-fresh
returns-then-recent-clause-fresh g c =
    let recent = c.is_refresh_undue-recent.ensures in
    leads_on_now c.reachability_stays.ensures c.get-now.result c.args.self.now.state c.get-now.ensures.moment (c.requires.untouched c.if-not-touched.true)
    (recent.young c.if-recent.true) (recent.leads c.if-recent.true)

pub returns-clause-ran : goal.returns-clause-ran
returns-clause-ran g c =
    on_ok_weaker c.find_hash.result
    (λ ran. ran_refresh _ _ c.args.self.now c.publish_where_due.new.self c.renew_reach.new.self _ c.in_ok-same.ensures.publishing c.in_ok-renew_reach.ensures ran)
    c.find_hash.ensures

pub returns-clause-fresh : goal.returns-clause-fresh
returns-clause-fresh g c =
    let are = subst ArePorts c.get.ensures c.as_slice-kept.ensures.kept in
    on_ok_weaker c.find_hash.result
    (λ ran. refreshed_refresh c.args.self.now c.find_hash.new.self
    (c.publish_where_due.new.self, c.in_ok-same.ensures.publishing, (c.renew_reach.new.self, c.in_ok-renew_reach.ensures, ran.holds)) are)
    c.find_hash.ensures

pub returns-clause-refreshed : goal.returns-clause-refreshed
returns-clause-refreshed g c =
    on_ok_weaker c.find_hash.result
    (λ ran.
    let are = subst ArePorts c.get.ensures c.as_slice-kept.ensures.kept in
    (refreshed_refresh c.args.self.now c.find_hash.new.self (
      c.publish_where_due.new.self,
      c.in_ok-same.ensures.publishing,
      (c.renew_reach.new.self, c.in_ok-renew_reach.ensures, ran.holds),
    ) are).refreshed)
    c.find_hash.ensures

pub renew_reach-requires : goal.renew_reach-requires
renew_reach-requires g c known =
    let three = c.leaves_reach-known.ensures known in
    let recent = c.is_refresh_undue-recent.ensures in
    reach_rests c.reachability_stays.ensures c.same_links_reach.ensures c.get-now.result c.args.self.now c.publish_where_due.new.self c.get-now.ensures.moment
    (c.requires.linked three.2) (recent.young three.1) (recent.leads three.1) c.in_ok-same.ensures.publishing (c.in_ok-same.ensures.peers three.0)
