use Rattle.hn_base.proofs.Names.{refl, not-true, on_ok_weaker}
use Rattle.hn_rules.proofs.Names.{words_taken, plain, IsTlvRule, IsRefresh, ran_plain, ran_both}
use Rattle.hn_rules.proofs.RefreshChangesNothing.{same_refresh}
use Rattle.hn_rules.proofs.Refreshes.{refreshed_untouched, just_refreshed_untouched}
use Rattle.hn_rules.proofs.ReachStays.{knows_touched}
use Rattle.hn_rules.proofs.running.Running.tlv_and_refresh.Goals as goal

pub refresh_after-requires-clause-untouched : goal.refresh_after-requires-clause-untouched
refresh_after-requires-clause-untouched g c none = refreshed_untouched c.args.self.now.state c.tlv.new.self.state (c.in_ok-touched.ensures.untouched none) c.requires.refreshed

pub returns-then-not-touched-clause-fresh : goal.returns-then-not-touched-clause-fresh
returns-then-not-touched-clause-fresh g c =
    just_refreshed_untouched c.args.self.now.state c.tlv.new.self.state (c.in_ok-touched.ensures.untouched (not-true c.in_ok-touched.touched.any c.if-not-touched.true))
    (c.requires.fresh c.if-fresh.true)

pub returns-then-not-touched-clause-ran : goal.returns-then-not-touched-clause-ran
returns-then-not-touched-clause-ran g c =
    let r = c.tlv.new.self in
    let fresh = just_refreshed_untouched c.args.self.now.state r.state (c.in_ok-touched.ensures.untouched (not-true c.in_ok-touched.touched.any c.if-not-touched.true))
    (c.requires.fresh c.if-fresh.true) in
    ran_both words_taken (IsTlvRule c.args.from.now (plain c.args.tlv.now)) IsRefresh _ _ _ c.args.self.now r r c.in_ok-touched.ensures.ran
    (ran_plain words_taken IsRefresh _ r r (same_refresh r fresh) refl)

pub returns-clause-ran : goal.returns-clause-ran
returns-clause-ran g c =
    on_ok_weaker c.refresh_after.result
    (λ refresh. ran_both words_taken (IsTlvRule c.args.from.now (plain c.args.tlv.now)) IsRefresh _ _ _ c.args.self.now c.tlv.new.self c.refresh_after.new.self c.in_ok-touched.ensures.ran refresh)
    c.refresh_after.ensures.ran

pub refresh_after-requires-clause-linked : goal.refresh_after-requires-clause-linked
refresh_after-requires-clause-linked g c unlinked =
    knows_touched c.in_ok-touched.touched.any c.in_ok-touched.touched.links c.args.self.now.state c.tlv.new.self.state
    c.in_ok-touched.ensures.untouched c.in_ok-touched.ensures.known c.requires.refreshed unlinked
