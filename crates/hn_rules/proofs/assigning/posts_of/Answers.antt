use Rattle.hn_base.proofs.Names.{refl}
use Rattle.hn_rules.proofs.Names.{plain_view}
use Rattle.hn_rules.proofs.WishLists.{posts_more}
use Rattle.hn_rules.proofs.assigning.posts_of.Goals as goal

pub loop-endpoint-preserved : goal.loop-endpoint-preserved
loop-endpoint-preserved c =
    let more = posts_more (plain_view c.args.view.now) c.loop-endpoint.posts.items c.push.new.self.items _ c.args.endpoints.now c.loop-endpoint.endpoint-index (record { 0 = 0 })
    c.loop-endpoint-test.true c.in_ok-push.ensures.items refl c.in_ok-common.ensures c.loop-endpoint.invariant.endpoints c.loop-endpoint.invariant.common in
    record {
      endpoints = more.0;
      common = more.1;
    }
