use Rattle.hn_base.proofs.Names.{◌≡◌, take, All}
use Rattle.hn_rules.proofs.Names.{plain_view, HasCommonLink, endpoints_at}
use Rattle.hn_rules.proofs.assigning.posts_of.Given as goal

abbrev pub invariant-loop-endpoint : goal.invariant-loop-endpoint
invariant-loop-endpoint l = record {
  endpoints : endpoints_at l.posts.items ≡ take l.endpoint-index l.endpoints;
  common : All (HasCommonLink (plain_view l.view)) l.posts.items;
}
