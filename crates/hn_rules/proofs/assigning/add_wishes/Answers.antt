use Rattle.hn_base.proofs.Names.{◌≡◌, ◌<◌, List, length, get_or, subst, take, arith, take_all, length-map}
use Rattle.hn_rules.proofs.Names.{EpId, plain_view, Post, endpoints_at}
use Rattle.hn_rules.proofs.WishLists.{HasAt, endpoint_of, added_wish, at_next, are_at}
use Rattle.hn_rules.proofs.assigning.add_wishes.Goals as goal

pub loop-post-preserved : goal.loop-post-preserved
loop-post-preserved c =
    let view = plain_view c.args.view.now in
    let usable = c.args.usable.now in
    let place = c.args.place in
    let endpoints = endpoints_at c.args.posts.now in
    let up = c.requires.usable.ascending in
    let one = c.common_link_is_unique.ensures in
    let made = c.in_ok-wish.ensures in
    let added = c.in_ok-add.ensures in
    let i = c.loop-post.post-index in
    let post = c.post-item.result in
    let d : EpId = record { 0 = 0 } in
    let within : i < length endpoints = omega (arith, length-map c.args.posts.now (λ (p : Post). p.endpoint), c.loop-post-test.true) in
    let here : post.endpoint ≡ get_or endpoints i d = endpoint_of c.args.posts.now i post d c.loop-post-test.true c.post-item.is in
    let are = are_at c.args.private.now view usable place (take i endpoints) c.args.wishes.now c.loop-post.wishes c.loop-post.invariant c.requires.asked in
    at_next c.args.private.now view usable up one place i endpoints post.endpoint d c.in_ok-wish.wish c.args.wishes.now c.loop-post.wishes c.add.new.self
    within here made.wish made.endpoint
    (added_wish c.args.private.now view usable up one place c.in_ok-wish.wish c.in_ok-add.field-0 c.loop-post.wishes c.add.new.self made.wish are added.added added.known added.unchanged)
    c.loop-post.invariant

pub returns : goal.returns
returns c =
    let endpoints = endpoints_at c.args.posts.now in
    subst (λ (es : List EpId). HasAt c.args.private.now (plain_view c.args.view.now) c.args.usable.now c.args.place es c.args.wishes.now c.loop-post.wishes)
    (take_all c.loop-post.post-index endpoints (omega (arith, length-map c.args.posts.now (λ (p : Post). p.endpoint), c.loop-post-test.false))) c.loop-post.invariant
