use Rattle.hn_base.proofs.Names.{◌≡◌, refl, length, Contains, Some, slice_get, All-contains, All-push, slice_get_read}
use Rattle.hn_deleg.proofs.Names.{contains_at, HasLifetimesIn, prefixes_of}
use Rattle.hn_deleg.proofs.UsableFromLive.{prefixes_more}
use Rattle.hn_deleg.proofs.greatest.with_lifetimes.Goals as goal

pub lifetimes-requires : goal.lifetimes-requires
lifetimes-requires c =
    let ps = c.args.prefixes.now in
    let n = c.loop-prefix.prefix-index in
    let p = c.prefix-item.result in
    let at : slice_get ps n ≡ Some p = slice_get_read ps (length ps) n p refl c.loop-prefix-test.true c.prefix-item.is in
    All-contains (Contains (prefixes_of c.args.list.now)) ps p c.requires (contains_at ps n p at)

pub loop-prefix-preserved : goal.loop-prefix-preserved
loop-prefix-preserved c =
    let ps = c.args.prefixes.now in
    let n = c.loop-prefix.prefix-index in
    let p = c.prefix-item.result in
    let at : slice_get ps n ≡ Some p = slice_get_read ps (length ps) n p refl c.loop-prefix-test.true c.prefix-item.is in
    let found = c.loop-prefix.found.items in
    let u = c.lifetimes-in-loop-prefix.result in
    rw c.in_ok-push.ensures.items (
      prefixes_more found u ps n p c.loop-prefix.invariant.0 c.lifetimes-in-loop-prefix.ensures.prefix at,
      All-push (HasLifetimesIn c.args.list.now) found u c.loop-prefix.invariant.1 c.lifetimes-in-loop-prefix.ensures.lifetimes,
    )
