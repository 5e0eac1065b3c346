use Rattle.hn_base.proofs.Names.{None, refl, arith}
use Rattle.hn_audit.proofs.Names.{Attachment, FindsNear, plain_spots}
use Rattle.hn_audit.proofs.Searching.{found_here_in, found_nowhere_in, none_more}
use Rattle.hn_audit.proofs.spots.first_near.Goals as goal

pub returns-in-Some : goal.returns-in-Some
returns-in-Some c =
    let m = c.args.member.now in
    let all = c.loop-a.invariant in
    let near = c.in-Some.ensures in
    found_here_in (FindsNear (plain_spots c.args.spots.now) m) c.as_slice-a-items.result.now m.attachments all.all c.loop-a.a-index all.so_far
    _ _ _ c.loop-a-test.true refl (c.in-Some.link, near.0, near.1, refl)

pub loop-a-preserved : goal.loop-a-preserved
loop-a-preserved c =
    let none : Attachment → Type 0 = λ a. FindsNear (plain_spots c.args.spots.now) c.args.member.now a None in
    record {
      all = c.loop-a.invariant.all;
      so_far = none_more none c.as_slice-a-items.result.now c.loop-a.a-index _ _ c.loop-a.invariant.so_far c.loop-a-test.true refl c.in_default.ensures;
    }

pub returns : goal.returns
returns c =
    let m = c.args.member.now in
    let all = c.loop-a.invariant in
    found_nowhere_in (FindsNear (plain_spots c.args.spots.now) m) c.as_slice-a-items.result.now m.attachments all.all c.loop-a.a-index all.so_far
    (omega (arith, c.loop-a-test.false))
