use Rattle.hn_base.proofs.Names.{◌≡◌, sym, ◌∙◌}
use Rattle.hn_hash.proofs.Names.{leaf_text}
use Rattle.hn_hash.proofs.SameOrCollide.{same_from_ne, same_from_bodies, exhibited_in_place}
use Rattle.hn_hash.proofs.AlikeLeaves.{IsAlike-from_texts}
use Rattle.hn_hash.proofs.FirstDifference.{body_at-read}
use Rattle.hn_hash.proofs.agreement.agree.Goals as goal
use Rattle.hn_hash.proofs.agreement.agree.Goals.{Else-ne-2}

-- the texts were compared, and are equal
texts_are : (c : Else-ne-2) → leaf_text c.args.a.now ≡ leaf_text c.args.b.now
texts_are c =
    sym c.in_ok-left.ensures
    ∙ same_from_ne c.in_ok-left.left.items c.in_ok-right.right.items c.ne-2.result c.ne-2.ensures c.if-ne-2.false
    ∙ c.in_ok-right.ensures

pub first_difference-requires : goal.first_difference-requires
first_difference-requires c = (IsAlike-from_texts c.args.a.now c.args.b.now (texts_are c)).len

pub unreachable-requires : goal.unreachable-requires
unreachable-requires c =
    let same = same_from_bodies c.args.a.now c.args.b.now c.network.ensures.numbered c.network-2.ensures.numbered (texts_are (goal.at.unreachable-requires c).Else-ne-2) c.in-None.ensures.none in
    let no = c.if-are_same.false in
    let yes = c.are_same.ensures.1 same in
    cc

pub returns-clause-collide : goal.returns-clause-collide
returns-clause-collide c =
    exhibited_in_place c.args.a.now c.args.b.now _ _ c.in-Some.i (texts_are (goal.at.returns-clause-collide c).Else-ne-2) c.in-Some.ensures.found
    (c.in_ok-copy_of-in-Some.ensures ∙ c.as_slice.ensures ∙ body_at-read c.args.a.now c.in-Some.i _ c.in-Some.ensures.found.in_both.0)
    (c.in_ok-copy_of-in-Some-2.ensures ∙ c.as_slice-in-Some.ensures ∙ body_at-read c.args.b.now c.in-Some.i _ c.in-Some.ensures.found.in_both.1)
