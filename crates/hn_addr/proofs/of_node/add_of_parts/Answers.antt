use Rattle.hn_base.proofs.Names.{◌≡◌, ◌↔◌, refl, length, Option, Some, slice_get, subst, MatchOption, take_all, slice_get_read}
use Rattle.hn_addr.proofs.GrownByEach.{IsGrownByEach, grown_at_first, grown_next, grown_by_none, grown_by_one}
use Rattle.hn_addr.proofs.of_node.add_of_parts.Goals as goal
use Rattle.hn_addr.proofs.of_node.add_of_parts.Goals.{in-Some+in_ok-push-in-Some, in-None}

pub loop-part-init : goal.loop-part-init
loop-part-init g c = grown_at_first (g.T.OfNode.makes c.args.node) c.args.list.now.items

pub loop-part-preserved : goal.loop-part-preserved
loop-part-preserved g c =
    let parts = c.args.parts.now in
    let n = c.loop-part.part-index in
    let part = c.part-item.result in
    let makes = g.T.OfNode.makes c.args.node in
    let IsMade : Option g.row.T.Denot → Type 0 = λ made. MatchOption made ((x : g.row.T.Denot) → ¬ makes part x) (λ one. (x : g.row.T.Denot) → makes part x ↔ (one ≡ x)) in
    let at : slice_get parts n ≡ Some part = slice_get_read parts (length parts) n part refl c.loop-part-test.true c.part-item.is in
    elim c.match-from_part.branch [
      | in-Some+in_ok-push-in-Some w ↦ rw (w.list-is, w.in_ok-push-in-Some.ensures.items)
          (grown_next makes c.args.list.now.items c.loop-part.list.items _ parts n part at c.loop-part.invariant
          (grown_by_one (makes part) c.loop-part.list.items w.in-Some.made (subst IsMade w.in-Some.is c.from_part.ensures)))
      | in-None w ↦ rw w.list-is
          (grown_next makes c.args.list.now.items c.loop-part.list.items _ parts n part at c.loop-part.invariant
          (grown_by_none (makes part) c.loop-part.list.items (subst IsMade w.in-None.is c.from_part.ensures)))
    ]

pub returns : goal.returns
returns g c =
    subst (IsGrownByEach (g.T.OfNode.makes c.args.node) c.args.list.now.items c.loop-part.list.items) (take_all c.loop-part.part-index c.args.parts.now c.loop-part-test.false)
    c.loop-part.invariant
