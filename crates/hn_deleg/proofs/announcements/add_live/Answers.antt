use Rattle.hn_base.proofs.Names.{◌≡◌, ◌∙◌, ◌++◌, ap, refl, List, length, Some, slice_get, filter_map, slice_get_read, take_all}
use Rattle.hn_deleg.proofs.Names.{Delegation, live_of}
use Rattle.hn_deleg.proofs.Live.{added_none, added_more_at, added_same_at}
use Rattle.hn_deleg.proofs.announcements.add_live.Goals as goal
use Rattle.hn_deleg.proofs.announcements.add_live.Goals.{in-Some+in_ok-push, in_default}

pub loop-d-init : goal.loop-d-init
loop-d-init c = added_none c.args.list.now.items c.args.age

pub loop-d-preserved : goal.loop-d-preserved
loop-d-preserved c =
    let old = c.args.list.now.items in
    let said = c.args.delegations.now in
    let n = c.loop-d.d-index in
    let at : slice_get said n ≡ Some c.d-item.result = slice_get_read said (length said) n c.d-item.result refl c.loop-d-test.true c.d-item.is in
    elim c.match-live.branch [
      | in-Some+in_ok-push w ↦ rw (w.list-is, w.in_ok-push.ensures.items)
          (added_more_at old c.loop-d.list.items c.args.age said n c.d-item.result w.in-Some.live c.loop-d.invariant at w.in-Some.ensures.value w.in-Some.ensures.valid)
      | in_default w ↦ rw w.list-is (added_same_at old c.loop-d.list.items c.args.age said n c.d-item.result c.loop-d.invariant at w.in_default.ensures.value)
    ]

pub returns-clause-added : goal.returns-clause-added
returns-clause-added c =
    c.loop-d.invariant.added
    ∙ ap (λ (l : List Delegation). c.args.list.now.items ++ filter_map (live_of c.args.age) l) (take_all c.loop-d.d-index c.args.delegations.now c.loop-d-test.false)

pub returns-clause-valid : goal.returns-clause-valid
returns-clause-valid c = c.loop-d.invariant.valid
