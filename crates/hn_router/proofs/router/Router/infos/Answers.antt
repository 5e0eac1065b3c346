use Rattle.hn_base.proofs.Names.{◌≡◌, subst, refl, List, length, Some, slice_get, All, slice_get_read, take_all}
use Rattle.hn_router.proofs.Names.{Assigned, IsInDelegated, assigned_pair, IsAscending, PlainView, Delegated, AreUsable, seen_by, IsInfoFrom, HasNoInfo}
use Rattle.hn_router.proofs.InfoLists.{AreInfosOf, infos_none, infos_more_at, infos_same_at, infos_are}
use Rattle.hn_router.proofs.router.Router.infos.Goals as goal
use Rattle.hn_router.proofs.router.Router.infos.Goals.{in-Some+in_ok-push, in_default}

pub loop-c-init : goal.loop-c-init
loop-c-init c = rw c.new-infos.ensures (infos_none c.into_vec-usable.result.items c.args.e)

pub loop-c-preserved : goal.loop-c-preserved
loop-c-preserved c =
    let view = seen_by c.args.self.now in
    let usable = c.into_vec-usable.result.items in
    let xs = c.assigned-c-items.result.now in
    let n = c.loop-c.c-index in
    let at : slice_get xs n ≡ Some c.c-item.result = slice_get_read xs (length xs) n c.c-item.result refl c.loop-c-test.true c.c-item.is in
    let same = c.assigned-c-items.ensures.value in
    let pairs = c.assigned-c-items.ensures.kept in
    let up : IsAscending assigned_pair xs = rw same pairs.assigned in
    let inside : All IsInDelegated xs = rw same pairs.inside in
    let are : AreUsable view usable = subst (λ (v : PlainView). AreUsable v usable) c.requires (rw c.into_vec-usable.ensures c.in_ok-used.ensures) in
    let same_used : c.as_slice.result.now ≡ usable = c.as_slice.ensures.value in
    elim c.match-info_of.branch [
      | in-Some+in_ok-push w ↦ rw (w.infos-is, w.in_ok-push.ensures.ok)
          (infos_more_at c.inside_keeps_the_order.ensures view usable c.args.e xs n c.c-item.result c.loop-c.infos w.in-Some.info at are up inside c.loop-c.invariant
          (subst (λ (l : List Delegated). IsInfoFrom l c.args.e c.c-item.result w.in-Some.info) same_used w.in-Some.ensures.some) w.in-Some.ensures.valid)
      | in_default w ↦ rw w.infos-is
          (infos_same_at usable c.args.e xs n c.c-item.result c.loop-c.infos at c.loop-c.invariant
          (subst (λ (l : List Delegated). HasNoInfo l c.args.e c.c-item.result) same_used w.in_default.ensures.none))
    ]

pub returns : goal.returns
returns c =
    let s = c.args.self.now in
    let usable = c.into_vec-usable.result.items in
    let xs = c.assigned-c-items.result.now in
    let are : AreUsable (seen_by s) usable = subst (λ (v : PlainView). AreUsable v usable) c.requires (rw c.into_vec-usable.ensures c.in_ok-used.ensures) in
    let whole : AreInfosOf usable c.args.e xs c.loop-c.infos =
    subst (λ (l : List Assigned). AreInfosOf usable c.args.e l c.loop-c.infos) (take_all c.loop-c.c-index xs c.loop-c-test.false) c.loop-c.invariant in
    infos_are s usable c.args.e c.loop-c.infos are (subst (λ (l : List Assigned). AreInfosOf usable c.args.e l c.loop-c.infos) c.assigned-c-items.ensures.value whole)
