use Rattle.hn_base.proofs.Names.{◌≡◌, ◌∙◌, None, Some, Option, List, filter, inl, inr, ap, subst}
use Rattle.hn_audit.proofs.Names.{NodeId, Member, Unsettled, OrElse, FindsAlike, FindsKnown, FindsOnLinks, PlainSpot, is_in_set, members_of, plain_spots, set_of, spots_in}
use Rattle.hn_audit.proofs.Searching.{or_else}
use Rattle.hn_audit.proofs.audit.first_unsettled.Goals as goal

pub returns-in-Some-unlike : goal.returns-in-Some-unlike
returns-in-Some-unlike c =
    let w = c.args.world.now.parts in
    let r = c.args.r.now in
    let found = c.in-Some-unlike.found in
    let is : members_of c.as_slice.result.now ≡ set_of w r =
    ap members_of c.as_slice.ensures.value ∙ (c.in_ok-set.ensures ∙ ap (λ (reach : List NodeId). filter (is_in_set reach) w.members) c.reach-reach.ensures) in
    let known : FindsKnown w r.router.reach None = subst (λ (reach : List NodeId). FindsKnown w reach None) c.reach-reach.ensures c.in_default.ensures in
    let unlike = subst (FindsAlike c.reach-reach.result.now (members_of c.as_slice.result.now)) c.in-Some-unlike.is c.in_ok-unlike.ensures in
    let by_reach = subst (λ (reach : List NodeId). FindsAlike reach (members_of c.as_slice.result.now) (Some found)) c.reach-reach.ensures unlike in
    let here : FindsAlike r.router.reach (set_of w r) (Some found) = subst (λ (set : List Member). FindsAlike r.router.reach set (Some found)) is by_reach in
    inr (known, inl here)

pub returns : goal.returns
returns c =
    let w = c.args.world.now.parts in
    let r = c.args.r.now in
    let found = c.first_on_links.result in
    let of_reach : members_of c.in_ok-set.set.items ≡ set_of w r = c.in_ok-set.ensures ∙ ap (λ (reach : List NodeId). filter (is_in_set reach) w.members) c.reach-reach.ensures in
    let is : members_of c.as_slice.result.now ≡ set_of w r = ap members_of c.as_slice.ensures.value ∙ of_reach in
    let is_too : members_of c.as_slice-3.result.now ≡ set_of w r = ap members_of c.as_slice-3.ensures.value ∙ of_reach in
    let spots_are : plain_spots c.as_slice-4.result.now ≡ spots_in (set_of w r) =
    ap plain_spots c.as_slice-4.ensures.value ∙ (c.in_ok-spots.ensures ∙ ap spots_in (ap members_of c.as_slice-2.ensures.value ∙ of_reach)) in
    let known : FindsKnown w r.router.reach None = subst (λ (reach : List NodeId). FindsKnown w reach None) c.reach-reach.ensures c.in_default.ensures in
    let alike = subst (FindsAlike c.reach-reach.result.now (members_of c.as_slice.result.now)) c.in_default-unlike.is c.in_ok-unlike.ensures in
    let alike_by_reach = subst (λ (reach : List NodeId). FindsAlike reach (members_of c.as_slice.result.now) None) c.reach-reach.ensures alike in
    let none_unlike : FindsAlike r.router.reach (set_of w r) None = subst (λ (set : List Member). FindsAlike r.router.reach set None) is alike_by_reach in
    let Links : List NodeId → List Member → List PlainSpot → Type 0 = λ reach set spots. FindsOnLinks w.members reach set spots found in
    let by_reach = subst (λ (reach : List NodeId). Links reach (members_of c.as_slice-3.result.now) (plain_spots c.as_slice-4.result.now)) c.reach-reach.ensures c.first_on_links.ensures in
    let by_set = subst (λ (set : List Member). Links r.router.reach set (plain_spots c.as_slice-4.result.now)) is_too by_reach in
    let on_links : Links r.router.reach (set_of w r) (spots_in (set_of w r)) = subst (Links r.router.reach (set_of w r)) spots_are by_set in
    let unlike : Option Unsettled → Type 0 = FindsAlike r.router.reach (set_of w r) in
    let links : Option Unsettled → Type 0 = FindsOnLinks w.members r.router.reach (set_of w r) (spots_in (set_of w r)) in
    or_else (FindsKnown w r.router.reach) (OrElse unlike links) known found (or_else unlike links none_unlike found on_links)
