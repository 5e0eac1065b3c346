use Rattle.hn_base.proofs.Names.{◌≡◌, ◌∙◌, List, subst, take, All, PlainPrefix}
use Rattle.hn_deleg.proofs.Names.{Delegated, AreOutermost, HasLifetimesIn, prefixes_of}
use Rattle.hn_data.specs.View.{plain_view}
use Rattle.hn_deleg.proofs.UsableFromLive.{sorted_prefixes, valid_candidates, kept_in_live, usable}
use Rattle.hn_deleg.proofs.usable.used.Goals as goal

pub outermost-requires-clause-valid : goal.outermost-requires-clause-valid
outermost-requires-clause-valid c =
    let live = c.in_ok-live.live.items in
    let sorted = c.sort_to_set.new.items.items in
    let same = sorted_prefixes live c.as_slice.result.now c.in_ok-candidates.candidates.items sorted c.as_slice.ensures.value c.in_ok-candidates.ensures c.sort_to_set.ensures.same in
    rw c.as_slice-2.ensures.value (valid_candidates live sorted c.in_ok-live.ensures.valid same)

pub with_lifetimes-requires : goal.with_lifetimes-requires
with_lifetimes-requires c =
    let live = c.in_ok-live.live.items in
    let sorted = c.sort_to_set.new.items.items in
    let first = c.in_ok-first.first.items in
    let same = sorted_prefixes live c.as_slice.result.now c.in_ok-candidates.candidates.items sorted c.as_slice.ensures.value c.in_ok-candidates.ensures c.sort_to_set.ensures.same in
    let outer : AreOutermost sorted first = subst (λ (ps : List PlainPrefix). AreOutermost ps first) c.as_slice-2.ensures.value c.in_ok-first.ensures in
    rw (c.as_slice-3.ensures.value, c.as_slice-4.ensures.value, c.truncate.ensures.items) (kept_in_live live sorted first 32 same outer)

pub returns : goal.returns
returns c =
    let live = c.in_ok-live.live.items in
    let sorted = c.sort_to_set.new.items.items in
    let first = c.in_ok-first.first.items in
    let list = c.in_ok-usable.usable.items in
    let same = sorted_prefixes live c.as_slice.result.now c.in_ok-candidates.candidates.items sorted c.as_slice.ensures.value c.in_ok-candidates.ensures c.sort_to_set.ensures.same in
    let outer : AreOutermost sorted first = subst (λ (ps : List PlainPrefix). AreOutermost ps first) c.as_slice-2.ensures.value c.in_ok-first.ensures in
    let prefixes : prefixes_of list ≡ take 32 first = c.in_ok-usable.ensures.prefixes ∙ c.as_slice-4.ensures.value ∙ c.truncate.ensures.items in
    let lifetimes : All (HasLifetimesIn live) list = subst (λ (ds : List Delegated). All (HasLifetimesIn ds) list) c.as_slice-3.ensures.value c.in_ok-usable.ensures.lifetimes in
    rw c.from.ensures (usable (plain_view c.args.view.now) live sorted first list c.in_ok-live.ensures.exact same outer prefixes lifetimes)
