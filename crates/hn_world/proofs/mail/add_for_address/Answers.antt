use Rattle.hn_base.proofs.Names.{◌≡◌, ◌∙◌, ◌++◌, List, Some, ap, filter, map, subst, sym, OnOk, append-nil}
use Rattle.hn_world.proofs.Names.{Target, Member, copy_for, gets, on_link_at}
use Rattle.hn_world.proofs.EndpointOfAddress.{has_none, has_one}
use Rattle.hn_world.proofs.mail.add_for_address.Goals as goal

pub returns-in_default-clause-copies : goal.returns-in_default-clause-copies
returns-in_default-clause-copies c =
    let items = c.args.copies.now.items in
    sym (append-nil items)
    ∙ ap (λ (ts : List Target). items ++ map (copy_for c.args.sender.now (Some c.args.to) c.args.bytes.now) ts)
    (has_none c.args.sender.now c.args.to c.args.link c.args.members.now c.in_default.ensures.place c.requires.ports)

pub returns-clause-copies : goal.returns-clause-copies
returns-clause-copies c =
    let m = c.index-members-place.result in
    let items = c.args.copies.now.items in
    let there : Member → List Target = λ x. filter (gets c.args.sender.now (Some c.args.to)) (on_link_at c.args.link c.in-Some.place x) in
    let same = ap there c.index-members-place.is
    ∙ has_one c.args.sender.now c.args.to c.args.link c.in-Some.place c.args.members.now m c.in-Some.ensures.there c.in-Some.ensures.place c.requires.ports
    in
    subst (λ (ts : List Target). OnOk c.add_on_link.result (c.add_on_link.new.copies.items ≡ items ++ map (copy_for c.args.sender.now (Some c.args.to) c.args.bytes.now) ts))
    same c.add_on_link.ensures.copies
