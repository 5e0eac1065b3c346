use Rattle.hn_base.proofs.Names.{◌≡◌, ◌∙◌, ◌++◌, List, Vec, Global, true, false, ap, filter, map, sym, subst, All, append-nil}
use Rattle.hn_world.proofs.Names.{EpId, MailCopy, Target, copy_for, gets, is_on}
use Rattle.hn_world.proofs.EndpointsOnLink.{with_port, without_port, none_on_link}
use Rattle.hn_world.proofs.mail.add_on_link.Goals.{then-is_on+in_ok-add_copy, else-is_on}
use Rattle.hn_world.proofs.mail.add_on_link.Goals as goal

pub returns-then-not-has_link-clause-copies : goal.returns-then-not-has_link-clause-copies
returns-then-not-has_link-clause-copies c =
    let none : c.has_link.result ≡ false = c.if-not-has_link.true in
    let items = c.args.copies.now.items in
    sym (append-nil items)
    ∙ ap (λ (more : List Target). items ++ map (copy_for c.args.sender.now c.args.to c.args.bytes.now) (filter (gets c.args.sender.now c.args.to) more))
    (sym (none_on_link c.args.link c.args.place c.args.member.now (sym c.has_link.ensures ∙ none)))

pub loop-port-preserved : goal.loop-port-preserved
loop-port-preserved c =
    let copy = copy_for c.args.sender.now c.args.to c.args.bytes.now in
    let to : EpId → Target = λ e. record { place = c.args.place; endpoint = e } in
    let on = is_on c.args.link c.args.member.now in
    let ports = c.ports-port-items.result.now in
    let port = c.port-item.result in
    elim c.if-is_on.branch [
      | then-is_on+in_ok-add_copy w ↦ record {
        are = with_port copy (gets c.args.sender.now c.args.to) to on ports c.loop-port.port-index port c.args.copies.now.items c.loop-port.copies.items c.if-is_on.copies.items
            c.loop-port-test.true c.port-item.is (sym c.is_on.ensures ∙ w.if-is_on.true) c.loop-port.invariant.are
            (ap (λ (v : Vec MailCopy Global). v.items) w.copies-is ∙ w.in_ok-add_copy.ensures.copies);
        waiting = subst (λ (v : Vec MailCopy Global). All (λ (m : MailCopy). m.waiting ≡ true) v.items) (sym w.copies-is) w.in_ok-add_copy.ensures.waiting;
      }
      | else-is_on w ↦ record {
        are = without_port copy (gets c.args.sender.now c.args.to) to on ports c.loop-port.port-index port c.args.copies.now.items c.loop-port.copies.items c.if-is_on.copies.items
            c.loop-port-test.true c.port-item.is (sym c.is_on.ensures ∙ w.if-is_on.false) c.loop-port.invariant.are
            (ap (λ (v : Vec MailCopy Global). v.items) w.copies-is);
        waiting = subst (λ (v : Vec MailCopy Global). All (λ (m : MailCopy). m.waiting ≡ true) v.items) (sym w.copies-is) c.loop-port.invariant.waiting;
      }
    ]
