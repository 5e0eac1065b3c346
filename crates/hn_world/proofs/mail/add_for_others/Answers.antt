use Rattle.hn_base.proofs.Names.{◌∙◌, ◌++◌, List, None, ap, sym, filter, map, take, append_assoc, map-append}
use Rattle.hn_world.proofs.Names.{MailCopy, Target, Member, copy_for, gets, on_link, on_link_at}
use Rattle.hn_world.proofs.EndpointsOnLink.{getting-more}
use Rattle.hn_world.proofs.mail.add_for_others.Goals as goal

pub loop-place-preserved : goal.loop-place-preserved
loop-place-preserved c =
    let f = copy_for c.args.sender.now None c.args.bytes.now in
    let p = gets c.args.sender.now None in
    let m = c.index-members-place.result in
    let i = c.loop-place.place in
    let base = c.args.copies.now.items in
    let there : Member → List Target = λ x. filter p (on_link_at c.args.link i x) in
    let past : List Target = filter p (on_link c.args.link 0 (take i c.args.members.now)) in
    let more = ap (map f) (getting-more p c.args.link i c.args.members.now m c.loop-place-test.true) in
    record {
      are =
          c.in_ok-add_on_link.ensures.copies ∙ ap (λ (ms : List MailCopy). ms ++ map f (there m)) c.loop-place.invariant.are
          ∙ append_assoc base (map f past) (map f (there m)) ∙ ap (λ (ms : List MailCopy). base ++ ms) (sym (map-append f past (there m)))
          ∙ ap (λ (x : Member). base ++ map f (past ++ there x)) c.index-members-place.is ∙ ap (λ (ms : List MailCopy). base ++ ms) (sym more);
      waiting = c.in_ok-add_on_link.ensures.waiting;
    }
