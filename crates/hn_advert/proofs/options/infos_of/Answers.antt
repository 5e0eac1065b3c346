use Rattle.hn_base.proofs.Names.{List, Some, None, subst, append-nil}
use Rattle.hn_advert.proofs.Names.{Info}
use Rattle.hn_advert.proofs.Steps.{IsReadTo, reads_more, breaks_off}
use Rattle.hn_advert.proofs.Unique.{no_first_fault}
use Rattle.hn_advert.proofs.options.infos_of.Goals as goal

pub unreachable-requires : goal.unreachable-requires
unreachable-requires c =
    let fault = c.in_default.field-0 in
    no_first_fault c.args.options.now _ fault.why c.requires
    (breaks_off c.args.options.now c.loop-rest.rest.now c.loop-rest.infos fault.place fault.why c.loop-rest.invariant c.in_default.ensures.fault)

pub loop-rest-preserved-in_ok-push : goal.loop-rest-preserved-in_ok-push
loop-rest-preserved-in_ok-push c =
    let begins = rw c.in-Some.is at c.in-Ok.ensures.option in
    rw c.in_ok-push.ensures.ok (reads_more c.args.options.now c.loop-rest.rest.now c.in-Ok.after.now c.loop-rest.infos (Some c.in-Some.info) c.loop-rest.invariant begins)

pub loop-rest-preserved : goal.loop-rest-preserved
loop-rest-preserved c =
    let options = c.args.options.now in
    let after = c.in-Ok.after.now in
    let begins = rw c.in_default-info.is at c.in-Ok.ensures.option in
    subst (λ (infos : List Info). IsReadTo options after infos) (append-nil c.loop-rest.infos) (reads_more options c.loop-rest.rest.now after c.loop-rest.infos None c.loop-rest.invariant begins)
