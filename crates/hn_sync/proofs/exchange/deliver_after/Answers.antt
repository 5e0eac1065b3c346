use Rattle.hn_base.proofs.Names.{◌≡◌, ◌∙◌, Err, ap, sym, arith, err_from_is_err_and}
use Rattle.hn_sync.proofs.Names.{same_error}
use Rattle.hn_world.specs.SeenWorld.{SeenWorld}
use Rattle.hn_world.specs.declared.event.WorldFault.TheVariants as fault
use Rattle.hn_sync.proofs.Delivered.{came_more, refused_then, cut_then}
use Rattle.hn_sync.proofs.exchange.deliver_after.Goals as goal

pub loop-delivered-preserved : goal.loop-delivered-preserved
loop-delivered-preserved g c =
    let told = g.D.Draw.words in
    let at = c.loop-delivered in
    record {
      came = came_more c.words_join.ensures c.args.copies at.delivered (told c.args.draw.now) (told at.draw)
          (told c.deliver.new.draw) c.args.world.now.parts at.world.parts c.deliver.new.world.parts c.in_ok-deliver.ensures.ok.0 at.invariant.came c.in_ok-deliver.ensures.ok.1;
      kept = c.deliver.ensures.kept ∙ at.invariant.kept;
    }

pub returns-in_err-deliver-clause-refused : goal.returns-in_err-deliver-clause-refused
returns-in_err-deliver-clause-refused g c = λ code failed.
    let told = g.D.Draw.words in
    let at = c.loop-delivered in
    let exit = err_from_is_err_and c.from_residual.result c.from_residual.ensures.1 in
    let is : c.in_err-deliver.field-0.0 ≡ fault.Refused code = sym exit.2 ∙ same_error _ _ (sym exit.1 ∙ failed) in
    refused_then c.args.copies at.delivered (told c.args.draw.now) (told at.draw) c.args.world.now.parts at.world.parts c.deliver.new.world.parts
    (ap (λ (w : SeenWorld). w.parts) c.in_err-deliver.ensures.err) at.invariant.came (omega arith)
    (told c.deliver.new.draw) (ap told (c.in_err-deliver.ensures.undrawn code (ap Err is))) code (c.in_err-deliver.ensures.refused code (ap Err is))

pub returns-in_err-deliver-clause-starved : goal.returns-in_err-deliver-clause-starved
returns-in_err-deliver-clause-starved g c = λ failed.
    let told = g.D.Draw.words in
    let at = c.loop-delivered in
    cut_then c.args.copies at.delivered (told c.args.draw.now) (told at.draw) c.args.world.now.parts at.world.parts c.deliver.new.world.parts
    (ap (λ (w : SeenWorld). w.parts) c.in_err-deliver.ensures.err) at.invariant.came (omega arith)
