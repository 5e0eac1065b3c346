use Rattle.hn_base.proofs.Names.{◌∙◌, sym}
use Rattle.hn_play.proofs.Names.{stage_of}
use Rattle.hn_play.proofs.RunDeliveries.{undelivered, not_refused}
use Rattle.hn_play.proofs.delivery.deliver.Goals as goal

pub returns-in-Some-clause-ends : goal.returns-in-Some-clause-ends
returns-in-Some-clause-ends g c text =
    undelivered c.args.copy c.in-Some.code (stage_of c.args.playing.now (g.C.Carrier.route c.args.carrier.now c.args.outside.now) text) (sym c.refusal.ensures ∙ c.in-Some.is)

pub returns-clause-ends : goal.returns-clause-ends
returns-clause-ends g c text =
    let p = stage_of c.args.playing.now (g.C.Carrier.route c.args.carrier.now c.args.outside.now) text in
    let a = stage_of c.convey.new.playing (g.C.Carrier.route c.args.carrier.now c.convey.new.outside) text in
    not_refused c.args.copy c.convey.result p a (sym c.refusal.ensures ∙ c.in_default.is) (c.convey.ensures.ends text)
