use Rattle.hn_base.proofs.Names.{on_ok_weaker}
use Rattle.hn_rules.proofs.Arriving.{ran_second_claim}
use Rattle.hn_rules.proofs.running.Running.second_claim.Goals as goal

pub returns : goal.returns
returns g c =
    on_ok_weaker c.publish.result
    (λ publishes. ran_second_claim c.in_ok-word.word c.first_free.result _ _ c.args.self.now c.take.new.self c.publish.new.self c.requires
    c.in_ok-word.ensures.word c.in_ok-word.ensures.drew c.first_free.ensures publishes)
    c.publish.ensures
