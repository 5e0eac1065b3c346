use Rattle.hn_base.proofs.Names.{arith}
use Rattle.hn_node.proofs.Names.{on_err}
use Rattle.hn_node.proofs.Sent.{none_handed, part_handed}
use Rattle.hn_node.proofs.sending.hand_all.Goals as goal

pub loop-send-init : goal.loop-send-init
loop-send-init g c = record { sent = none_handed _ _; no_fault = search; reliable = search }

pub returns-in_err-hand_one-clause-cut : goal.returns-in_err-hand_one-clause-cut
returns-in_err-hand_one-clause-cut g c =
    on_err c.from_residual.result _ (part_handed _ c.args.sends.now c.loop-send.send-index c.send-item.result _ _ _ _ _ _ _
    (omega arith) c.send-item.is c.loop-send.invariant.sent c.in_err-hand_one.ensures.cut)
