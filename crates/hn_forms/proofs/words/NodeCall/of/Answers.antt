use Rattle.hn_forms.proofs.words.NodeCall.of.Goals as goal

pub returns-in_err-count-clause-none : goal.returns-in_err-count-clause-none
returns-in_err-count-clause-none c = rw c.from_residual-in_err-count.ensures (λ call is. c.in_err-count.ensures.none call.count call.peers is.peers_are)
