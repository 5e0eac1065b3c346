use Rattle.hn_base.proofs.Names.{◌≡◌, ◌↔◌, IsTrue, List, subst, slice_eq-Decides}
use Rattle.hn_audit.proofs.Names.{NodeId}
use Rattle.hn_base.proofs.Keys.{node_decided}
use Rattle.hn_audit.proofs.knowing.reaches.Goals as goal

pub returns : goal.returns
returns c =
    subst (λ (nodes : List NodeId). IsTrue c.eq.result ↔ (nodes ≡ c.args.reach.now)) c.reach.ensures
    (slice_eq-Decides node_decided c.reach.result.now c.args.reach.now c.eq.result c.eq.ensures)
