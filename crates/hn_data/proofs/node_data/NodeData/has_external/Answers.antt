use Rattle.hn_data.proofs.Names.{IsConnected}
use Rattle.hn_data.proofs.OneReading.{reads_at}
use Rattle.hn_data.proofs.node_data.NodeData.has_external.Goals as goal

pub returns : goal.returns
returns c =
    let is = c.kept.ensures.kept in
    let reads = reads_at c.args.self.now is.items IsConnected c.kept.ensures.unique is.are in
    (λ h. reads.0 (is.says.external_is.0 h), λ h. is.says.external_is.1 (reads.1 h))
