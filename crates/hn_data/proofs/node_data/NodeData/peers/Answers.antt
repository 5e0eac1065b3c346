use Rattle.hn_base.proofs.Names.{Contains, filter_map}
use Rattle.hn_data.proofs.Names.{peer_of}
use Rattle.hn_data.proofs.OneReading.{contains_read}
use Rattle.hn_data.proofs.node_data.NodeData.peers.Goals as goal

pub returns-clause-exact : goal.returns-clause-exact
returns-clause-exact c link =
    let is = c.kept.ensures.kept in
    contains_read c.args.self.now is.items c.kept.result.now.peers.items c.as_slice.result.now link (λ items. Contains (filter_map peer_of items) link)
    c.as_slice.ensures.value c.kept.ensures.unique is.are (is.says.peers_are link)
