use Rattle.hn_data.proofs.node_data.NodeData.kept.Goals as goal

pub returns-clause-unique : goal.returns-clause-unique
returns-clause-unique c = c.items_are_unique.ensures c.args.self.now
