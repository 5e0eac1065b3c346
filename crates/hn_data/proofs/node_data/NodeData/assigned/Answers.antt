use Rattle.hn_base.proofs.Names.{Contains, ◌∙◌, filter_map}
use Rattle.hn_data.proofs.Names.{assigned_prefix_of}
use Rattle.hn_data.proofs.OneReading.{contains_read}
use Rattle.hn_data.proofs.node_data.NodeData.assigned.Goals as goal

pub returns : goal.returns
returns c a =
    let is = c.kept.ensures.kept in
    contains_read c.args.self.now is.items (filter_map assigned_prefix_of is.items) c.as_slice.result.now a (λ items. Contains (filter_map assigned_prefix_of items) a)
    (c.as_slice.ensures.value ∙ is.says.assigned_are) c.kept.ensures.unique is.are (λ h. h, λ h. h)
