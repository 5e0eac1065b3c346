use Rattle.std.proofs.Common.{◌∙◌}
use Rattle.hn_assign.proofs.kept_index.are_alike.Goals as goal

pub returns-then-same_assigned : goal.returns-then-same_assigned
returns-then-same_assigned c is =
    (c.is_same.ensures c.if-is_same.true, c.same_assigned.ensures.0 c.if-same_assigned.true ∙ c.as_slice.ensures.value, c.advertise_alike.ensures is)
