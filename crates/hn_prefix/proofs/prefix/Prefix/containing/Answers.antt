use Rattle.hn_base.proofs.Names.{◌-◌, arith}
use Rattle.hn_prefix.proofs.Masks.{cleared, containing_is_prefix}
use Rattle.hn_prefix.proofs.prefix.Prefix.containing.Goals as goal

pub invariant_of-result : goal.invariant_of-result
invariant_of-result c =
    rw (cleared c.args.address c.host_mask.result (128 - c.args.len) c.host_mask.ensures) (containing_is_prefix c.args.address c.args.len (omega arith) c.requires)

pub returns-clause-valid : goal.returns-clause-valid
returns-clause-valid c =
    rw (cleared c.args.address c.host_mask.result (128 - c.args.len) c.host_mask.ensures) (containing_is_prefix c.args.address c.args.len (omega arith) c.requires)
