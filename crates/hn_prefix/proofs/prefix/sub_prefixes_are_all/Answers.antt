use Rattle.hn_base.proofs.Names.{subst, IsPrefix}
use Rattle.hn_prefix.proofs.SubPrefixAtPlace.{sub_prefixes_are_all_lem}
use Rattle.hn_prefix.proofs.prefix.sub_prefixes_are_all.Goals as goal

pub returns : goal.returns
returns c p = sub_prefixes_are_all_lem c.args.outer.now c.args.len p (subst IsPrefix c.outer.view_is c.outer.invariant) c.requires.not_shorter c.requires.len_in_range
