use Rattle.hn_prefix.proofs.SubPrefixAtPlace.{sub_prefixes_are_all_lem}
use Rattle.hn_prefix.proofs.laws.inside_are_sub_prefixes.Goals as goal

pub returns : goal.returns
returns c outer len valid longer small p = sub_prefixes_are_all_lem outer len p valid longer small
