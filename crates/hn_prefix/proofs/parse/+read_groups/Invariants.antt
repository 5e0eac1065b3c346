use Rattle.hn_base.proofs.Names.{length}
use Rattle.hn_prefix.proofs.parse.+read_groups.Given as goal

abbrev pub decreases-read_groups : goal.decreases-read_groups
decreases-read_groups l = length l.text.now
