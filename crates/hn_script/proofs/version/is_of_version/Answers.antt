-- A word is of version 1 where it is none of version 2 alone, and each is of version 2.
use Rattle.hn_script.proofs.Versions.{of_one}
use Rattle.hn_script.proofs.version.is_of_version.Goals as goal

pub returns-in-One : goal.returns-in-One
returns-in-One c = rw c.in-One.is (of_one c.args.word.now c.is_later.result c.is_later.ensures)
