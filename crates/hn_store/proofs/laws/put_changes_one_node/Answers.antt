use Rattle.hn_store.proofs.Uniqueness.{put_changes_one}
use Rattle.hn_store.proofs.laws.put_changes_one_node.Goals as goal

pub returns : goal.returns
returns c = put_changes_one
