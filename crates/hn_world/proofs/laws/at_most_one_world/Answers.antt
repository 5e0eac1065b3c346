use Rattle.hn_world.proofs.OneStep.{HasLaws, one_world, trace_of_replay, version_of_replay}
use Rattle.hn_world.proofs.laws.at_most_one_world.Goals as goal

pub returns : goal.returns
returns c =
    let laws : HasLaws = record { one_result = c.one_result.ensures; one_new = c.new_is_unique.ensures } in
    record { one = one_world laws; trace = trace_of_replay; version = version_of_replay }
