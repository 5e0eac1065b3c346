use Rattle.hn_rules.proofs.AssignRuns.{assigns, ran_assigning, untouched_assigning}
use Rattle.hn_rules.proofs.running.Running.assign.Goals as goal

pub returns-clause-ran : goal.returns-clause-ran
returns-clause-ran g c =
    let left = c.in_ok-held in
    ran_assigning left.field-0-0 _ _ c.args.self.now c.took_words.new.self left.ensures.assigned left.ensures.drew
    (assigns left.field-0-0 c.as_slice.result.now c.args.self.now c.hold.new.self c.took_words.new.self c.as_slice.ensures c.in_ok-touched.ensures.held c.in_ok-took_words.ensures)

pub returns-clause-untouched : goal.returns-clause-untouched
returns-clause-untouched g c none =
    let left = c.in_ok-held in
    untouched_assigning left.field-0-0 c.args.self.now c.took_words.new.self
    (assigns left.field-0-0 c.as_slice.result.now c.args.self.now c.hold.new.self c.took_words.new.self c.as_slice.ensures c.in_ok-touched.ensures.held c.in_ok-took_words.ensures)
    (c.in_ok-touched.ensures.untouched none) c.requires.refreshed
