use Rattle.hn_lab_c.specs.Calls.{HasTakenLine}
use Rattle.hn_lab_c.proofs.Played.{of_play, has_taken}
use Rattle.hn_lab_c.proofs.life.hn_lab_line.Goals as goal

pub returns-clause-taken : goal.returns-clause-taken
returns-clause-taken c =
    let status = c.line-status in
    of_play c.in-Some.play.value c.in-Some.ensures.taken (λ before. HasTakenLine c.args.text.now before c.of.result.held status.result status.new.code)
    (has_taken c.args.text.now c.in-Some.play.value c.deref_mut.result.now status.new.play c.of.result.held status.result status.new.code c.deref_mut.ensures.value c.of.ensures status.ensures)
