use Rattle.hn_base.proofs.Names.{◌∙◌, Err, ap, rules}
use Rattle.hn_look.proofs.Replays.{same_again, not_refused}
use Rattle.hn_look.proofs.log.again.Goals as goal

pub returns-in-Ok : goal.returns-in-Ok
returns-in-Ok c notes after step =
    same_again c.step_is_unique.ensures c.args.traced.now _ _ notes c.in-Ok.notes _ c.args.replay.now.parts after _ (search rules) (search rules) step c.in-Ok.ensures.ok

pub unreachable-requires : goal.unreachable-requires
unreachable-requires c =
    let code = c.in-Err-Refused.field-0-0 in
    let refused = (c.apply.ensures.refused code).0 (c.in-Err-Refused.is ∙ ap Err c.in-Err-Refused.field-0-is) in
    not_refused c.args.replay.now.parts _ c.args.traced.now.event code c.in_ok-event.ensures c.requires.2.accepted refused
