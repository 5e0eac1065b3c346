use Rattle.hn_base.proofs.Names.{name_text}
use Rattle.hn_audit.proofs.Names.{IsSoundWorld, IsQuietByRules}
use Rattle.hn_audit.proofs.QuietSets.{quiet_is_fixed, quiet_or_acts, unchanged_is_quiet, named_runs}
use Rattle.hn_audit.proofs.Searching.{told_none}
use Rattle.hn_audit.proofs.audit.WorldAudit.quiet.Goals as goal

pub returns-clause-quiet : goal.returns-clause-quiet
returns-clause-quiet c m named =
    told_none c.in_ok-unquiet.field-0 c.is_none.result (IsQuietByRules c.args.self.now.parts m) c.is_none.ensures (c.in_ok-unquiet.ensures.none m named)

pub returns-clause-unchanged : goal.returns-clause-unchanged
returns-clause-unchanged c m named =
    let w = c.args.self.now.parts in
    let sound : IsSoundWorld w = c.always_sound.ensures.sound w c.is_replayed.ensures in
    let law = c.rest_is_the_fixed_point.ensures in
    (quiet_or_acts w m sound law.runs law.unchanged law.rests c.witness_refutes.ensures.not_at_rest c.in_ok-unquiet.field-0 c.is_none.result c.is_none.ensures
    (c.in_ok-unquiet.ensures.some m named) (returns-clause-quiet c m named)).0

pub returns-clause-acts : goal.returns-clause-acts
returns-clause-acts c m named =
    let w = c.args.self.now.parts in
    let sound : IsSoundWorld w = c.always_sound.ensures.sound w c.is_replayed.ensures in
    let law = c.rest_is_the_fixed_point.ensures in
    (quiet_or_acts w m sound law.runs law.unchanged law.rests c.witness_refutes.ensures.not_at_rest c.in_ok-unquiet.field-0 c.is_none.result c.is_none.ensures
    (c.in_ok-unquiet.ensures.some m named) (returns-clause-quiet c m named)).1

pub returns-clause-fixed : goal.returns-clause-fixed
returns-clause-fixed c m named =
    let w = c.args.self.now.parts in
    let sound : IsSoundWorld w = c.always_sound.ensures.sound w c.is_replayed.ensures in
    let law = c.rest_is_the_fixed_point.ensures in
    quiet_is_fixed w m sound c.is_none.result (returns-clause-quiet c m named) law.comes law.rests

pub returns-clause-any_words : goal.returns-clause-any_words
returns-clause-any_words c m named =
    let w = c.args.self.now.parts in
    let sound : IsSoundWorld w = c.always_sound.ensures.sound w c.is_replayed.ensures in
    unchanged_is_quiet w m sound c.is_none.result (returns-clause-quiet c m named) c.rest_is_the_fixed_point.ensures.rests

pub returns-clause-sound : goal.returns-clause-sound
returns-clause-sound c m named is settled =
    let w = c.args.self.now.parts in
    c.settled_and_quiet_is_sound.ensures w m c.is_replayed.ensures (named_runs (name_text c.args.name.now) w m c.requires named) settled ((returns-clause-quiet c m named).0 is)
