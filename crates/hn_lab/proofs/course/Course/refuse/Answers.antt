use Rattle.hn_base.proofs.Names.{Option, Some, refl}
use Rattle.hn_lab.proofs.Names.{End}
use Rattle.hn_lab.specs.Course.{script_of}
use Rattle.hn_play.specs.declared.end.End.TheVariants as end
use Rattle.hn_lab.proofs.OpenPlays.{said_so, played_as}
use Rattle.hn_lab.proofs.course.Course.refuse.Goals as goal

pub returns-clause-played : goal.returns-clause-played
returns-clause-played c =
    let s = c.args.self.now in
    let now = c.add.new.self in
    let rest = c.add.ensures.rest in
    let how : Option End = Some (end.Refused c.next_number-number.result c.args.code) in (
      played_as (script_of now) (script_of now) how how s.playing now.playing c.write_refusal.new.out now.text refl refl rest.0 rest.2
          (said_so (script_of s) (script_of now) c.args.line c.args.code c.next_number-number.result s.playing s.text c.write_refusal.new.out
          c.next_number-number.ensures c.add.ensures.script c.in-Ok.ensures.ok c.requires.stopped),
      c.add.ensures.kept,
    )
