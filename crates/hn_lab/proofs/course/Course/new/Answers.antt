use Rattle.hn_base.proofs.Names.{Some, ap}
use Rattle.hn_lab.proofs.Names.{Stage, Mail}
use Rattle.hn_play.specs.declared.end.End.TheVariants as end
use Rattle.hn_lab.proofs.OpenPlays.{begun_course}
use Rattle.hn_lab.proofs.course.Course.new.Goals as goal

pub returns-clause-begun : goal.returns-clause-begun
returns-clause-begun c = λ i. record {
  script = record { version = c.args.version; lines = c.new-2.ensures.items i };
  source = c.in_ok-source.ensures i;
  end = Some end.Done;
  world = (ap (λ (s : Stage). s.world) (c.new.ensures Mail)) i;
  text = c.new-3.ensures i;
}

pub returns-clause-played : goal.returns-clause-played
returns-clause-played c =
    begun_course c.lines_are_added.ensures.begins c.args.version c.new-2.result.items c.in_ok-source.source.items c.new.result c.new-3.result
    c.new-2.ensures.items c.in_ok-source.ensures (c.new.ensures Mail) c.new-3.ensures
