use Rattle.hn_base.proofs.Names.{append_assoc}
use Rattle.hn_report.proofs.prefix_reports.elect_line.Goals as goal

pub returns : goal.returns
returns c = record {
  who = c.in_ok-who.who;
  is_elected = c.in_ok-who.ensures;
  line_is = simp append_assoc (rw (← c.letter_text-letter.ensures, ← c.in_ok-text.ensures) c.in_ok-format.ensures.ok);
}
