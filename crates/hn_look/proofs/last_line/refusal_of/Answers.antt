use Rattle.hn_base.proofs.Names.{◌∙◌}
use Rattle.hn_look.proofs.LastLines.{kept_line}
use Rattle.hn_look.proofs.Refusals.{tail_of, tail_other}
use Rattle.hn_look.proofs.last_line.refusal_of.Goals as goal

pub returns : goal.returns
returns c front number code is =
    c.as_slice.ensures.value
    ∙ kept_line c.transcript.inside.written.items c.transcript.inside.kept.items front (tail_of number code) c.transcript.invariant (tail_other number code) (c.transcript.view_is ∙ is)
