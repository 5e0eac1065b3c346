use Rattle.hn_base.proofs.Names.{subst}
use Rattle.hn_lab_c.specs.Scripts.{LabPlaysTheScript}
use Rattle.hn_lab_c.proofs.Played.{of_play}
use Rattle.hn_lab_c.proofs.texts.hn_lab_script.Goals as goal

pub returns-clause-lab : goal.returns-clause-lab
returns-clause-lab c =
    of_play c.in-Some.play.value c.in-Some.ensures.taken LabPlaysTheScript (subst LabPlaysTheScript c.deref.ensures c.kept_script.ensures.lab)
