use Rattle.hn_assign.proofs.Awaited.{backoffs_soon}
use Rattle.hn_assign.proofs.KeptFacts.{inside_stable, past_stable, priority_stable, length_stable, prefix_stable}
use Rattle.hn_assign.proofs.KeptFacts.{subroutine_keeps as keeps}
use Rattle.hn_assign.proofs.laws.subroutine_keeps.Goals as goal

pub returns-clause-inside : goal.returns-clause-inside
returns-clause-inside c view wishes held ran run all = keeps view wishes _ (inside_stable view wishes) held ran run all

pub returns-clause-past : goal.returns-clause-past
returns-clause-past c view wishes held ran run all = keeps view wishes _ (past_stable view wishes) held ran run all

pub returns-clause-priority : goal.returns-clause-priority
returns-clause-priority c view wishes held ran run all = keeps view wishes _ (priority_stable view wishes) held ran run all

pub returns-clause-alone : goal.returns-clause-alone
returns-clause-alone c view wishes held ran e length run alone all = keeps view wishes _ (length_stable view wishes e length alone) held ran run all

pub returns-clause-prefix : goal.returns-clause-prefix
returns-clause-prefix c view wishes held ran run all = keeps view wishes _ (prefix_stable view wishes) held ran run all

pub returns-clause-soon : goal.returns-clause-soon
returns-clause-soon c view wishes held ran run all = backoffs_soon view wishes held ran run all
