use Rattle.hn_script.proofs.DenseScripts.{dense_begins, dense_goes_on, dense_is_a_script, dense_has_few_lines}
use Rattle.hn_script.proofs.laws.lines_are_added.Goals as goal

pub returns-clause-begins : goal.returns-clause-begins
returns-clause-begins c = dense_begins

pub returns-clause-goes_on : goal.returns-clause-goes_on
returns-clause-goes_on c = dense_goes_on

pub returns-clause-is_a_script : goal.returns-clause-is_a_script
returns-clause-is_a_script c = dense_is_a_script

pub returns-clause-few : goal.returns-clause-few
returns-clause-few c = dense_has_few_lines
