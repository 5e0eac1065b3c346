use Rattle.hn_lab.proofs.RunsInTurns.{lasting_run_keeps_calm, run_brings_calm, run_keeps_calm}
use Rattle.hn_lab.proofs.CalmLines.{calm_lines_keep_calm}
use Rattle.hn_lab.proofs.laws.run_keeps_calm.Goals as goal

pub returns-clause-brings : goal.returns-clause-brings
returns-clause-brings c =
    run_brings_calm (record {
      turns = c.rest_goes_in_turns.ensures;
      lasting = c.calm_comes_and_lasts.ensures;
      named = c.names_differ.ensures.now;
      traces = c.at_most_one_world.ensures.trace;
      versions = c.at_most_one_world.ensures.version;
      mails = c.mail_delivers.ensures;
    })

pub returns-clause-way : goal.returns-clause-way
returns-clause-way c =
    run_keeps_calm (record {
      turns = c.rest_goes_in_turns.ensures;
      lasting = c.calm_comes_and_lasts.ensures;
      named = c.names_differ.ensures.now;
      traces = c.at_most_one_world.ensures.trace;
      versions = c.at_most_one_world.ensures.version;
      mails = c.mail_delivers.ensures;
    })

pub returns-clause-lasting : goal.returns-clause-lasting
returns-clause-lasting c =
    lasting_run_keeps_calm (record {
      turns = c.rest_goes_in_turns.ensures;
      lasting = c.calm_comes_and_lasts.ensures;
      named = c.names_differ.ensures.now;
      traces = c.at_most_one_world.ensures.trace;
      versions = c.at_most_one_world.ensures.version;
      mails = c.mail_delivers.ensures;
    })

pub returns-clause-lines : goal.returns-clause-lines
returns-clause-lines c =
    calm_lines_keep_calm (record {
      turns = c.rest_goes_in_turns.ensures;
      lasting = c.calm_comes_and_lasts.ensures;
      named = c.names_differ.ensures.now;
      traces = c.at_most_one_world.ensures.trace;
      versions = c.at_most_one_world.ensures.version;
      mails = c.mail_delivers.ensures;
    })
