use Rattle.hn_kept.proofs.Stream.{takes_listed, leaves_listed, takes_own, leaves_own}
use Rattle.hn_kept.proofs.words.ListedWordsDraw.next.Goals as goal

pub returns-in-Some-clause-word : goal.returns-in-Some-clause-word
returns-in-Some-clause-word c = takes_listed c.args.self.now.listed.now c.in-Some.first.now c.in-Some.rest.now c.args.self.now.generator c.in-Some.ensures.cases.0

pub returns-in-Some-clause-rest : goal.returns-in-Some-clause-rest
returns-in-Some-clause-rest c =
    leaves_listed c.args.self.now.listed.now c.in-Some.first.now c.in-Some.rest.now c.args.self.now.generator c.take-word.new.self c.in-Some.ensures.cases.0 c.take-word.ensures.rest

pub returns-in-None-clause-word : goal.returns-in-None-clause-word
returns-in-None-clause-word c = takes_own c.args.self.now.listed.now c.take-word.result c.args.self.now.generator c.in-None.ensures.cases c.take-word.ensures.word

pub returns-in-None-clause-rest : goal.returns-in-None-clause-rest
returns-in-None-clause-rest c = leaves_own c.args.self.now.listed.now c.args.self.now.generator c.take-word.new.self c.in-None.ensures.cases c.take-word.ensures.rest
