use Rattle.hn_base.proofs.Names.{ℕ, List}
use Rattle.hn_look.proofs.Names.{IsLookRun, Calm, Log, Table, Why, Parts}
use Rattle.hn_look.proofs.Forms.{as_calm, as_log, as_table, as_why}
use Rattle.hn_look.proofs.program.run.Goals as goal

pub returns-in-Some-clause-log : goal.returns-in-Some-clause-log
returns-in-Some-clause-log g c asked good =
    let Runs : Type 0 → (Parts → ℕ → List ℕ → Type 0) → Type 0 = λ starving sees. IsLookRun starving sees (g.S.Source.left c.args.src.now) c.play_and_look.result (g.K.Sink.held c.args.out.now)
    (g.K.Sink.held c.play_and_look.new.out) in
    as_log Runs _ c.in-Some.form c.in-Some.ensures.found asked (c.play_and_look.ensures.look good)

pub returns-in-Some-clause-table : goal.returns-in-Some-clause-table
returns-in-Some-clause-table g c name asked good =
    let Runs : Type 0 → (Parts → ℕ → List ℕ → Type 0) → Type 0 = λ starving sees. IsLookRun starving sees (g.S.Source.left c.args.src.now) c.play_and_look.result (g.K.Sink.held c.args.out.now)
    (g.K.Sink.held c.play_and_look.new.out) in
    as_table Runs _ c.in-Some.form name c.in-Some.ensures.found asked (c.play_and_look.ensures.look good)

pub returns-in-Some-clause-why : goal.returns-in-Some-clause-why
returns-in-Some-clause-why g c name asked good =
    let Runs : Type 0 → (Parts → ℕ → List ℕ → Type 0) → Type 0 = λ starving sees. IsLookRun starving sees (g.S.Source.left c.args.src.now) c.play_and_look.result (g.K.Sink.held c.args.out.now)
    (g.K.Sink.held c.play_and_look.new.out) in
    as_why Runs _ c.in-Some.form name c.in-Some.ensures.found asked (c.play_and_look.ensures.look good)

pub returns-in-Some-clause-calm : goal.returns-in-Some-clause-calm
returns-in-Some-clause-calm g c name asked good =
    let Runs : Type 0 → (Parts → ℕ → List ℕ → Type 0) → Type 0 = λ starving sees. IsLookRun starving sees (g.S.Source.left c.args.src.now) c.play_and_look.result (g.K.Sink.held c.args.out.now)
    (g.K.Sink.held c.play_and_look.new.out) in
    as_calm Runs _ c.in-Some.form name c.in-Some.ensures.found asked (c.play_and_look.ensures.look good)

pub returns-in-None-clause-log : goal.returns-in-None-clause-log
returns-in-None-clause-log g c asked _ = absurd (c.in-None.ensures.none Log asked)

pub returns-in-None-clause-table : goal.returns-in-None-clause-table
returns-in-None-clause-table g c name asked _ = absurd (c.in-None.ensures.none (Table name) asked)

pub returns-in-None-clause-why : goal.returns-in-None-clause-why
returns-in-None-clause-why g c name asked _ = absurd (c.in-None.ensures.none (Why name) asked)

pub returns-in-None-clause-calm : goal.returns-in-None-clause-calm
returns-in-None-clause-calm g c name asked _ = absurd (c.in-None.ensures.none (Calm name) asked)
