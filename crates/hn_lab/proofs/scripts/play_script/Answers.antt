use Rattle.hn_base.proofs.Names.{◌∙◌, ℕ, List, Option, Some, ap, sym, subst, Appends}
use Rattle.hn_lab.proofs.Names.{world_parts, HasDonePlay, HasRefusal, Plays, route_of}
use Rattle.hn_lab.proofs.scripts.play_script.Goals as goal

pub returns-in-None-clause-plays : goal.returns-in-None-clause-plays
returns-in-None-clause-plays g c =
    subst (λ (o : Option ℕ). (written : List ℕ) × Plays (route_of o (g.W.Wire.waiting c.args.wire.now)) (route_of o (g.W.Wire.waiting c.args.wire.now)) c.args.script c.play_over.result.status
    (world_parts c.play_over.result.world) written × Appends (g.K.Sink.held c.args.out.now) (g.K.Sink.held c.play_over.new.out) written) (sym c.in-None.is) c.play_over.ensures.plays

pub returns-in-None-clause-done : goal.returns-in-None-clause-done
returns-in-None-clause-done g c has =
    c.play_over.ensures.done (subst (λ (o : Option ℕ). HasDonePlay (route_of o (g.W.Wire.waiting c.args.wire.now)) c.args.script) c.in-None.is has)

pub returns-in-None-clause-refused : goal.returns-in-None-clause-refused
returns-in-None-clause-refused g c has =
    c.play_over.ensures.refused (subst (λ (o : Option ℕ). HasRefusal (route_of o (g.W.Wire.waiting c.args.wire.now)) c.args.script) c.in-None.is has)

pub returns-in-Some-clause-plays : goal.returns-in-Some-clause-plays
returns-in-Some-clause-plays g c =
    let played = c.play_over-in-Some.result in
    let before = g.K.Sink.held c.args.out.now in
    let after = g.K.Sink.held c.play_over-in-Some.new.out in
    subst (λ (o : Option ℕ). (written : List ℕ)
    × Plays (route_of o (g.W.Wire.waiting c.args.wire.now)) (route_of o (g.W.Wire.waiting c.play_over-in-Some.new.outside)) c.args.script played.status (world_parts played.world) written
    × Appends before after written) (ap Some c.new.ensures ∙ sym c.in-Some.is) c.play_over-in-Some.ensures.plays

pub returns-in-Some-clause-done : goal.returns-in-Some-clause-done
returns-in-Some-clause-done g c has =
    c.play_over-in-Some.ensures.done (subst (λ (o : Option ℕ). HasDonePlay (route_of o (g.W.Wire.waiting c.args.wire.now)) c.args.script)
    (c.in-Some.is ∙ ap Some (sym c.new.ensures)) has)

pub returns-in-Some-clause-refused : goal.returns-in-Some-clause-refused
returns-in-Some-clause-refused g c has =
    c.play_over-in-Some.ensures.refused (subst (λ (o : Option ℕ). HasRefusal (route_of o (g.W.Wire.waiting c.args.wire.now)) c.args.script)
    (c.in-Some.is ∙ ap Some (sym c.new.ensures)) has)
