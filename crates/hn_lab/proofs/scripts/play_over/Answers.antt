use Rattle.hn_base.proofs.Names.{rules, ◌≡◌, ◌∙◌, ℕ, List, [], Some, refl, ap, sym, subst, Appends, AllByRecursion}
use Rattle.hn_lab.proofs.Names.{world_parts, Version, IsOfVersion, Line, Script, HasDonePlay, HasRefusal, Plays, stage_of}
use Rattle.hn_lab.proofs.PlayScripts.{not_refused, not_done, plays_out, starves}
use Rattle.hn_lab.proofs.scripts.play_over.Goals as goal

-- the script of lines
abbrev played : Version → List (ℕ × Line) → Script
played version lines = record { version = version; lines = lines }

pub play_lines-end-requires-clause-of_version : goal.play_lines-end-requires-clause-of_version
play_lines-end-requires-clause-of_version g c =
    (c.args.script.version, subst (λ (lines : List (ℕ × Line)). AllByRecursion (λ (line : ℕ × Line). IsOfVersion c.args.script.version line.1) lines) (sym c.into_vec.ensures) c.requires.of_version)

pub returns-then-status-eq-NO_MEMORY-clause-statuses : goal.returns-then-status-eq-NO_MEMORY-clause-statuses
returns-then-status-eq-NO_MEMORY-clause-statuses g c = rw c.without_world.ensures.status c.play_status-status.ensures.all

pub returns-then-status-eq-NO_MEMORY-clause-plays : goal.returns-then-status-eq-NO_MEMORY-clause-plays
returns-then-status-eq-NO_MEMORY-clause-plays g c =
    let first = g.C.Carrier.route c.args.carrier.now c.args.outside.now in
    let last = g.C.Carrier.route c.args.carrier.now c.play_lines-end.new.outside in
    let h = g.K.Sink.held c.args.out.now in
    let k = g.K.Sink.held c.play_lines-end.new.out in
    let six = c.if-status-eq-NO_MEMORY.true in
    let status = c.without_world.result.status in
    let world = world_parts c.without_world.result.world in
    subst (λ (lines : List (ℕ × Line)). (written : List ℕ) × Plays first last (played c.args.script.version lines) status world written × Appends h k written) c.into_vec.ensures
    (starves (played c.args.script.version c.into_vec.result.items) first last status world (stage_of c.new-playing.result first []) h k
    (c.without_world.ensures.status ∙ six) (ap world_parts c.without_world.ensures.no_world) (c.new-playing.ensures first)
    (c.play_lines-end.ensures.starved (c.play_status-status.ensures.starved six)))

pub returns-clause-plays : goal.returns-clause-plays
returns-clause-plays g c =
    let first = g.C.Carrier.route c.args.carrier.now c.args.outside.now in
    let last = g.C.Carrier.route c.args.carrier.now c.play_lines-end.new.outside in
    let a = stage_of c.play_lines-end.new.playing last [] in
    let status = c.play_status-status.result in
    let rest : ¬ (status ≡ 6) = search rules in
    subst (λ (lines : List (ℕ × Line)). (written : List ℕ) × Plays first last (played c.args.script.version lines) status (Some a.world) written
    × Appends (g.K.Sink.held c.args.out.now) (g.K.Sink.held c.play_lines-end.new.out) written) c.into_vec.ensures
    (plays_out (played c.args.script.version c.into_vec.result.items) first last status c.play_lines-end.result (stage_of c.new-playing.result first []) a _ _
    c.play_status-status.ensures.status rest (c.new-playing.ensures first) refl c.play_lines-end.ensures.whole c.play_lines-end.ensures.cut)

pub returns-clause-done : goal.returns-clause-done
returns-clause-done g c done =
    let first = g.C.Carrier.route c.args.carrier.now c.args.outside.now in
    let a = stage_of c.play_lines-end.new.playing (g.C.Carrier.route c.args.carrier.now c.play_lines-end.new.outside) [] in
    not_refused c.at_most_one_play.ensures (played c.args.script.version c.into_vec.result.items) first _ c.play_lines-end.result (stage_of c.new-playing.result first []) a _ _
    c.play_status-status.ensures.status (c.new-playing.ensures first) c.play_lines-end.ensures.whole
    (subst (λ (lines : List (ℕ × Line)). HasDonePlay first (played c.args.script.version lines)) (sym c.into_vec.ensures) done)

pub returns-clause-refused : goal.returns-clause-refused
returns-clause-refused g c refused =
    let first = g.C.Carrier.route c.args.carrier.now c.args.outside.now in
    let a = stage_of c.play_lines-end.new.playing (g.C.Carrier.route c.args.carrier.now c.play_lines-end.new.outside) [] in
    not_done c.at_most_one_play.ensures (played c.args.script.version c.into_vec.result.items) first _ c.play_lines-end.result (stage_of c.new-playing.result first []) a _ _
    c.play_status-status.ensures.status (c.new-playing.ensures first) c.play_lines-end.ensures.whole
    (subst (λ (lines : List (ℕ × Line)). HasRefusal first (played c.args.script.version lines)) (sym c.into_vec.ensures) refused)
