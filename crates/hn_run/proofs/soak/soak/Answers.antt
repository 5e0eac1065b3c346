use Rattle.hn_base.proofs.Names.{◌≡◌, ◌⊎◌, ℕ, zero, suc, List, [], ◌∷◌, Option, None, inl, inr, refl, ap, sym, subst, lit<, arith, Appends}
use Rattle.hn_run.proofs.Names.{world_parts, Contains, IsLabRun, Parts}
use Rattle.hn_lab.specs.Lab.{HasDonePlay, HasRefusal, IsScriptPlay, IsUnread, StatusOfScript}
use Rattle.hn_play.specs.Stage.{Mail}
use Rattle.hn_script.specs.Soak.{soak_text}
use Rattle.std.proofs.KnownBytes.{Appends-nil}
use Rattle.hn_run.proofs.soak.soak.Goals as goal

-- a soak is a run of `lab` on the text of its script
abbrev as_lab : (bytes : List ℕ) (status : ℕ) (world : Option Parts) (written : List ℕ) (before after : Option (List ℕ))
    → IsScriptPlay Mail Mail bytes status world written ⊎ IsUnread Mail Mail status world written → StatusOfScript Mail bytes status
    → Appends before after written → IsLabRun Mail Mail None status world before after
as_lab bytes status world written before after comes only appends = record {
  bytes = bytes;
  are_whole = tt;
  written = written;
  comes = inr comes;
  only = only;
  appends = appends;
}

pub returns-in-Ok-clause-soak : goal.returns-in-Ok-clause-soak
returns-in-Ok-clause-soak g c =
    let plays = c.play.ensures.plays in
    let status = c.play.result.status in
    let before = g.K.Sink.held c.args.out.now in
    let after = g.K.Sink.held c.play.new.out in
    let bytes = soak_text c.args.n c.args.seed in
    let comes : IsScriptPlay Mail Mail bytes status (world_parts c.play.result.world) plays.0 ⊎ IsUnread Mail Mail status (world_parts c.play.result.world) plays.0 =
    inl (record { script = c.in-Ok.script; is_script = c.in-Ok.ensures; plays = plays.1 }) in
    let only : StatusOfScript Mail bytes status = record {
      done = λ script is done. c.play.ensures.done (subst (HasDonePlay Mail) (c.script_is_unique.ensures _ script c.in-Ok.script is c.in-Ok.ensures) done);
      refused = λ script is refused. c.play.ensures.refused (subst (HasRefusal Mail) (c.script_is_unique.ensures _ script c.in-Ok.script is c.in-Ok.ensures) refused);
      no_script = λ fault is. absurd (c.fault_excludes_script.ensures _ fault c.in-Ok.script is c.in-Ok.ensures);
    } in
    let run = as_lab bytes status (world_parts c.play.result.world) plays.0 before after comes only plays.2 in
    record {
      written = plays.0;
      comes = comes;
      of_script = c.lab_is_of_transcript.ensures Mail None status (world_parts c.play.result.world) before after run (c.play.ensures.unwired refl).1;
      only = only;
      appends = plays.2;
    }

pub returns-in-Err-clause-soak : goal.returns-in-Err-clause-soak
returns-in-Err-clause-soak g c =
    let six = c.without_world.ensures.status in
    let status = c.without_world.result.status in
    let world = world_parts c.without_world.result.world in
    let held = g.K.Sink.held c.args.out.now in
    let bytes = soak_text c.args.n c.args.seed in
    let comes : IsScriptPlay Mail Mail bytes status world [] ⊎ IsUnread Mail Mail status world [] = inr (six, ap world_parts c.without_world.ensures.no_world, refl, refl) in
    let only : StatusOfScript Mail bytes status = record {
      done = λ script is done two. absurd (omega (arith, six, two));
      refused = λ script is refused none. absurd (omega (arith, six, none));
      no_script = λ fault is none. absurd (omega (arith, six, none));
    } in
    let run = as_lab bytes status world [] held held comes only (Appends-nil held) in
    record {
      written = [];
      comes = comes;
      of_script = c.lab_is_of_transcript.ensures Mail None status world held held run (λ five. omega (arith, six, five));
      only = only;
      appends = Appends-nil held;
    }

-- a status that is not that of a failed wire
unbroken : (status : ℕ) → Contains (0 ∷ 2 ∷ 4 ∷ 5 ∷ 6 ∷ []) status → (status ≡ 5 → ⊥) → Contains (0 ∷ 2 ∷ 4 ∷ 6 ∷ []) status
unbroken status (zero, within, is) other = (0, lit< tt, is)
unbroken status (suc zero, within, is) other = (1, lit< tt, is)
unbroken status (suc (suc zero), within, is) other = (2, lit< tt, is)
unbroken status (suc (suc (suc zero)), within, is) other = absurd (other (sym is))
unbroken status (suc (suc (suc (suc zero))), within, is) other = (3, lit< tt, is)
unbroken status (suc (suc (suc (suc (suc k)))), within, is) other = absurd (omega arith)

pub returns-in-Ok-clause-statuses : goal.returns-in-Ok-clause-statuses
returns-in-Ok-clause-statuses g c = unbroken c.play.result.status c.play.ensures.statuses (c.play.ensures.unwired refl).1
