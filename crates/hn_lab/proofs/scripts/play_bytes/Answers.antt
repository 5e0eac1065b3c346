use Rattle.hn_base.proofs.Names.{[], Err, inl, inr, refl, ap, subst, arith}
use Rattle.hn_lab.proofs.Names.{world_parts, HasDonePlay, HasRefusal, route_of}
use Rattle.hn_lab.proofs.PlayScripts.{among_more, appends_nothing}
use Rattle.hn_lab.proofs.scripts.play_bytes.Goals as goal

pub returns-in-Ok-clause-lab : goal.returns-in-Ok-clause-lab
returns-in-Ok-clause-lab g c =
    let plays = c.play_script.ensures.plays in
    (plays.0, inr (inl (record { script = c.in-Ok.script; is_script = c.in-Ok.ensures.script; plays = plays.1 })), plays.2)

pub returns-in-Ok-clause-only : goal.returns-in-Ok-clause-only
returns-in-Ok-clause-only g c =
    let route = route_of c.args.base (g.W.Wire.waiting c.args.wire.now) in
    record {
      done = λ script is has. c.play_script.ensures.done (subst (HasDonePlay route) (c.script_is_unique.ensures c.args.bytes.now script c.in-Ok.script is c.in-Ok.ensures.script) has);
      refused = λ script is has. c.play_script.ensures.refused (subst (HasRefusal route) (c.script_is_unique.ensures c.args.bytes.now script c.in-Ok.script is c.in-Ok.ensures.script) has);
      no_script = λ fault is _. absurd (c.fault_excludes_script.ensures c.args.bytes.now fault c.in-Ok.script is c.in-Ok.ensures.script);
    }

pub returns-in-Err-Script-clause-only : goal.returns-in-Err-Script-clause-only
returns-in-Err-Script-clause-only g c =
    let is_fault = c.in-Err-Script.ensures.fault c.in-Err-Script.fault (ap Err c.in-Err-Script.field-0-is) in
    record {
      done = λ script is _ _. absurd (c.fault_excludes_script.ensures c.args.bytes.now c.in-Err-Script.fault script is_fault is);
      refused = λ script is _ _. absurd (c.fault_excludes_script.ensures c.args.bytes.now c.in-Err-Script.fault script is_fault is);
      no_script = λ fault is. c.refuse.ensures.not_done;
    }

pub returns-in-Err-Script-clause-statuses : goal.returns-in-Err-Script-clause-statuses
returns-in-Err-Script-clause-statuses g c = among_more c.refuse.result.status c.refuse.ensures.statuses

pub returns-in-Err-NoMemory-clause-lab : goal.returns-in-Err-NoMemory-clause-lab
returns-in-Err-NoMemory-clause-lab g c =
    ([], inr (inr (c.without_world.ensures.status, ap world_parts c.without_world.ensures.no_world, refl, refl)), appends_nothing (g.K.Sink.held c.args.out.now))

pub returns-in-Err-NoMemory-clause-only : goal.returns-in-Err-NoMemory-clause-only
returns-in-Err-NoMemory-clause-only g c =
    let six = c.without_world.ensures.status in
    record {
      done = λ script is has two. absurd (omega (arith, six, two));
      refused = λ script is has zero. absurd (omega (arith, six, zero));
      no_script = λ fault is zero. absurd (omega (arith, six, zero));
    }
