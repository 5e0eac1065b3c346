use Rattle.hn_base.proofs.Names.{◌∙◌, ℕ, [], ◌∷◌, ◌++◌, Some, Err, inl, inr, refl, sym, ap, subst, lit<, Begins}
use Rattle.hn_forms.proofs.Names.{One, refused_line, plain_call}
use Rattle.hn_io.specs.Pcg.{pcg_word}
use Rattle.hn_node.specs.Turns.{serving, logged_words}
use Rattle.hn_forms.proofs.Nodes.{status_of, not_done, starved, unserved, told_served, within_told, begins_seed, ended}
use Rattle.hn_forms.proofs.NinthPrefix.{overfull_sets_none_up}
use Rattle.hn_forms.proofs.Setups.{limit_of_set_up}
use Rattle.hn_forms.proofs.Sources.{Contains-more}
use Rattle.std.proofs.KnownBytes.{Appends-nil}
use Rattle.hn_forms.proofs.node_form.serve_lines.Goals as goal

pub returns-in-Err-Overfull-clause-node : goal.returns-in-Err-Overfull-clause-node
returns-in-Err-Overfull-clause-node g c bytes file =
    let number = c.in-Err-Overfull.number in
    let full = c.in-Err-Overfull.ensures.overfull number (ap Err c.in-Err-Overfull.field-0-is) in (
      refused_line number 9,
      inl (record {
        number = number;
        code = 9;
        refused = inr (c.args.lines.now, c.now-now.result, file, c.now-now.ensures.reading, full, refl);
        status_is = status_of 2 c.refuse.result.status c.refuse.ensures.statuses;
        unserved = c.refuse.ensures.not_served;
        unsent = refl;
        text_is = refl;
      }),
      rw (← c.in-Err-Overfull.number-is) c.refuse.ensures.holds,
    )

pub returns-in-Err-Overfull-clause-done : goal.returns-in-Err-Overfull-clause-done
returns-in-Err-Overfull-clause-done g c free two =
    let number = c.in-Err-Overfull.number in
    free c.now-now.result number (c.in-Err-Overfull.ensures.overfull number (ap Err c.in-Err-Overfull.field-0-is))

pub returns-in-Err-Overfull-clause-overfull : goal.returns-in-Err-Overfull-clause-overfull
returns-in-Err-Overfull-clause-overfull g c now number full = not_done c.refuse.result.status c.refuse.ensures.statuses

pub returns-in-Err-Overfull-clause-statuses : goal.returns-in-Err-Overfull-clause-statuses
returns-in-Err-Overfull-clause-statuses g c =
    let status = c.refuse.result.status in
    Contains-more [] (2 ∷ 4 ∷ 5 ∷ 6 ∷ []) 0 status (Contains-more (2 ∷ 4 ∷ []) (6 ∷ []) 5 status c.refuse.ensures.statuses)

pub returns-in-Err-NoMemory-clause-node : goal.returns-in-Err-NoMemory-clause-node
returns-in-Err-NoMemory-clause-node g c bytes file = unserved _ _ _ _ _ _ _ c.of.ensures.status c.of.ensures.not_served (inl refl)

pub returns-in-Err-NoMemory-clause-overfull : goal.returns-in-Err-NoMemory-clause-overfull
returns-in-Err-NoMemory-clause-overfull g c now number full = starved c.of.result.status c.of.ensures.status

pub returns-in-Err-clause-node : goal.returns-in-Err-clause-node
returns-in-Err-clause-node g c bytes file =
    let up = c.in-Ok.ensures.set_up in
    unserved _ _ _ _ _ _ _ c.of-in-Err.ensures.status c.of-in-Err.ensures.not_served (inr (record {
      lines = c.args.lines.now;
      file = file;
      now = c.now-now.result;
      readings = g.C.Clock.readings c.now-now.new.self;
      reads = c.now-now.ensures.reading;
      words = up.0;
      router = c.in-Ok.router;
      set_up = up.1;
      starves = rw (← c.from.ensures) c.in-Err.ensures.starved;
    }))

pub returns-in-Err-clause-overfull : goal.returns-in-Err-clause-overfull
returns-in-Err-clause-overfull g c now number full = starved c.of-in-Err.result.status c.of-in-Err.ensures.status

pub returns-in-Err-clause-statuses : goal.returns-in-Err-clause-statuses
returns-in-Err-clause-statuses g c = (4, lit< tt, sym c.of-in-Err.ensures.status)

pub returns-in-Ok-serve-clause-node : goal.returns-in-Ok-serve-clause-node
returns-in-Ok-serve-clause-node g c bytes file =
    let call = plain_call c.args.call.now in
    let s = c.in-Ok-serve.served in
    let up = c.in-Ok.ensures.set_up in
    let stream : ℕ → ℕ = pcg_word c.new-draw.result in
    let first = serving c.in-Ok.router (g.W.Wire.waiting c.args.wire.now) in
    let last = serving s.router (g.W.Wire.waiting c.serve.new.wire) in
    let readings = g.C.Clock.readings c.now-now.new.self in
    let rest = g.C.Clock.readings c.serve.new.clock in
    let a = g.K.Sink.held c.args.out.now in
    let b = g.K.Sink.held c.tell.new.out in
    let told = told_served call c.tell.result.status s first last readings rest a b (rw (← c.from.ensures) c.in-Ok-serve.ensures.turns)
    (rw (← c.from.ensures) c.in-Ok-serve.ensures.cut) c.tell.ensures.told
    (λ fails. let untold = c.tell.ensures.untold fails in (untold.0, rw untold.1 (Appends-nil a))) in
    let drew = c.words_join.ensures (Some stream) _ _ up.0 (logged_words s.log) up.2 c.in-Ok-serve.ensures.words in (
      told.text,
      inr (inl (record {
        s = s;
        is_served = record {
          lines = c.args.lines.now;
          file = file;
          now = c.now-now.result;
          readings = readings;
          reads = c.now-now.ensures.reading;
          words = up.0;
          router = c.in-Ok.router;
          set_up = up.1;
          drew = subst (λ x. Begins (up.0 ++ logged_words s.log) (pcg_word x)) c.new-draw.ensures (begins_seed stream _ (up.0 ++ logged_words s.log) drew);
          taken_is = c.in-Ok-serve.ensures.taken;
          ends = told.ends;
        };
        served_is = c.tell.ensures.served;
      })),
      (told.written, told.holds, told.appends),
    )

pub returns-in-Ok-serve-clause-overfull : goal.returns-in-Ok-serve-clause-overfull
returns-in-Ok-serve-clause-overfull g c now number full =
    let up = c.in-Ok.ensures.set_up in
    absurd (overfull_sets_none_up c.args.call.now.id c.args.lines.now now c.now-now.result number up.0 c.in-Ok.router full up.1)

pub returns-in-Ok-serve-clause-within : goal.returns-in-Ok-serve-clause-within
returns-in-Ok-serve-clause-within g c =
    let up = c.in-Ok.ensures.set_up in
    let s = c.in-Ok-serve.served in
    let limit = c.in-Ok-serve.ensures.limit ∙ limit_of_set_up c.limit_stays.ensures c.args.call.now.id c.args.lines.now c.now-now.result up.0 c.in-Ok.router up.1 in
    within_told c.tell.result.status c.tell.result.served s (c.router_is_within_limits.ensures One s.router c.is_router.ensures limit)
    c.in-Ok-serve.ensures.bounded c.tell.ensures.served

pub returns-in-Ok-serve-clause-statuses : goal.returns-in-Ok-serve-clause-statuses
returns-in-Ok-serve-clause-statuses g c =
    let status = c.tell.result.status in
    elim (ended c.in-Ok-serve.served.end) [
      | inl all ↦ Contains-more (0 ∷ []) (4 ∷ 5 ∷ 6 ∷ []) 2 status (Contains-more (0 ∷ 4 ∷ []) (6 ∷ []) 5 status (c.tell.ensures.told all).3)
      | inr fails ↦ (3, lit< tt, sym (c.tell.ensures.untold fails).0)
    ]
