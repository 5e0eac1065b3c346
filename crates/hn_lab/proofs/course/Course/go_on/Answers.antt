use Rattle.hn_base.proofs.Names.{◌≡◌, ◌∙◌, ℕ, IsSome, inl, refl, sym, ap, take, true}
use Rattle.hn_lab.proofs.Names.{Playing, Refused, Line, report_of}
use Rattle.hn_script.specs.Script.{with_line}
use Rattle.hn_lab.specs.Course.{opened_of, script_of}
use Rattle.hn_lab.specs.Open.{is_plain}
use Rattle.hn_lab.proofs.OpenPlays.{ending_of, keeps, stays, refuses, stops_so, played_as, cut_back}
use Rattle.hn_lab.proofs.course.Course.go_on.Goals as goal

pub returns-in-Ok-clause-played : goal.returns-in-Ok-clause-played
returns-in-Ok-clause-played c =
    let s = c.args.self.now in
    let m = c.play_line.new in
    let now = c.add.new.self in
    let rest = c.add.ensures.rest in (
      played_as (with_line c.args.same (script_of s)) (script_of now) s.end now.end m.playing now.playing m.out now.text c.add.ensures.script rest.1 rest.0 rest.2
          (keeps (script_of s) c.args.line c.args.same s.end s.playing m.playing s.text m.out c.requires.is_open c.requires.same c.requires.played.0 c.in-Ok.ensures.ends),
      c.add.ensures.kept,
    )

pub returns-then-plain-clause-played : goal.returns-then-plain-clause-played
returns-then-plain-clause-played c =
    let s = c.args.self.now in
    let new = c.play_line.new in
    let code = c.in-Err-Refused.code in
    let plain : is_plain c.args.line ≡ true = sym c.is_plain-plain.ensures ∙ c.if-plain.true in
    let ends = ending_of c.args.line c.in-Err-Refused.field-0 (Refused code) s.playing new.playing s.text new.out c.in-Err-Refused.field-0-is c.in-Err-Refused.ensures.ends in
    ((stays c.mail_delivers.ensures (script_of s) c.args.line code s.end s.playing new.playing s.text new.out c.requires.is_open plain c.requires.played.0 ends).0, c.requires.played.1)

pub returns-then-plain-clause-goes : goal.returns-then-plain-clause-goes
returns-then-plain-clause-goes c =
    let s = c.args.self.now in
    let new = c.play_line.new in
    let code = c.in-Err-Refused.code in
    let plain : is_plain c.args.line ≡ true = sym c.is_plain-plain.ensures ∙ c.if-plain.true in
    let ends = ending_of c.args.line c.in-Err-Refused.field-0 (Refused code) s.playing new.playing s.text new.out c.in-Err-Refused.field-0-is c.in-Err-Refused.ensures.ends in
    let same = stays c.mail_delivers.ensures (script_of s) c.args.line code s.end s.playing new.playing s.text new.out c.requires.is_open plain c.requires.played.0 ends in (
      refuses (script_of s) c.args.line code s.end s.playing new.playing s.text new.out c.requires.is_open c.requires.played.0 ends,
      λ i. record { script = script_of s; source = s.source.items; end = s.end; world = same.2 i; text = same.1 i },
    )

pub refuse-requires-clause-stopped : goal.refuse-requires-clause-stopped
refuse-requires-clause-stopped c =
    let s = c.args.self.now in
    let new = c.play_line.new in
    let code = c.in-Err-Refused.code in
    let ends = ending_of c.args.line c.in-Err-Refused.field-0 (Refused code) s.playing new.playing s.text new.out c.in-Err-Refused.field-0-is c.in-Err-Refused.ensures.ends in
    stops_so (script_of s) c.args.line c.args.same code s.end s.playing new.playing s.text new.out c.requires.is_open c.requires.same c.requires.played.0 ends

pub returns-in-Ok-clause-goes : goal.returns-in-Ok-clause-goes
returns-in-Ok-clause-goes c =
    let s = c.args.self.now in (
      record { script = c.add.ensures.script ∙ ap (λ (l : Line). with_line l (script_of s)) c.requires.same; source = c.add.ensures.source },
      c.add.ensures.rest.1 ∙ c.requires.is_open,
    )

pub returns-then-is_report : goal.returns-then-is_report
returns-then-is_report c =
    let s = c.args.self.now in
    let new = c.play_line.new in
    let is : IsSome (report_of c.args.line) = cc in
    let playing : new.playing ≡ s.playing = c.play_line.ensures.looks is in
    let text : c.cut.new.self ≡ s.text =
    c.cut.ensures ∙ ap (λ (n : ℕ). take n new.out) c.len-so_far.ensures ∙ cut_back c.args.line c.in-Err.field-0 s.playing new.playing s.text new.out c.in-Err.ensures.ends in
    let same : opened_of (record s { playing = new.playing; text = c.cut.new.self }) ≡ opened_of s =
    λ i. record { script = script_of s; source = s.source.items; end = s.end; world = (ap (λ (p : Playing). p.world.parts) playing) i; text = text i } in
    record {
      played = (
        played_as (script_of s) (script_of s) s.end s.end s.playing new.playing s.text c.cut.new.self refl refl playing text c.requires.played.0,
        c.requires.played.1,
      );
      goes = (inl same, λ _. same);
    }
