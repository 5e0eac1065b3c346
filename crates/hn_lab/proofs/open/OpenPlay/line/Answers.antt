use Rattle.hn_base.proofs.Names.{◌≡◌, Option, Some, inl, inr, refl, ap, subst, same_Some}
use Rattle.hn_lab.proofs.Names.{Line, Version}
use Rattle.hn_script.specs.Entries.{IsEntry}
use Rattle.hn_script.specs.Fault.{LineFault}
use Rattle.hn_script.specs.Line.{of_version}
use Rattle.hn_lab.specs.Open.{Opened}
use Rattle.hn_lab.proofs.open.OpenPlay.line.Goals as goal

pub returns-in-Err-Code : goal.returns-in-Err-Code
returns-in-Err-Code c =
    let version : c.self.inside.course.version ≡ c.args.self.now.script.version = ap (λ (p : Opened). p.script.version) c.self.view_is in
    inr (inr (inl (
      c.in-Err-Code.code,
      subst (λ (v : Version). LineFault (of_version v) c.args.text.now c.in-Err-Code.code) version (c.in-Err-Code.ensures.fault c.in-Err-Code.code cc),
      cc,
      refl,
    )))

pub play_next-requires-clause-same : goal.play_next-requires-clause-same
play_next-requires-clause-same c =
    let v = c.self.inside.course.version in
    let Is : Option Line → Type 0 = λ e. IsEntry (of_version v) e c.args.text.now in
    same_Some c.in-Ok-Some-read_line.same c.in-Ok-Some.line (c.line_is_unique.ensures v c.args.text.now (Some c.in-Ok-Some-read_line.same) (Some c.in-Ok-Some.line)
    (subst Is c.in-Ok-Some-read_line.field-0-is c.in-Ok-Some-read_line.ensures.entry) (subst Is c.in-Ok-Some.field-0-is c.in-Ok-Some.ensures.entry))

pub play_next-requires-clause-entry : goal.play_next-requires-clause-entry
play_next-requires-clause-entry c =
    let v = c.self.inside.course.version in
    let version : v ≡ c.args.self.now.script.version = ap (λ (p : Opened). p.script.version) c.self.view_is in
    subst (λ (w : Version). IsEntry (of_version w) (Some c.in-Ok-Some.line) c.args.text.now) version
    (subst (λ (e : Option Line). IsEntry (of_version v) e c.args.text.now) c.in-Ok-Some.field-0-is c.in-Ok-Some.ensures.entry)

pub returns-in-Ok-Some-read_line : goal.returns-in-Ok-Some-read_line
returns-in-Ok-Some-read_line c =
    let v = c.self.inside.course.version in
    let version : v ≡ c.args.self.now.script.version = ap (λ (p : Opened). p.script.version) c.self.view_is in
    inl (
      c.in-Ok-Some.line,
      subst (λ (w : Version). IsEntry (of_version w) (Some c.in-Ok-Some.line) c.args.text.now) version
          (subst (λ (e : Option Line). IsEntry (of_version v) e c.args.text.now) c.in-Ok-Some.field-0-is c.in-Ok-Some.ensures.entry),
      c.play_next.ensures,
    )
