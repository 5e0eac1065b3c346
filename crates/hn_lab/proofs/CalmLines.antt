-- Lines that look, or let time pass, keep a calm home calm.
use Rattle.hn_base.proofs.Names.{◌≡◌, ◌∙◌, ◌+◌, ◌<◌, ◌↔◌, ℕ, zero, suc, List, [], ◌∷◌, None, Option, Some, slice_get, inl, inr, refl, sym, ap, subst, arith, All-head, All-tail, same_Some}
use Rattle.hn_lab.proofs.Names.{All, IsReached, Note, Line, Traced, WEvent, Member, Parts, IsReplayed, Report, Round, EndsAs, EndsBy, LineEnds, LinesDone, Times, ReportEnds, Mail, Stage}
use Rattle.hn_assign.specs.Fixed.{AreAssignmentsUnchanged}
use Rattle.hn_audit.specs.Heard.{IsCalmSince}
use Rattle.hn_audit.specs.Lasting.{IsLastingHome}
use Rattle.hn_audit.specs.Staying.{IsMemberAt, KeepAssignments}
use Rattle.hn_script.specs.declared.line.Line.TheVariants as line
use Rattle.hn_world.specs.declared.event.WEvent.TheVariants as event
use Rattle.hn_world.specs.Step.{Does}
use Rattle.hn_lab.specs.Resting.{OnlyLooks, IsCalmLine, CalmLinesKeepCalm}
use Rattle.hn_lab.proofs.RunsInTurns.{GoesRun, IsNamedAt, IsRunEvent, IsSameBut, RunLaws, from_front, lasting_run_keeps_calm, named_on, one_round, replayed_after}

-- ---- each router is at its place

-- over an event of a run
stands_by : (now : ℕ) (event : WEvent) (words : List ℕ) (notes : List Note) (w between : Parts) → Does event words notes w between → IsRunEvent now event w
    → (k : ℕ) (y : Member) → slice_get w.members k ≡ Some y → IsNamedAt between.members k y.name
stands_by now (event.Time moment) words notes w between does is k y at = (y, ap (λ (v : Parts). slice_get v.members k) does.gives ∙ at, refl)
stands_by now (event.Drop copy) words notes w between does is k y at = (y, ap (λ (v : Parts). slice_get v.members k) (does.quietly).gives ∙ at, refl)
stands_by now (event.Tick name) words notes w between does is k y at =
    let acts = does.acts in
    let next : Member = record acts.member { router = acts.next } in
    subst (λ (xs : List Member). IsNamedAt xs k y.name) (sym (ap (λ (v : Parts). v.members) acts.gives)) (named_on w.members does.place k acts.member next y acts.is_member refl at)
stands_by now (event.Deliver copy) words notes w between does is k y at =
    let acts = does.acts in
    let mail = does.mail in
    let next : Member = record acts.member { router = acts.next } in
    subst (λ (xs : List Member). IsNamedAt xs k y.name) (sym (ap (λ (v : Parts). v.members) does.gives ∙ ap (λ (v : Parts). v.members) acts.gives))
    (named_on w.members mail.to.place k acts.member next y acts.is_member refl at)
stands_by now _ words notes w between does is k y at = absurd is

abbrev Stands : Parts → Parts → Type 0
Stands before after = (k : ℕ) (y : Member) → slice_get before.members k ≡ Some y → (z : Member) × (slice_get after.members k ≡ Some z)

stands_run : (now : ℕ) (ts : List Traced) (a c : Parts) → GoesRun now a ts c → Stands a c
stands_run now [] a c is k y at = (y, ap (λ (w : Parts). slice_get w.members k) is ∙ at)
stands_run now (t ∷ ts) a c (b, (notes, step), runs, more) k y at =
    let found = stands_by now t.event t.words notes a step.between step.does runs k y at in
    let here : slice_get b.members k ≡ Some found.0 = ap (λ (w : Parts). slice_get w.members k) step.gives ∙ found.1 in
    stands_run now ts b c more k found.0 here

-- ---- what a run leaves

record Leaves (p a : Stage) : Type 0 where
  pub loss : a.loss ≡ p.loss
  pub route : a.route ≡ p.route
  pub replays : IsReplayed a.world
  pub stands : Stands p.world a.world

leaves_same : (p a : Stage) → IsReplayed p.world → IsSameBut p a → Leaves p a
leaves_same p a replays same = record {
  loss = same.loss;
  route = same.route;
  replays = subst IsReplayed (sym same.world) replays;
  stands = λ k y at. (y, ap (λ (w : Parts). slice_get w.members k) same.world ∙ at);
}

rounds_leave : RunLaws → (finish step n : ℕ) (p a : Stage) → p.route ≡ Mail → p.loss ≡ 0 → IsReplayed p.world → Times (λ s. s.world.moment < finish) (Round finish step) n p a → Leaves p a
rounds_leave laws finish step zero p a route loss replays is = subst (Leaves p) (sym is) (record { loss = refl; route = refl; replays = replays; stands = λ k y at. (y, at) })
rounds_leave laws finish step (suc n) p a route loss replays times =
    let h = from_front (λ s. s.world.moment < finish) (Round finish step) n p a times in
    let q = h.between in
    let one = one_round laws finish step p q route loss replays h.first in
    let stretch = one.stretch in
    let more = rounds_leave laws finish step n q a (one.route ∙ route) (one.loss ∙ loss) (replayed_after laws one.now stretch.ts p.world q.world replays stretch.goes) h.rest in
    record {
      loss = more.loss ∙ one.loss;
      route = more.route ∙ one.route;
      replays = more.replays;
      stands = λ k y at. let found = stands_run one.now stretch.ts p.world q.world stretch.goes k y at in more.stands k found.0 found.1;
    }

-- ---- a line

record Kept (until place : ℕ) (before after : Parts) (r : Member) : Type 0 where
  pub next : Member
  pub since : ℕ
  pub here : IsMemberAt place before after r next
  pub calm : IsCalmSince since after next
  pub keeps : KeepAssignments before after r next
  pub home : IsLastingHome until after next
  pub lately : after.moment < since + 20000

nothing_new : (until heard place : ℕ) (w : Parts) (r : Member) → slice_get w.members place ≡ Some r → IsCalmSince heard w r → IsLastingHome until w r → w.moment < heard + 20000
    → Kept until place w w r
nothing_new until heard place w r at calm home lately = record {
  next = r;
  since = heard;
  here = record { was = at; is = at };
  calm = calm;
  keeps = λ k s then both.
      let same : s ≡ then = same_Some s then (sym both.was ∙ both.is) in
      subst (λ (m : Member). (IsReached w r s ↔ IsReached w r m) × (IsReached w r s → AreAssignmentsUnchanged s.router.held.assigned m.router.held.assigned)) same
      ((λ is. is, λ is. is), λ _. refl);
  home = home;
  lately = lately;
}

report_stays : (of : Report) (p a : Stage) → ReportEnds of None p a → IsSameBut p a
report_stays of p a (q, (none, is), (lines, are, told)) =
    subst (IsSameBut p) (sym told) (record { world = ap (λ (s : Stage). s.world) is; loss = ap (λ (s : Stage). s.loss) is; route = ap (λ (s : Stage). s.route) is })

look_stays : (l : Line) (p a : Stage) → OnlyLooks l → LineEnds l None p a → IsSameBut p a
look_stays l p a look ends =
    let no_event : EndsBy l None None p a = subst (λ (o : Option WEvent). EndsBy l o None p a) look.no_event ends in
    let report : EndsAs l (Some look.report) None p a = subst (λ (o : Option Report). EndsAs l o None p a) look.is no_event in
    report_stays look.report p a report

record LineKeeps (until place : ℕ) (p a : Stage) (r : Member) : Type 0 where
  pub kept : Kept until place p.world a.world r
  pub leaves : Leaves p a

loss_stays : (p a : Stage) → p.loss ≡ 0 → LineEnds (line.Loss 0) None p a → IsSameBut p a
loss_stays p a loss (done, is) = subst (IsSameBut p) (sym is) (record { world = refl; loss = sym loss; route = refl })

seed_stays : (seed : ℕ) (p a : Stage) → LineEnds (line.Seed seed) None p a → IsSameBut p a
seed_stays seed p a (done, is) = subst (IsSameBut p) (sym is) (record { world = refl; loss = refl; route = refl })

still_keeps : (until heard place : ℕ) (p a : Stage) (r : Member) → IsReplayed p.world → slice_get p.world.members place ≡ Some r
    → IsCalmSince heard p.world r → p.world.moment < heard + 20000 → IsLastingHome until p.world r → IsSameBut p a → LineKeeps until place p a r
still_keeps until heard place p a r replays at calm lately home same = record {
  kept = subst (λ (w : Parts). Kept until place p.world w r) (sym same.world) (nothing_new until heard place p.world r at calm home lately);
  leaves = leaves_same p a replays same;
}

line_keeps : RunLaws → (until heard place : ℕ) (l : Line) (p a : Stage) (r : Member) → p.route ≡ Mail → p.loss ≡ 0 → IsReplayed p.world → slice_get p.world.members place ≡ Some r
    → IsCalmSince heard p.world r → p.world.moment < heard + 20000 → IsLastingHome until p.world r → IsCalmLine until l → LineEnds l None p a → LineKeeps until place p a r
line_keeps laws until heard place l p a r route loss replays at calm lately home (inr (inl look)) ends =
    still_keeps until heard place p a r replays at calm lately home (look_stays l p a look ends)
line_keeps laws until heard place l p a r route loss replays at calm lately home (inr (inr (inl is))) ends =
    still_keeps until heard place p a r replays at calm lately home (loss_stays p a loss (subst (λ (x : Line). LineEnds x None p a) is ends))
line_keeps laws until heard place l p a r route loss replays at calm lately home (inr (inr (inr (seed, is)))) ends =
    still_keeps until heard place p a r replays at calm lately home (seed_stays seed p a (subst (λ (x : Line). LineEnds x None p a) is ends))
line_keeps laws until heard place l p a r route loss replays at calm lately home (inl (finish, step, is, last, short)) ends =
    run_keeps (subst (λ (x : Line). LineEnds x None p a) is ends)
  where
    run_keeps : LineEnds (line.Run finish step) None p a → LineKeeps until place p a r
    run_keeps (inl refused) = absurd cc
    run_keeps (inr (le, (n, times, none))) =
        let (next, since, here, calm_then, keeps, home_then, lately_then) =
        lasting_run_keeps_calm laws until finish step heard place p a r route loss replays at calm home last short (omega (arith, short, lately)) (inr (le, (n, times, none))) in
        record {
          kept = record { next = next; since = since; here = here; calm = calm_then; keeps = keeps; home = home_then; lately = lately_then lately };
          leaves = rounds_leave laws finish step n p a route loss replays times;
        }

-- ---- lines

both_keep : (before between after : Parts) (r m next : Member) → Stands before between → KeepAssignments before between r m → KeepAssignments between after m next → KeepAssignments before after r next
both_keep before between after r m next stands one two k s then both =
    let (y, at) = stands k s both.was in
    let first = one k s y (record { was = both.was; is = at }) in
    let second = two k y then (record { was = at; is = both.is }) in (
      (λ is. second.0.0 (first.0.0 is), λ is. first.0.1 (second.0.1 is)),
      λ is. second.1 (first.0.0 is) ∙ first.1 is,
    )

lines_keep : RunLaws → (until heard place : ℕ) (lines : List (ℕ × Line)) (p a : Stage) (r : Member) → p.route ≡ Mail → p.loss ≡ 0 → IsReplayed p.world → slice_get p.world.members place ≡ Some r
    → IsCalmSince heard p.world r → p.world.moment < heard + 20000 → IsLastingHome until p.world r → All (λ l. IsCalmLine until l.1) lines → LinesDone lines p a → Kept until place p.world a.world r
lines_keep laws until heard place [] p a r route loss replays at calm lately home are is =
    subst (λ (s : Stage). Kept until place p.world s.world r) (sym is) (nothing_new until heard place p.world r at calm home lately)
lines_keep laws until heard place (l ∷ lines) p a r route loss replays at calm lately home are (q, said, done) =
    let one = line_keeps laws until heard place l.1 p q r route loss replays at calm lately home (All-head (λ (x : ℕ × Line). IsCalmLine until x.1) l lines are) said in
    let kept = one.kept in
    let left = one.leaves in
    let more = lines_keep laws until kept.since place lines q a kept.next (left.route ∙ route) (left.loss ∙ loss) left.replays (kept.here).is kept.calm kept.lately kept.home
    (All-tail (λ (x : ℕ × Line). IsCalmLine until x.1) l lines are) done in
    record {
      next = more.next;
      since = more.since;
      here = record { was = at; is = (more.here).is };
      calm = more.calm;
      keeps = both_keep p.world q.world a.world r kept.next more.next left.stands kept.keeps more.keeps;
      home = more.home;
      lately = more.lately;
    }

pub calm_lines_keep_calm : RunLaws → CalmLinesKeepCalm
calm_lines_keep_calm laws until heard place lines before after r route loss replays at calm lately home are done =
    let kept = lines_keep laws until heard place lines before after r route loss replays at calm lately home are done in
    (kept.next, kept.since, kept.here, kept.calm, kept.keeps, kept.home, kept.lately)
